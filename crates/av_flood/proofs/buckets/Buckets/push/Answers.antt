use Rattle.std.proofs.Common.{arith}
use Rattle.av_flood.proofs.Queues.{IsPushed-set}
use Rattle.av_flood.proofs.buckets.Buckets.push.Goals as goal

pub returns : goal.returns
returns c = IsPushed-set (λ v. v.items) c.args.self.now.levels.items c.args.level c.index_mut-bucket.result.now c.push.new.self c.args.pos (omega (arith, c.args.self.now.sixteen, c.args.self.now.levels.ok.0)) c.index_mut-bucket.ensures.value c.in_ok-push.ensures.items
