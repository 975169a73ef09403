use Rattle.std.proofs.Common.{arith}
use Rattle.av_rules.proofs.kinds.Kinds.count.Goals as goal

pub returns : goal.returns
returns c = omega (arith, c.len.ensures, c.args.self.now.rows.ok.0)
