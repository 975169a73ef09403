use Rattle.std.proofs.Common.{arith, ◌≡◌, ◌+◌, ℕ, Option, Some, None}
use Rattle.std.specs.Prelude.{MatchOption}
use Rattle.av_types.specs.declared.position.Pos.{Pos}
use Rattle.av_flood.proofs.Queues.{popped_or_none}
use Rattle.av_flood.proofs.buckets.Buckets.pop.Goals as goal

no_length : (r : Option Pos) (a b n : ℕ) → b ≡ n → MatchOption r ((a ≡ 0) × (b ≡ 0)) (λ _. b + 1 ≡ a) → MatchOption r (n ≡ 0) (λ _. Unit {0})
no_length None a b n e h = omega arith
no_length (Some p) a b n e h = tt

pub returns : goal.returns
returns c = popped_or_none (λ v. v.items) c.args.self.now.levels.items c.args.level c.index_mut-bucket.result.now c.pop.new.self c.pop.result (omega (arith, c.args.self.now.sixteen, c.args.self.now.levels.ok.0)) c.index_mut-bucket.ensures.value c.pop.ensures.items (no_length c.pop.result _ _ _ c.pop.new.self.ok.0 c.pop.ensures.cases)
