use Rattle.std.proofs.Common.{◌≡◌, ℕ, ◌+◌, ◌<◌, [], map, get_or}
use Rattle.std.specs.Cmp.Lexicographic.{slice_cmp}
use Rattle.std.specs.Ordering.{nat_cmp}
use Rattle.std.specs.declared.cmp.Ordering.TheVariants.{Less}
use Rattle.av_nbt.proofs.distinct.rise.Given as goal

abbrev pub invariant-loop-index : goal.invariant-loop-index
invariant-loop-index l = (k : ℕ) → k + 1 < l.index → slice_cmp nat_cmp (get_or (map (λ b. b.now) l.names) k []) (get_or (map (λ b. b.now) l.names) (k + 1) []) ≡ Less
