use Rattle.std.proofs.Common.{◌≡◌, ◌<◌, ℕ, get_or, true}
use Rattle.av_map.specs.Sections.{air_look}
use Rattle.av_map.proofs.columns.are_air.Given as goal

abbrev pub invariant-loop-number : goal.invariant-loop-number
invariant-loop-number l = (k : ℕ) → k < l.number-index → (get_or l.looks (get_or l.palette k 0) air_look).is_air ≡ true
