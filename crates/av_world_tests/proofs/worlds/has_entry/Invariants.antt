use Rattle.std.proofs.Common.{◌≡◌, ℕ, ◌<◌, get_or, false}
use Rattle.av_types.specs.Positions.{same_pos}
use Rattle.av_types.specs.declared.tick.Made.{Made}
use Rattle.av_world_tests.proofs.worlds.has_entry.Given as goal

abbrev pub invariant-loop-one : goal.invariant-loop-one
invariant-loop-one l = (j : ℕ) (d : Made) → j < l.one-index → same_pos l.pos (get_or l.made j d).entry.pos ≡ false
