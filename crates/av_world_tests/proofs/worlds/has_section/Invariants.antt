use Rattle.std.proofs.Common.{◌≡◌, ℕ, ◌<◌, get_or, false}
use Rattle.av_types.specs.Positions.{same_section}
use Rattle.av_types.specs.declared.position.SectionPos.{SectionPos}
use Rattle.av_world_tests.proofs.worlds.has_section.Given as goal

abbrev pub invariant-loop-section : goal.invariant-loop-section
invariant-loop-section l = (j : ℕ) (d : SectionPos) → j < l.section-index → same_section l.at (get_or l.sections j d) ≡ false
