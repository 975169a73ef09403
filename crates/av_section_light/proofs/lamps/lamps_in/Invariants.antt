use Rattle.std.proofs.Common.{◌≡◌, ◌<◌, ℕ}
use Rattle.std.specs.Prelude.{Contains, IsTrue}
use Rattle.av_types.specs.Positions.{section_of}
use Rattle.av_types.specs.declared.position.Pos.{Pos}
use Rattle.av_cells.specs.Grid.{cells_of}
use Rattle.av_section_light.specs.Light.{terrain_of}
use Rattle.av_section_light.specs.Lamps.{section_at}
use Rattle.av_section_light.proofs.lamps.lamps_in.Given as goal

abbrev pub invariant-loop-number : goal.invariant-loop-number
invariant-loop-number g l =
    (n : ℕ) → n < l.number → (p : Pos) → section_of p ≡ section_at l.chunk l.height n → IsTrue ((terrain_of l.kinds (cells_of (g.S.Sections.grid l.sections))).loaded p)
    → 0 < (terrain_of l.kinds (cells_of (g.S.Sections.grid l.sections))).emission p → Contains l.lamps.items p
