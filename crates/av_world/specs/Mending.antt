-- Parts that come back.
use Rattle.std.specs.Prelude.{◌≡◌, Bool, if◌then◌else◌}
use Rattle.av_types.specs.declared.position.SectionPos.{SectionPos}
use Rattle.av_cells.specs.World.{World, Lists}
use Rattle.av_cells.specs.Grid.{Grid, cells_of, only, without}
use Rattle.av_world.specs.Lawful.{IsTied}
use Rattle.av_world.specs.OutOf.{mended}

-- a world where the loaded blocks of a part have the part's numbers
abbrev pub renumbered_by : World → World → World
renumbered_by part w = record { loaded = w.loaded; number = λ q. if part.loaded q then part.number q else w.number q; pending = w.pending }

-- Where sections were taken out of a world, and blocks of these sections come back, all is as it was but for their numbers, whatever was added to them.
abbrev pub MendUndoesCarve : Type 0
MendUndoesCarve = (l : Lists) (g : Grid) (picked : SectionPos → Bool) (part : World) → IsTied (cells_of g) l → part.loaded ≡ (cells_of (only picked g)).loaded
    → mended l part (cells_of (without picked g)) ≡ renumbered_by part (cells_of g)
