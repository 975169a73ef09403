-- The entries of a tick in parts, where the sections are those of chunks, 16 blocks along each axis.
use Rattle.std.specs.Prelude.{List}
use Rattle.av_types.specs.declared.position.Pos.{Pos}
use Rattle.av_types.specs.declared.position.SectionPos.{SectionPos}
use Rattle.av_types.specs.declared.tick.Entry.{Entry}
use Rattle.av_types.specs.Positions.{section_of}
use Rattle.av_play.specs.declared.event.DueEntry.{DueEntry}
use Rattle.av_cells.specs.World.{World}
use Rattle.av_play.specs.Partition as divided
pub use Rattle.av_play.specs.Partition.{numbered, part_at, BeginsBefore, HasEntry, count_of}

abbrev pub InTerritory : World → Pos → SectionPos → Type 0
InTerritory = divided.InTerritory section_of

abbrev pub ShareSection : World → Pos → Pos → Type 0
ShareSection = divided.ShareSection section_of

abbrev pub IsChain : World → List DueEntry → DueEntry → List DueEntry → DueEntry → Type 0
IsChain = divided.IsChain section_of

abbrev pub AreLinked : World → List DueEntry → DueEntry → DueEntry → Type 0
AreLinked = divided.AreLinked section_of

abbrev pub IsPlan : World → List Entry → List (List DueEntry) → Type 0
IsPlan = divided.IsPlan section_of

abbrev pub IsOfPart : World → List DueEntry → SectionPos → Type 0
IsOfPart = divided.IsOfPart section_of
