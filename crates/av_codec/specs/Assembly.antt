-- A chunk's document, taken apart. Working definitions: no public clause cites them.
use Rattle.std.specs.Prelude.{◌≡◌, ◌≤◌, ℕ, List, length, codes}
use Rattle.av_types.specs.declared.position.ChunkPos.{ChunkPos}
use Rattle.av_types.specs.declared.position.Height.{Height}
use Rattle.av_tags.specs.Nbt.{Document}
use Rattle.av_tags.specs.ByName.{emptied}
use Rattle.av_tags.specs.View.{named_views}
use Rattle.av_tags.specs.declared.tag.Named.{Named}
use Rattle.av_state.specs.BlockState.{BlockState}
use Rattle.av_state.specs.StateList.{most_states}
use Rattle.av_document.specs.Chunk.{root_tags, sections, ticks}
use Rattle.av_document.specs.Stored.{IsStored}
use Rattle.av_codec.specs.declared.reading.sections.Sections.{Sections}
use Rattle.av_codec.specs.declared.reading.water.Ticks.{Ticks}
use Rattle.av_chunk.specs.Reading.{IsAdmitted}
use Rattle.av_codec.specs.SectionsRead.{AreSectionsRead}
use Rattle.av_codec.specs.TicksRead.{AreTicks}

-- what the sections and the ticks of a document that is to be loaded were read as, and the tags that are left
pub record IsTakenApart (c : ChunkPos) (h : Height) (d : Document) (old new : List BlockState) (name : List ℕ) (tags : List Named) (read : Sections) (t : Ticks) : Type 0 where
  pub stored : IsStored d
  pub admitted : IsAdmitted h c (root_tags d)
  pub name_is : name ≡ d.name
  pub tags_are : named_views tags ≡ emptied (codes "fluid_ticks") (emptied (codes "sections") (root_tags d))
  pub sections_are : AreSectionsRead h (sections (root_tags d)) old new read
  pub ticks_are : AreTicks c h (ticks (root_tags d)) t
  pub few : length new ≤ most_states
