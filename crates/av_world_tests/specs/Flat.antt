-- Flat chunks, and worlds of them.
use Rattle.std.specs.Prelude.{◌≡◌, ℕ, ◌<◌, List, [], length, false, All, Option, Some, None}
use Rattle.av_types.specs.declared.position.Height.{Height}
use Rattle.av_section.specs.Section.{number_at, is_pending}
use Rattle.av_section.specs.declared.section.Section.{Section}
use Rattle.av_ticks.specs.Ticks.{entries}
use Rattle.av_chunk.specs.declared.chunk.Chunk.{Chunk}
use Rattle.av_cells.specs.Rule.{HasKinds}
use Rattle.av_cells.specs.World.{Lists}
use Rattle.av_types.specs.declared.position.ChunkPos.{ChunkPos}
use Rattle.av_world.specs.OutOf.{IsPartOf}
use Rattle.av_world.specs.ParcelViews.{blocks as parcel_blocks, lists as parcel_lists}
use Rattle.av_world.specs.Views.{blocks}
use Rattle.av_world.specs.Lands.{IsUncarved}
use Rattle.av_world.specs.declared.parcels.Parcel.{Parcel}
use Rattle.av_world.specs.declared.worlds.World.{World}

-- no place waits, and each has air, water or stone
pub record IsCalm (s : Section) : Type 0 where
  pub none : (i : ℕ) → is_pending s i ≡ false
  pub below : (i : ℕ) → i < 4096 → number_at s i < 11

-- it is there, and so
abbrev pub IsCalmSlot : Option Section → Type 0
IsCalmSlot None = ⊥
IsCalmSlot (Some s) = IsCalm s

-- a chunk of all sections, each so, and without entries
pub record IsFlat (h : Height) (x : Chunk) : Type 0 where
  pub count : length x.sections.items ≡ h.sections
  pub calm : All IsCalmSlot x.sections.items
  pub none : entries x.ticks ≡ []

-- no section is out, and each block is air, water or stone
pub record IsPlain (w : World) : Type 0 where
  pub whole : IsUncarved w
  pub numbers : HasKinds 11 (blocks w)

-- what is a part of a world stays one
abbrev pub StaysPart : Parcel → Parcel → Type 0
StaysPart old new =
    (h : Height) (ps : List ChunkPos) (l : Lists) → IsPartOf h ps l (parcel_blocks old) (parcel_lists old) → IsPartOf h ps l (parcel_blocks new) (parcel_lists new)
