-- What a reader of a chunk answers.
use Rattle.std.specs.Prelude.{◌≡◌, ℤ, List, length, None, true, false, IsSome}
use Rattle.std.specs.List.{All}
use Rattle.av_types.specs.Faults.{IsRefusal}
use Rattle.av_types.specs.Positions.{is_section_of}
use Rattle.av_types.specs.declared.position.Pos.{Pos}
use Rattle.av_types.specs.declared.position.ChunkPos.{ChunkPos}
use Rattle.av_types.specs.declared.position.Height.{Height}
use Rattle.av_types.specs.declared.fault.Fault.{Fault}
use Rattle.av_tags.specs.Nbt.{Document, NamedTag}
use Rattle.av_tags.specs.Shape.{lacks}
use Rattle.av_state.specs.BlockState.{BlockState}
use Rattle.av_state.specs.StateList.{with_states}
use Rattle.av_ticks.specs.Entries.{is_pending}
use Rattle.av_ticks.specs.Ticks.{entries}
use Rattle.av_document.specs.Ticks.{lies_in}
use Rattle.av_document.specs.Law.{HasInts}
use Rattle.av_document.specs.Chunk.{root_tags, has_level, status_of, is_full, is_bad_chunk, is_elsewhere, first_fault, all_states, DenotesChunk}
use Rattle.av_chunk.specs.declared.chunk.Chunk.{Chunk}
use Rattle.av_chunk.specs.declared.chunk.Reading.{Reading}
use Rattle.av_chunk.specs.declared.chunk.Reading.TheVariants.{Full, Kept}
use Rattle.av_chunk.specs.declared.rest.ChunkRest.{ChunkRest}
use Rattle.av_chunk.specs.Views.{section_in, state_in, cells_of, pending_in, rest_of}

-- all sections of the height are there
pub record HasAllSections (h : Height) (chunk : Chunk) : Type 0 where
  pub count : length chunk.sections.items ≡ h.sections
  pub each_there : (y : ℤ) → is_section_of h y ≡ true → IsSome (section_in h chunk y)

-- A loaded chunk: the chunk and the rest that the document denotes, by a table that the chunk's states came into, in the order of the file.
-- Its entries lie in it, and their numbers are Ints.
pub record IsLoaded (c : ChunkPos) (h : Height) (d : Document) (old new : List BlockState) (chunk : Chunk) (rest : ChunkRest) : Type 0 where
  pub no_fault : first_fault h c old (root_tags d) ≡ None
  pub denotes : DenotesChunk c h d (cells_of new h chunk) (entries chunk.ticks) (rest_of rest)
  pub numbered : (p : Pos) → lies_in c h p ≡ true → IsSome (state_in new h chunk p)
  pub whole : HasAllSections h chunk
  pub within : All (λ e. lies_in c h e.pos ≡ true) (entries chunk.ticks)
  pub ints : All (HasInts 0) (entries chunk.ticks)
  pub pending : (p : Pos) → lies_in c h p ≡ true → pending_in h chunk p ≡ is_pending p (entries chunk.ticks)
  pub pos_is : rest.pos ≡ c
  pub height_is : rest.height ≡ h
  pub states : new ≡ with_states old (all_states h (root_tags d))

-- a chunk that is not full and has no fault leaves the table as it was
pub record IsKept (c : ChunkPos) (h : Height) (d : Document) (old new : List BlockState) : Type 0 where
  pub no_fault : first_fault h c old (root_tags d) ≡ None
  pub not_full : is_full (root_tags d) ≡ false
  pub states : new ≡ old

abbrev pub IsReading : ChunkPos → Height → Document → List BlockState → List BlockState → Reading → Type 0
IsReading c h d old new (Full chunk rest) = IsLoaded c h d old new chunk rest
IsReading c h d old new Kept = IsKept c h d old new

-- a chunk that is to be loaded, and is at its position: if it has a fault, then one of its sections, its ticks or the table
pub record IsAdmitted (h : Height) (c : ChunkPos) (root : List NamedTag) : Type 0 where
  pub level : has_level root ≡ false
  pub status : lacks (status_of root) ≡ false
  pub full : is_full root ≡ true
  pub shape : is_bad_chunk h root ≡ false
  pub here : is_elsewhere c root ≡ false

-- every fault but memory is the first that holds
abbrev pub IsChunkRefusal : ChunkPos → Height → Document → List BlockState → Fault → Type 0
IsChunkRefusal c h d old = IsRefusal (first_fault h c old (root_tags d))
