-- A chunk put into a world.
use Rattle.std.specs.Prelude.{◌≡◌, ℕ, ◌<◌, ◌≤◌, List, length, slice_index_or, insert, true, is_some, IsTrue, if◌then◌else◌}
use Rattle.std.specs.List.{All}
use Rattle.av_types.specs.Positions.{chunk_of, section_of, place_of, chunk_of_section}
use Rattle.av_types.specs.declared.position.Pos.{Pos}
use Rattle.av_types.specs.declared.position.ChunkPos.{ChunkPos}
use Rattle.av_types.specs.declared.position.Height.{Height}
use Rattle.av_types.specs.declared.tick.Entry.{Entry}
use Rattle.av_ticks.specs.Entries.{is_pending}
use Rattle.av_ticks.specs.Ticks.{entries}
use Rattle.av_document.specs.Ticks.{lies_in}
use Rattle.av_chunk.specs.declared.chunk.Chunk.{Chunk}
use Rattle.av_cells.specs.Positions.{same_chunk}
use Rattle.av_cells.specs.World.{Lists}
use Rattle.av_cells.specs.Grid.{Grid, is_here, pending_in}
use Rattle.av_world.specs.Index.{before}
use Rattle.av_world.specs.Sections.{layer_at, filling_in}

-- where a position belongs in a rising list
pub record BelongsAt (ps : List ChunkPos) (c : ChunkPos) (i : ℕ) : Type 0 where
  pub most : i ≤ length ps
  pub low : (k : ℕ) (d : ChunkPos) → k < i → before (slice_index_or ps k d) c ≡ true
  pub high : (k : ℕ) (d : ChunkPos) → i ≤ k → k < length ps → before c (slice_index_or ps k d) ≡ true

-- a list with one more position, where it belongs
pub record Inserts (old : List ChunkPos) (c : ChunkPos) (new : List ChunkPos) : Type 0 where
  pub index : ℕ
  pub belongs : BelongsAt old c index
  pub is : new ≡ insert old index c

-- the sections of a chunk
abbrev pub chunk_grid : Height → Chunk → Grid
chunk_grid h x s = filling_in (layer_at h x.sections.items s.y)

abbrev pub with_chunk : Grid → ChunkPos → Grid → Grid
with_chunk g c x s = if same_chunk c (chunk_of_section s) then x s else g s

abbrev pub with_list : Lists → ChunkPos → List Entry → Lists
with_list l c es d = if same_chunk c d then es else l d

-- no section of it is out
abbrev pub IsFull : Chunk → Type 0
IsFull x = All (λ o. IsTrue (is_some o)) x.sections.items

-- A chunk for a position: as many sections as the height, its entries in it, and pending where there is an entry.
pub record IsNewChunk (c : ChunkPos) (h : Height) (x : Chunk) : Type 0 where
  pub whole : length x.sections.items ≡ h.sections
  pub within : All (λ e. lies_in c h e.pos ≡ true) (entries x.ticks)
  pub tied : (p : Pos) → chunk_of p ≡ c → IsTrue (is_here (chunk_grid h x (section_of p))) → pending_in (chunk_grid h x (section_of p)) (place_of p) ≡ is_pending p (entries x.ticks)
