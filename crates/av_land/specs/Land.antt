-- A world: its loaded chunks, what is at each block, and the entries of each chunk.
use Rattle.std.specs.Prelude.{ℕ, Bool, false, ◌&&◌, ◌||◌, List, [], ◌∷◌}
use Rattle.av_types.specs.Positions.{chunk_of, is_block_of}
use Rattle.av_types.specs.declared.position.Pos.{Pos}
use Rattle.av_types.specs.declared.position.ChunkPos.{ChunkPos}
use Rattle.av_types.specs.declared.position.Height.{Height}
use Rattle.av_ticks.specs.Entries.{is_pending}
use Rattle.av_cells.specs.Positions.{same_chunk}
use Rattle.av_cells.specs.World.{World, Lists}

-- S is what stands at a block: its state, or the number of its state
pub record Land (S : Type 0) : Type 0 where
  pub height : Height
  -- in the order (z, x)
  pub chunks : List ChunkPos
  pub at : Pos → S
  pub lists : Lists

abbrev pub has_chunk : List ChunkPos → ChunkPos → Bool
has_chunk [] c = false
has_chunk (d ∷ ds) c = same_chunk d c || has_chunk ds c

abbrev pub is_loaded : {S : Type 0} → Land S → Pos → Bool
is_loaded w p = has_chunk w.chunks (chunk_of p) && is_block_of w.height p.y

-- an entry of a loaded block waits
abbrev pub waits : {S : Type 0} → Land S → Pos → Bool
waits w p = is_loaded w p && is_pending p (w.lists (chunk_of p))

-- as the rule sees it
abbrev pub cells_of : Land ℕ → World
cells_of w = record { loaded = is_loaded w; number = w.at; pending = waits w }
