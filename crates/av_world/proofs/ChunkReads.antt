-- What a world has of one of its chunks.
use Rattle.std.proofs.Common.{◌≡◌, ℕ, ◌<◌, ◌≤◌, zero, suc, Bool, true, false, cond, ◌||◌, List, [], ◌∷◌, length, slice_get, Some, refl, sym, ap, subst, ◌∙◌, arith}
use Rattle.std.proofs.lemmas.Option.{slice_get_read, slice_get_within, get_or_from_slice_get}
use Rattle.av_types.specs.Positions.{chunk_of, section_of, place_of}
use Rattle.av_types.specs.declared.position.Pos.{Pos}
use Rattle.av_types.specs.declared.position.ChunkPos.{ChunkPos}
use Rattle.av_chunk.specs.declared.chunk.Chunk.{Chunk}
use Rattle.av_cells.specs.Positions.{same_chunk}
use Rattle.av_cells.specs.Grid.{is_here, number_in, pending_in}
use Rattle.av_land.specs.Land.{has_chunk}
use Rattle.av_world.specs.Index.{slot, IsRising}
use Rattle.av_world.specs.Near.{slot_at}
use Rattle.av_world.specs.Sections.{layer_in, filling_in, entries_in}
use Rattle.av_world.specs.Inserted.{chunk_grid}
use Rattle.av_world.specs.Views.{height_of, positions_of, chunks_of, blocks}
use Rattle.av_world.specs.Chunks.{IsChunkOf}
use Rattle.av_world.specs.declared.worlds.World.{World}
use Rattle.av_world.proofs.Search.{near_is_slot}

-- a position that is there stands at its slot
pub slot_there : (ps : List ChunkPos) (c : ChunkPos) → slot ps c < length ps → slice_get ps (slot ps c) ≡ Some c
slot_there ps c h = slice_get_read ps (length ps) (slot ps c) c refl h (sym (slot_at ps c c h))

pub has_chunk_past : (ps : List ChunkPos) (c : ChunkPos) → length ps ≤ slot ps c → has_chunk ps c ≡ false
has_chunk_past [] c h = refl
has_chunk_past (p ∷ ps) c h = by (same_chunk p c) h (has_chunk_past ps c) where
  by : (b : Bool) → suc (length ps) ≤ cond b zero (suc (slot ps c)) → (length ps ≤ slot ps c → has_chunk ps c ≡ false) → b || has_chunk ps c ≡ false
  by true h rest = absurd (omega arith)
  by false h rest = rest (omega arith)

pub has_chunk_there : (ps : List ChunkPos) (c : ChunkPos) → slot ps c < length ps → has_chunk ps c ≡ true
has_chunk_there [] c h = absurd (omega arith)
has_chunk_there (p ∷ ps) c h = by (same_chunk p c) h (has_chunk_there ps c) where
  by : (b : Bool) → cond b zero (suc (slot ps c)) < suc (length ps) → (slot ps c < length ps → has_chunk ps c ≡ true) → b || has_chunk ps c ≡ true
  by true h rest = refl
  by false h rest = rest (omega arith)

-- an index of a position is its slot
pub slot_of_index : (ps : List ChunkPos) (c : ChunkPos) (i : ℕ) → IsRising ps → i < length ps → slice_get ps i ≡ Some c → slot ps c ≡ i
slot_of_index ps c i rising below at = near_is_slot ps c c i rising below (get_or_from_slice_get ps i c c at)

-- the chunk at the index of a position
pub chunk_of_index : (w : World) (i : ℕ) (c : ChunkPos) (x : Chunk) → slice_get (positions_of w) i ≡ Some c → slice_get (chunks_of w) i ≡ Some x → IsChunkOf w c x
chunk_of_index w i c x at is =
    let below : i < length (positions_of w) = slice_get_within (positions_of w) i c at in
    let inside : i < length (chunks_of w) = slice_get_within (chunks_of w) i x is in
    let here : slot (positions_of w) c ≡ i = slot_of_index (positions_of w) c i w.lawful.rising below at in
    let found : slice_get (chunks_of w) (slot (positions_of w) c) ≡ Some x = ap (slice_get (chunks_of w)) here ∙ is in
    record {
      sections = λ s e. ap (λ d. filling_in (layer_in (height_of w) (slice_get (chunks_of w) (slot (positions_of w) d)) s.y)) e ∙ ap (λ o. filling_in (layer_in (height_of w) o s.y)) found;
      entries_are = ap entries_in found;
      count = subst (λ (y : Chunk). length y.sections.items ≡ (height_of w).sections) (get_or_from_slice_get (chunks_of w) i x x is) (w.lawful.whole i x inside);
    }

-- the blocks of a chunk are those of its sections
pub loaded_in_chunk : (w : World) (c : ChunkPos) (x : Chunk) → IsChunkOf w c x → (p : Pos) → chunk_of p ≡ c → (blocks w).loaded p ≡ is_here (chunk_grid (height_of w) x (section_of p))
loaded_in_chunk w c x r p e = ap is_here (r.sections (section_of p) e)

pub number_in_chunk : (w : World) (c : ChunkPos) (x : Chunk) → IsChunkOf w c x → (p : Pos) → chunk_of p ≡ c → (blocks w).number p ≡ number_in (chunk_grid (height_of w) x (section_of p)) (place_of p)
number_in_chunk w c x r p e = ap (λ f. number_in f (place_of p)) (r.sections (section_of p) e)

pub pending_in_chunk : (w : World) (c : ChunkPos) (x : Chunk) → IsChunkOf w c x → (p : Pos) → chunk_of p ≡ c → (blocks w).pending p ≡ pending_in (chunk_grid (height_of w) x (section_of p)) (place_of p)
pending_in_chunk w c x r p e = ap (λ f. pending_in f (place_of p)) (r.sections (section_of p) e)
