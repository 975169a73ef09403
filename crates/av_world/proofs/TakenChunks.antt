-- Chunks that are taken back one after the other.
use Rattle.std.proofs.Common.{◌≡◌, ℕ, ◌+◌, ◌<◌, ◌≤◌, ◌||◌, ◌∷◌, ◌++◌, [], Bool, true, false, cond, List, length, take, get_or, slice_get, Some, refl, sym, ap, ◌∙◌, arith}
use Rattle.std.proofs.lemmas.List.{take_all}
use Rattle.std.proofs.lemmas.Option.{slice_get_read}
use Rattle.av_types.specs.Positions.{chunk_of_section}
use Rattle.av_types.specs.declared.position.ChunkPos.{ChunkPos}
use Rattle.av_types.specs.declared.position.SectionPos.{SectionPos}
use Rattle.av_types.proofs.SamePositions.{same_chunk_is}
use Rattle.av_ticks.specs.Ticks.{entries}
use Rattle.av_chunk.specs.declared.chunk.Chunk.{Chunk}
use Rattle.av_cells.specs.Positions.{same_chunk}
use Rattle.av_land.specs.Land.{has_chunk}
use Rattle.av_world.specs.Chunks.{IsChunkOf}
use Rattle.av_world.specs.Inserted.{chunk_grid}
use Rattle.av_world.specs.Lending.{IsExchanged, IsTakenBack}
use Rattle.av_world.specs.Views.{height_of, positions_of, is_broken, grid, lists}
use Rattle.av_world.specs.declared.worlds.World.{World}
use Rattle.av_world.proofs.ChunkReads.{chunk_of_index}
use Rattle.av_world.proofs.LentChunks.{has_next}

-- the chunks at the first i positions are as in lent
pub record IsTakingBack (old now lent : World) (i : ℕ) : Type 0 where
  pub grid_is : (s : SectionPos) → grid now s ≡ cond (has_chunk (take i (positions_of lent)) (chunk_of_section s)) (grid lent s) (grid old s)
  pub lists_are : (c : ChunkPos) → lists now c ≡ cond (has_chunk (take i (positions_of lent)) c) (lists lent c) (lists old c)
  pub height_is : height_of now ≡ height_of old
  pub positions_are : positions_of now ≡ positions_of old
  pub broken_is : is_broken now ≡ is_broken old

pub taken_next : (old now new lent : World) (i : ℕ) (c : ChunkPos) (x : Chunk) → IsTakingBack old now lent i → i < length (positions_of lent) → height_of lent ≡ height_of old → IsChunkOf lent (get_or (positions_of lent) i c) x
    → IsExchanged now new (get_or (positions_of lent) i c) x → IsTakingBack old new lent (i + 1)
taken_next old now new lent i d x t below height of e = record {
  grid_is = λ s. ap (λ g. g s) e.grid_is ∙ grids s (same_chunk c (chunk_of_section s)) refl ∙ ap (λ b. cond b (grid lent s) (grid old s)) (sym (has_next (positions_of lent) i d (chunk_of_section s) below));
  lists_are = λ a. ap (λ l. l a) e.lists_are ∙ listing a (same_chunk c a) refl ∙ ap (λ b. cond b (lists lent a) (lists old a)) (sym (has_next (positions_of lent) i d a below));
  height_is = e.height_is ∙ t.height_is;
  positions_are = e.positions_are ∙ t.positions_are;
  broken_is = e.broken_is ∙ t.broken_is;
} where
  c : ChunkPos
  c = get_or (positions_of lent) i d

  grids : (s : SectionPos) (b : Bool) → same_chunk c (chunk_of_section s) ≡ b → cond b (chunk_grid (height_of now) x s) (grid now s) ≡ cond (b || has_chunk (take i (positions_of lent)) (chunk_of_section s)) (grid lent s) (grid old s)
  grids s true q = ap (λ h. chunk_grid h x s) (t.height_is ∙ sym height) ∙ sym (of.sections s (sym (same_chunk_is c (chunk_of_section s) q)))
  grids s false q = t.grid_is s

  listing : (a : ChunkPos) (b : Bool) → same_chunk c a ≡ b → cond b (entries x.ticks) (lists now a) ≡ cond (b || has_chunk (take i (positions_of lent)) a) (lists lent a) (lists old a)
  listing a true q = sym of.entries_are ∙ ap (lists lent) (same_chunk_is c a q)
  listing a false q = t.lists_are a

pub taken_all : (old now lent : World) (i : ℕ) → length (positions_of lent) ≤ i → IsTakingBack old now lent i → IsTakenBack old now lent
taken_all old now lent i past t = record {
  grid_is = λ s. t.grid_is s ∙ ap (λ (ps : List ChunkPos). cond (has_chunk ps (chunk_of_section s)) (grid lent s) (grid old s)) whole;
  lists_are = λ c. t.lists_are c ∙ ap (λ (ps : List ChunkPos). cond (has_chunk ps c) (lists lent c) (lists old c)) whole;
  height_is = t.height_is;
  positions_are = t.positions_are;
  broken_is = t.broken_is;
} where
  whole : take i (positions_of lent) ≡ positions_of lent
  whole = take_all i (positions_of lent) past

-- what stands behind so many
pub mid_get : {X : Type 0} (ys : List X) (x : X) (zs : List X) → slice_get (ys ++ x ∷ zs) (length ys) ≡ Some x
mid_get [] x zs = refl
mid_get (y ∷ ys) x zs = mid_get ys x zs

pub mid_length : {X : Type 0} (ys zs : List X) → length (ys ++ zs) ≡ length ys + length zs
mid_length [] zs = omega arith
mid_length (y ∷ ys) zs = let h = mid_length ys zs in omega (arith, h)

-- the chunk that is taken back next
pub record IsNextChunk (lent : World) (i : ℕ) (at : ChunkPos) (x : Chunk) : Type 0 where
  pub below : i < length (positions_of lent)
  pub of : IsChunkOf lent at x
  pub is : at ≡ get_or (positions_of lent) i at

pub next_chunk : (lent : World) (i : ℕ) (at : ChunkPos) (x : Chunk) (ys zs : List Chunk) → i ≡ length ys → lent.chunks.items ≡ ys ++ x ∷ zs → at ≡ get_or (positions_of lent) i at → IsNextChunk lent i at x
next_chunk lent i at x ys zs count all is = record { below = below; of = chunk_of_index lent i at x (slice_get_read (positions_of lent) (length (positions_of lent)) i at refl below is) here; is = is } where
  below : i < length (positions_of lent)
  below = let p = lent.lawful.parallel in let q = ap length all ∙ mid_length ys (x ∷ zs) in omega (arith, p, q, count)

  here : slice_get lent.chunks.items i ≡ Some x
  here = ap (λ (cs : List Chunk). slice_get cs i) all ∙ ap (slice_get (ys ++ x ∷ zs)) count ∙ mid_get ys x zs
