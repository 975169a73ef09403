-- A world that gets one more chunk.
use Rattle.std.proofs.Common.{◌≡◌, ℕ, zero, suc, ◌≤◌, List, [], ◌∷◌, ◌++◌, length, Bool, true, false, ◌||◌, cond, Option, Some, None, refl, ap, sym, subst, ◌∙◌, insert, arith}
use Rattle.std.proofs.lemmas.Bool.{true≢false, false≢true}
use Rattle.std.proofs.lemmas.Option.{none-some}
use Rattle.av_types.specs.Positions.{chunk_of_section}
use Rattle.av_types.specs.declared.position.Height.{Height}
use Rattle.av_types.specs.declared.position.ChunkPos.{ChunkPos}
use Rattle.av_types.specs.declared.position.SectionPos.{SectionPos}
use Rattle.av_types.proofs.SamePositions.{same_chunk_is, same_chunk_from}
use Rattle.av_ticks.specs.Ticks.{entries}
use Rattle.av_chunk.specs.declared.chunk.Chunk.{Chunk}
use Rattle.av_cells.specs.Positions.{same_chunk}
use Rattle.av_cells.specs.Grid.{Grid}
use Rattle.av_cells.specs.World.{Lists}
use Rattle.av_world.specs.Index.{slot}
use Rattle.av_world.specs.Inserted.{chunk_grid, with_chunk, with_list, Inserts}
use Rattle.av_world.specs.Views.{grid, lists}
use Rattle.av_world.specs.declared.worlds.World.{World}
use Rattle.av_land.specs.Land.{has_chunk}
use Rattle.av_image.specs.declared.reading.splits.LoadedChunk.{LoadedChunk}
use Rattle.av_image.specs.Splits.{chunk_found, ArePositionedOnce, HasAt, IsWorldOf}

pub not_same : (a b : ChunkPos) → same_chunk a b ≡ false → same_chunk b a ≡ false
not_same a b h = by (same_chunk b a) refl where
  by : (t : Bool) → same_chunk b a ≡ t → t ≡ false
  by true e = absurd (false≢true (sym h ∙ same_chunk_from a b (sym (same_chunk_is b a e))))
  by false e = refl

pub slot_none : (ps : List ChunkPos) (c : ChunkPos) → has_chunk ps c ≡ false → slot ps c ≡ length ps
slot_none [] c h = refl
slot_none (p ∷ ps) c h = by (same_chunk p c) h (slot_none ps c) where
  by : (b : Bool) → (b || has_chunk ps c) ≡ false → (has_chunk ps c ≡ false → slot ps c ≡ length ps) → cond b zero (suc (slot ps c)) ≡ suc (length ps)
  by true k more = absurd (true≢false k)
  by false k more = ap suc (more k)

or_swap : (a b c : Bool) → (a || (b || c)) ≡ (b || (a || c))
or_swap true true c = refl
or_swap true false c = refl
or_swap false true c = refl
or_swap false false c = refl

pub has_inserted : (ps : List ChunkPos) (i : ℕ) (c d : ChunkPos) → i ≤ length ps → has_chunk (insert ps i c) d ≡ (same_chunk c d || has_chunk ps d)
has_inserted [] zero c d most = refl
has_inserted [] (suc i) c d most = absurd (omega (arith, most))
has_inserted (p ∷ ps) zero c d most = refl
has_inserted (p ∷ ps) (suc i) c d most =
    let m : i ≤ length ps = omega (arith, most) in
    ap (λ b. same_chunk p d || b) (has_inserted ps i c d m) ∙ or_swap (same_chunk p d) (same_chunk c d) (has_chunk ps d)

-- ---- what is found among chunks

abbrev pub first_some : {X : Type 0} → Option X → Option X → Option X
first_some None o = o
first_some (Some x) o = Some x

pub found_append : (xs ys : List LoadedChunk) (c : ChunkPos) → chunk_found (xs ++ ys) c ≡ first_some (chunk_found xs c) (chunk_found ys c)
found_append [] ys c = refl
found_append (x ∷ xs) ys c = by (same_chunk x.at c) (found_append xs ys c) where
  by : (b : Bool) → chunk_found (xs ++ ys) c ≡ first_some (chunk_found xs c) (chunk_found ys c) → cond b (Some x.chunk) (chunk_found (xs ++ ys) c) ≡ first_some (cond b (Some x.chunk) (chunk_found xs c)) (chunk_found ys c)
  by true more = refl
  by false more = more

found_none : (x : LoadedChunk) (xs : List LoadedChunk) (c : ChunkPos) → chunk_found (x ∷ xs) c ≡ None → (same_chunk x.at c ≡ false) × (chunk_found xs c ≡ None)
found_none x xs c h = by (same_chunk x.at c) h where
  by : (b : Bool) → cond b (Some x.chunk) (chunk_found xs c) ≡ None → (b ≡ false) × (chunk_found xs c ≡ None)
  by true k = absurd (none-some x.chunk (sym k))
  by false k = (refl, k)

none_parts : {X : Type 0} (o p : Option X) → first_some o p ≡ None → (o ≡ None) × (p ≡ None)
none_parts None p h = (refl, h)
none_parts (Some x) p h = absurd (none-some x (sym h))

pub once_at : (xs : List LoadedChunk) (x : LoadedChunk) (ys : List LoadedChunk) → ArePositionedOnce (xs ++ x ∷ ys) → chunk_found xs x.at ≡ None
once_at [] x ys h = refl
once_at (y ∷ xs) x ys h =
    let parts = none_parts (chunk_found xs y.at) (chunk_found (x ∷ ys) y.at) (sym (found_append xs (x ∷ ys) y.at) ∙ h.0) in
    let apart = not_same x.at y.at (found_none x ys y.at parts.1).0 in
    ap (λ b. cond b (Some y.chunk) (chunk_found xs x.at)) apart ∙ once_at xs x ys h.1

-- ---- one more chunk of a world

has_moved : (h : Height) (v w : World) (c : ChunkPos) (o : Option Chunk) → has_chunk w.positions.items c ≡ has_chunk v.positions.items c → ((s : SectionPos) → chunk_of_section s ≡ c → grid w s ≡ grid v s) → lists w c ≡ lists v c
    → HasAt h v c o → HasAt h w c o
has_moved h v w c None a b d p = (a ∙ p.0, (λ s e. b s e ∙ p.1 s e), d ∙ p.2)
has_moved h v w c (Some x) a b d p = (a ∙ p.0, (λ s e. b s e ∙ p.1 s e), d ∙ p.2)

pub world_more : (h : Height) (v w : World) (xs : List LoadedChunk) (x : LoadedChunk) → IsWorldOf h xs v → chunk_found xs x.at ≡ None → w.height ≡ v.height
    → Inserts v.positions.items x.at w.positions.items → grid w ≡ with_chunk (grid v) x.at (chunk_grid v.height x.chunk) → lists w ≡ with_list (lists v) x.at (entries x.chunk.ticks)
    → IsWorldOf h (xs ++ x ∷ []) w
world_more h v w xs x old new same put grid_is lists_are = record { height_is = same ∙ old.height_is; each = λ c. at c (same_chunk x.at c) refl } where
  has : (c : ChunkPos) → has_chunk w.positions.items c ≡ (same_chunk x.at c || has_chunk v.positions.items c)
  has c = ap (λ l. has_chunk l c) put.is ∙ has_inserted v.positions.items put.index x.at c put.belongs.most

  grid_at : (s : SectionPos) → grid w s ≡ cond (same_chunk x.at (chunk_of_section s)) (chunk_grid v.height x.chunk s) (grid v s)
  grid_at s = ap (λ (g : Grid). g s) grid_is

  list_at : (c : ChunkPos) → lists w c ≡ cond (same_chunk x.at c) (entries x.chunk.ticks) (lists v c)
  list_at c = ap (λ (l : Lists). l c) lists_are

  at : (c : ChunkPos) (b : Bool) → same_chunk x.at c ≡ b → HasAt h w c (chunk_found (xs ++ x ∷ []) c)
  at c true e =
      let found : chunk_found (xs ++ x ∷ []) c ≡ Some x.chunk =
      found_append xs (x ∷ []) c ∙ (ap (λ o. first_some o (cond (same_chunk x.at c) (Some x.chunk) None)) (subst (λ d. chunk_found xs d ≡ None) (same_chunk_is x.at c e) new) ∙ ap (λ b. cond b (Some x.chunk) None) e) in
      subst (HasAt h w c) (sym found) (
        has c ∙ ap (λ b. b || has_chunk v.positions.items c) e,
        (λ s i. grid_at s ∙ (ap (λ d. cond (same_chunk x.at d) (chunk_grid v.height x.chunk s) (grid v s)) i ∙ (ap (λ b. cond b (chunk_grid v.height x.chunk s) (grid v s)) e ∙ ap (λ k. chunk_grid k x.chunk s) old.height_is))),
        list_at c ∙ ap (λ b. cond b (entries x.chunk.ticks) (lists v c)) e,
      )
  at c false e =
      let found : chunk_found (xs ++ x ∷ []) c ≡ chunk_found xs c = found_append xs (x ∷ []) c ∙ (ap (λ b. first_some (chunk_found xs c) (cond b (Some x.chunk) None)) e ∙ last (chunk_found xs c)) in
      subst (HasAt h w c) (sym found)
      (has_moved h v w c (chunk_found xs c) (has c ∙ ap (λ b. b || has_chunk v.positions.items c) e)
      (λ s i. grid_at s ∙ (ap (λ d. cond (same_chunk x.at d) (chunk_grid v.height x.chunk s) (grid v s)) i ∙ ap (λ b. cond b (chunk_grid v.height x.chunk s) (grid v s)) e))
      (list_at c ∙ ap (λ b. cond b (entries x.chunk.ticks) (lists v c)) e) (old.each c)) where
        last : (o : Option Chunk) → first_some o None ≡ o
        last None = refl
        last (Some y) = refl

pub absent_in : (h : Height) (w : World) (c : ChunkPos) (o : Option Chunk) → o ≡ None → HasAt h w c o → has_chunk w.positions.items c ≡ false
absent_in h w c None e p = p.0
absent_in h w c (Some x) e p = absurd (none-some x (sym e))
