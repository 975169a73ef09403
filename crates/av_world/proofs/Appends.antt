-- Entries appended one after the other.
use Rattle.std.proofs.Common.{◌≡◌, ℕ, suc, ◌<◌, ◌≤◌, ◌+◌, Bool, true, false, cond, IsTrue, List, [], ◌∷◌, length, get_or, drop, refl, sym, ap, subst, ◌∙◌, arith, add-one, All, nat_eq}
use Rattle.std.specs.List.{AllPairs}
use Rattle.std.proofs.Math.Seq.{drop-cons}
use Rattle.std.proofs.lemmas.Bool.{eq-eqb}
use Rattle.av_types.specs.Positions.{chunk_of}
use Rattle.av_types.specs.declared.position.ChunkPos.{ChunkPos}
use Rattle.av_types.specs.declared.tick.Entry.{Entry}
use Rattle.av_types.specs.declared.tick.Made.{Made}
use Rattle.av_types.proofs.SamePositions.{same_chunk_is, same_chunk-refl}
use Rattle.av_ticks.specs.Entries.{is_pending}
use Rattle.av_cells.specs.Positions.{same_pos, same_chunk}
use Rattle.av_cells.specs.World.{World, with_entry_if}
use Rattle.av_world.specs.Index.{slot}
use Rattle.av_world.specs.Appended.{entries_made, with_entries}
use Rattle.av_world.specs.Appending.{entered_all, CanAppend, count_in, count_at}

-- the next of those that are left
pub next_made : (ms : List Made) (i : ℕ) (d : Made) → i < length ms → entries_made (drop i ms) ≡ (get_or ms i d).entry ∷ entries_made (drop (i + 1) ms)
next_made ms i d below = ap entries_made (drop-cons ms i d below) ∙ ap (λ j. (get_or ms i d).entry ∷ entries_made (drop j ms)) (sym (add-one i))

pub entered_is : (w : World) (es : List Entry) → entered_all w es ≡ with_entries w es
entered_is w [] = refl
entered_is w (e ∷ es) = entered_is (with_entry_if true w e) es ∙ (λ i. record { loaded = w.loaded; number = w.number; pending = λ q. swap (same_pos q e.pos) (is_pending q es) (w.pending q) i }) where
  swap : (s t b : Bool) → cond t true (cond s true b) ≡ cond (cond s true t) true b
  swap true true b = refl
  swap true false b = refl
  swap false t b = refl

pub can_append : (w : World) (ms : List Made) → All (λ m. IsTrue (w.loaded m.entry.pos)) ms → All (λ m. w.pending m.entry.pos ≡ false) ms
    → AllPairs (λ a b. same_pos b.entry.pos a.entry.pos ≡ false) ms → CanAppend w (entries_made ms)
can_append w [] loaded fresh apart = tt
can_append w (m ∷ ms) loaded fresh apart = (
  loaded 0 m (omega arith),
  fresh 0 m (omega arith),
  can_append (with_entry_if true w m.entry) ms (λ k d l. loaded (suc k) d (omega arith))
      (λ k d l. ap (λ b. cond b true (w.pending (get_or ms k d).entry.pos)) (apart 0 (suc k) d (omega arith) (omega arith)) ∙ fresh (suc k) d (omega arith))
      (λ i j d lt l. apart (suc i) (suc j) d (omega arith) (omega arith)),
)

-- an entry counts for its own chunk
pub own_counts : (c : ChunkPos) (n : ℕ) → cond (same_chunk c c) 1 0 + n ≡ 1 + n
own_counts c n = ap (λ b. cond b 1 0 + n) (same_chunk-refl c)

pub index_counts : (j k n : ℕ) → j ≡ k → cond (nat_eq j k) 1 0 + n ≡ 1 + n
index_counts j k n e = ap (λ m. cond (nat_eq m k) 1 0 + n) e ∙ ap (λ b. cond b 1 0 + n) (eq-eqb k k refl)

-- entries of a chunk are of the chunk at its index
pub count_in_at : (ps : List ChunkPos) (c : ChunkPos) (es : List Entry) → count_in c es ≤ count_at ps (slot ps c) es
count_in_at ps c [] = omega arith
count_in_at ps c (e ∷ es) = let more = count_in_at ps c es in let one = by (same_chunk c (chunk_of e.pos)) refl in omega (arith, more, one) where
  by : (b : Bool) → same_chunk c (chunk_of e.pos) ≡ b → cond b 1 0 ≤ cond (nat_eq (slot ps (chunk_of e.pos)) (slot ps c)) 1 0
  by true s = subst (λ b. 1 ≤ cond b 1 0) (sym (ap (λ d. nat_eq (slot ps d) (slot ps c)) (sym (same_chunk_is c (chunk_of e.pos) s)) ∙ eq-eqb (slot ps c) (slot ps c) refl)) (omega arith)
  by false s = omega arith

pub count_at_most : (ps : List ChunkPos) (k : ℕ) (ms : List Made) → count_at ps k (entries_made ms) ≤ length ms
count_at_most ps k [] = omega arith
count_at_most ps k (m ∷ ms) = let more = count_at_most ps k ms in by (nat_eq (slot ps (chunk_of m.entry.pos)) k) more where
  by : (b : Bool) → count_at ps k (entries_made ms) ≤ length ms → cond b 1 0 + count_at ps k (entries_made ms) ≤ suc (length ms)
  by true h = omega arith
  by false h = omega arith
