-- An open group touches one chunk more.
use Rattle.std.proofs.Common.{get_or-set_same, get_or-set_other, length-set, ◌≡◌, ◌≢◌, ◌∙◌, ℕ, zero, suc, ◌+◌, ◌<◌, ◌≤◌, ◌||◌, Bool, true, false, List, [], ◌∷◌, ◌++◌, length, get_or, slice_get, slice_set, All, Option, None, Some, refl, sym, ap, subst, arith, ◌⊎◌, inl, inr}
use Rattle.std.proofs.lemmas.Bool.{true≢false, cases_eq, cases_lt}
use Rattle.std.proofs.lemmas.Option.{slice_get_read, slice_get_within, get_or_from_slice_get}
use Rattle.std.proofs.lemmas.List.{map_push, get_or_default}
use Rattle.std.proofs.lemmas.List.Elements.{All-nil, All-cons, All-push, All-weaker}
use Rattle.std.proofs.lemmas.List.Quantifiers.{all_pairs_push}
use Rattle.std.specs.List.{AllPairs, list_any}
use Rattle.av_types.specs.declared.position.ChunkPos.{ChunkPos}
use Rattle.av_types.proofs.SamePositions.{same_chunk_is, same_chunk-refl}
use Rattle.av_cells.specs.Positions.{same_chunk}
use Rattle.av_land.specs.Land.{has_chunk}
use Rattle.av_world.specs.Index.{slot, IsRising}
use Rattle.av_world.proofs.ChunkReads.{slot_of_index, slot_there}
use Rattle.av_world.proofs.Moved.{get_set_same, get_set_other}
use Rattle.av_groups.specs.declared.corners.Reach.{Reach}
use Rattle.av_groups.specs.declared.groups.Group.{Group}
use Rattle.av_groups.specs.declared.groups.Touch.{Touch}
use Rattle.av_groups.specs.Groups.{NoneTouches, HasOwnIndex}
use Rattle.av_groups.specs.Exact.{IsExact}
use Rattle.av_groups.specs.Open.{chunks_in, chunks_in_reach, IsLast, IsOpen, IsTouched, IsCovered, AreKept, AreNoted}

or_parts : (a b : Bool) → a || b ≡ false → (a ≡ false) × (b ≡ false)
or_parts true b h = absurd (true≢false h)
or_parts false b h = (refl, h)

pub has_any : (ts : List Touch) (c : ChunkPos) → has_chunk (chunks_in ts) c ≡ list_any (λ t. same_chunk t.chunk c) ts
has_any [] c = refl
has_any (t ∷ ts) c = ap (λ b. same_chunk t.chunk c || b) (has_any ts c)

-- a chunk that is not among them differs from each
apart : (cs : List ChunkPos) (c : ChunkPos) → has_chunk cs c ≡ false → All (λ d. same_chunk d c ≡ false) cs
apart [] c h = All-nil (λ d. same_chunk d c ≡ false)
apart (d ∷ ds) c h =
    let parts = or_parts (same_chunk d c) (has_chunk ds c) h in
    All-cons (λ d. same_chunk d c ≡ false) d ds parts.0 (apart ds c parts.1)

pub has_push : (cs : List ChunkPos) (d c : ChunkPos) → has_chunk (cs ++ d ∷ []) c ≡ has_chunk cs c || same_chunk d c
has_push [] d c = by (same_chunk d c) where
  by : (b : Bool) → b || false ≡ b
  by true = refl
  by false = refl
has_push (e ∷ es) d c = ap (λ b. same_chunk e c || b) (has_push es d c) ∙ by (same_chunk e c) (has_chunk es c) (same_chunk d c) where
  by : (x y z : Bool) → x || (y || z) ≡ (x || y) || z
  by true y z = refl
  by false y z = refl

has_more : (ts : List Touch) (t : Touch) (c : ChunkPos) → has_chunk (chunks_in (ts ++ t ∷ [])) c ≡ has_chunk (chunks_in ts) c || same_chunk t.chunk c
has_more ts t c = ap (λ cs. has_chunk cs c) (map_push (λ t. t.chunk) ts t) ∙ has_push (chunks_in ts) t.chunk c

pub is_touched : (ps : List ChunkPos) (ts : List Touch) (t : Touch) → IsTouched ps ts (ts ++ t ∷ []) t.chunk
is_touched ps ts t = record { touched = λ h. has_more ts t t.chunk ∙ own (has_chunk (chunks_in ts) t.chunk) (same_chunk-refl t.chunk); kept = λ d h. has_more ts t d ∙ rw h refl } where
  own : (a : Bool) {b : Bool} → b ≡ true → a || b ≡ true
  own true h = refl
  own false h = h

module _ (ps : List ChunkPos) (gs : List Group) (last : List ℕ) (ts : List Touch) (t : Touch) (i : ℕ) (rising : IsRising ps) (at : slice_get ps i ≡ Some t.chunk) (index : t.index ≡ i) (was : slice_get last i ≡ Some t.before) (there : has_chunk ps t.chunk ≡ true)
    (new : has_chunk (chunks_in ts) t.chunk ≡ false) (is : IsOpen ps gs last ts) where
  here : slot ps t.chunk ≡ i
  here = slot_of_index ps t.chunk i rising (slice_get_within ps i t.chunk at) at

  is_last : IsLast gs ts t.chunk t.before
  is_last = is.last_is t.chunk t.before (ap (slice_get last) here ∙ was)

  -- the chunk at the index
  at_index : (d : ChunkPos) (m : ℕ) → slot ps d ≡ i → slice_get (slice_set last i (length gs + 1)) (slot ps d) ≡ Some m → IsLast gs (ts ++ t ∷ []) d m
  at_index d m e h =
      let below : slot ps d < length ps = subst (λ n. n < length ps) (sym e) (slice_get_within ps i t.chunk at) in
      let same : t.chunk ≡ d =
      sym (get_or_from_slice_get ps i t.chunk d at) ∙ get_or_from_slice_get ps i d d (sym (ap (slice_get ps) e) ∙ slot_there ps d below) in
      let value : length gs + 1 ≡ m =
      sym (get_or-set_same last i (length gs + 1) m (slice_get_within last i t.before was)) ∙ get_or_from_slice_get (slice_set last i (length gs + 1)) i m m (sym (ap (slice_get (slice_set last i (length gs + 1))) e) ∙ h) in
      let has : has_chunk (chunks_in (ts ++ t ∷ [])) d ≡ true = subst (λ c. has_chunk (chunks_in (ts ++ t ∷ [])) c ≡ true) same ((is_touched ps ts t).touched there) in
      record {
        none = λ j g from to found. absurd (omega (arith, value, from, to));
        touched = λ k. sym value;
        free = λ k. absurd (true≢false (sym has ∙ k));
        exact = λ k. absurd (true≢false (sym has ∙ k));
      }

  -- another chunk
  elsewhere : (d : ChunkPos) (m : ℕ) → slot ps d ≢ i → slice_get (slice_set last i (length gs + 1)) (slot ps d) ≡ Some m → IsLast gs (ts ++ t ∷ []) d m
  elsewhere d m other h =
      let set = slice_set last i (length gs + 1) in
      let below : slot ps d < length last = subst (λ n. slot ps d < n) (length-set last i (length gs + 1)) (slice_get_within set (slot ps d) m h) in
      let value : m ≡ get_or last (slot ps d) m = sym (get_or_from_slice_get set (slot ps d) m m h) ∙ get_or-set_other last i (slot ps d) (length gs + 1) m other in
      let old : IsLast gs ts d m = is.last_is d m (slice_get_read last (length last) (slot ps d) m refl below value) in
      let same : has_chunk (chunks_in (ts ++ t ∷ [])) d ≡ has_chunk (chunks_in ts) d = has_more ts t d ∙ by (same_chunk t.chunk d) refl in
      record { none = old.none; touched = λ k. old.touched (sym same ∙ k); free = λ k. old.free (sym same ∙ k); exact = λ k. old.exact (sym same ∙ k) }
    where
      by : (b : Bool) → same_chunk t.chunk d ≡ b → has_chunk (chunks_in ts) d || b ≡ has_chunk (chunks_in ts) d
      by true e = absurd (other (sym (ap (slot ps) (same_chunk_is t.chunk d e)) ∙ here))
      by false e = none (has_chunk (chunks_in ts) d) where
        none : (b : Bool) → b || false ≡ b
        none true = refl
        none false = refl

  pub open_more : IsOpen ps gs (slice_set last i (length gs + 1)) (ts ++ t ∷ [])
  open_more = record {
    long = length-set last i (length gs + 1) ∙ is.long;
    distinct = subst (AllPairs (λ c d. same_chunk c d ≡ false)) (sym pushed) (all_pairs_push (λ c d. same_chunk c d ≡ false) (chunks_in ts) t.chunk is.distinct (λ k d l. apart (chunks_in ts) t.chunk new k d l));
    there = subst (All (λ c. has_chunk ps c ≡ true)) (sym pushed) (All-push (λ c. has_chunk ps c ≡ true) (chunks_in ts) t.chunk is.there there);
    own_index = All-push (HasOwnIndex ps) ts t is.own_index (ap (slice_get ps) index ∙ at);
    behind = All-push (λ t. (t.before ≤ length gs) × NoneTouches gs t.before (length gs) t.chunk) ts t is.behind (is_last.free new, is_last.none);
    exact = All-push (λ t. IsExact gs t.chunk t.before) ts t is.exact (is_last.exact new);
    last_is = λ d m h. by d m h (cases_eq (slot ps d) i);
  } where
    pushed : chunks_in (ts ++ t ∷ []) ≡ chunks_in ts ++ t.chunk ∷ []
    pushed = map_push (λ t. t.chunk) ts t

    by : (d : ChunkPos) (m : ℕ) → slice_get (slice_set last i (length gs + 1)) (slot ps d) ≡ Some m → (slot ps d ≡ i) ⊎ (slot ps d ≢ i) → IsLast gs (ts ++ t ∷ []) d m
    by d m h (inl e) = at_index d m e h
    by d m h (inr n) = elsewhere d m n h

-- what was touched is touched still, and so is one chunk more
pub touched_more : (ps cs : List ChunkPos) (a b ts : List Touch) (i : ℕ) (d : ChunkPos) → ((x : ChunkPos) → has_chunk (chunks_in a) x ≡ true → has_chunk (chunks_in b) x ≡ true) → ((k : ℕ) (d : ChunkPos) → k < i → IsTouched ps a b (get_or cs k d))
    → i < length cs → IsTouched ps b ts (get_or cs i d) → (k : ℕ) (e : ChunkPos) → k < i + 1 → IsTouched ps a ts (get_or cs k e)
touched_more ps cs a b ts i d kept was inside new k e l = by (cases_lt k i) where
  kept_now : (x : ChunkPos) → has_chunk (chunks_in a) x ≡ true → has_chunk (chunks_in ts) x ≡ true
  kept_now x h = new.kept x (kept x h)

  by : (k < i) ⊎ (i ≤ k) → IsTouched ps a ts (get_or cs k e)
  by (inl below) = record { touched = λ h. new.kept (get_or cs k e) ((was k e below).touched h); kept = kept_now }
  by (inr above) = subst (IsTouched ps a ts) (get_or_default cs i d e inside ∙ ap (λ n. get_or cs n e) (omega (arith, above, l))) (record { touched = new.touched; kept = kept_now })

-- a reach that is noted in a slot stands there
pub noted_at : (xs : List (Option Reach)) (i : ℕ) (r : Reach) → get_or xs i None ≡ Some r → slice_get xs i ≡ Some (Some r)
noted_at [] i r e = absurd (true≢false (sym (ap is_one e))) where
  is_one : Option Reach → Bool
  is_one None = false
  is_one (Some q) = true
noted_at (x ∷ xs) zero r e = ap Some e
noted_at (x ∷ xs) (suc i) r e = noted_at xs i r e

-- a reach more is noted
pub noted_more : (ps : List ChunkPos) (old new : List Touch) (xs : List (Option Reach)) (i : ℕ) (r : Reach) → AreKept old new → All (IsCovered ps new) (chunks_in_reach r) → AreNoted ps old xs → AreNoted ps new (slice_set xs i (Some r))
noted_more ps old new xs i r kept covered was k q at = by (cases_eq k i) where
  some_is : Some (Some r) ≡ Some (Some q) → r ≡ q
  some_is e = ap (λ (o : Option (Option Reach)). value r o) e where
    value : Reach → Option (Option Reach) → Reach
    value d None = d
    value d (Some None) = d
    value d (Some (Some x)) = x

  inside : k ≡ i → i < length xs
  inside e = let w = slice_get_within (slice_set xs i (Some r)) k (Some q) at in let l = length-set xs i (Some r) in omega (arith, w, l, e)

  by : (k ≡ i) ⊎ (k ≢ i) → All (IsCovered ps new) (chunks_in_reach q)
  by (inl e) = subst (λ x. All (IsCovered ps new) (chunks_in_reach x)) (some_is (sym (get_set_same xs i (Some r) (inside e)) ∙ ap (slice_get (slice_set xs i (Some r))) (sym e) ∙ at)) covered
  by (inr n) = All-weaker (IsCovered ps old) (IsCovered ps new) (λ c h there. kept c (h there)) (chunks_in_reach q) (was k q (sym (get_set_other xs i k (Some r) n) ∙ at))
