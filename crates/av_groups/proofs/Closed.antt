-- An open group is closed.
use Rattle.std.proofs.Common.{◌≡◌, ◌∙◌, ℕ, zero, suc, ◌+◌, ◌<◌, ◌≤◌, Bool, true, false, List, [], ◌∷◌, ◌++◌, ◌-◌, length, take, replicate, slice_get, All, Option, None, Some, refl, sym, ap, subst, arith, ◌⊎◌, inl, inr}
use Rattle.std.proofs.lemmas.Bool.{true≢false}
use Rattle.std.proofs.lemmas.Option.{slice_get_within, get_or_from_slice_get}
use Rattle.std.proofs.lemmas.List.{flat_map_more, length_push, length-replicate, take_all}
use Rattle.std.proofs.Math.Seq.{take-add}
use Rattle.std.proofs.lemmas.List.Elements.{All-nil, All-weaker, All-get_or, All-replicate}
use Rattle.av_types.specs.declared.position.ChunkPos.{ChunkPos}
use Rattle.av_types.specs.declared.tick.Entry.{Entry}
use Rattle.av_land.specs.Land.{Land, has_chunk}
use Rattle.av_world.specs.Index.{slot}
use Rattle.av_groups.specs.declared.groups.Group.{Group}
use Rattle.av_groups.specs.declared.groups.Groups.{Groups}
use Rattle.av_groups.specs.declared.groups.Touch.{Touch}
use Rattle.av_groups.specs.declared.corners.Reach.{Reach}
use Rattle.av_groups.specs.Groups.{entries_in, touched, NoneTouches, HasOwnIndex, IsGroup, AreCut, AreGroups}
use Rattle.av_groups.specs.Exact.{IsTouchedBy, IsExact}
use Rattle.av_groups.specs.Open.{IsLast, IsOpen, AreNoted, IsGathered, AreClosed}

-- what stands in a list with one more: it stood there before, or is the last
push_at : {X : Type 0} (xs : List X) (x y : X) (i : ℕ) → slice_get (xs ++ x ∷ []) i ≡ Some y → ((i < length xs) × (slice_get xs i ≡ Some y)) ⊎ ((i ≡ length xs) × (x ≡ y))
push_at [] x y zero h = inr (refl, get_or_from_slice_get (x ∷ []) zero y y h)
push_at [] x y (suc i) h = absurd (omega (arith, slice_get_within [] i y h))
push_at (z ∷ zs) x y zero h = inl (omega arith, h)
push_at (z ∷ zs) x y (suc i) h = by (push_at zs x y i h) where
  by : ((i < length zs) × (slice_get zs i ≡ Some y)) ⊎ ((i ≡ length zs) × (x ≡ y)) → ((suc i < suc (length zs)) × (slice_get zs i ≡ Some y)) ⊎ ((suc i ≡ suc (length zs)) × (x ≡ y))
  by (inl (l, e)) = inl (omega (arith, l), e)
  by (inr (l, e)) = inr (ap suc l, e)

at_before : {X : Type 0} (xs : List X) (x y : X) (i : ℕ) → slice_get xs i ≡ Some y → slice_get (xs ++ x ∷ []) i ≡ Some y
at_before [] x y i h = absurd (omega (arith, slice_get_within [] i y h))
at_before (z ∷ zs) x y zero h = h
at_before (z ∷ zs) x y (suc i) h = at_before zs x y i h

at_last : {X : Type 0} (xs : List X) (x : X) → slice_get (xs ++ x ∷ []) (length xs) ≡ Some x
at_last [] x = refl
at_last (y ∷ ys) x = at_last ys x

exact_still : (gs : List Group) (g : Group) (c : ChunkPos) (m : ℕ) → IsExact gs c m → IsExact (gs ++ g ∷ []) c m
exact_still gs g c m is j e = let by = is j e in record { group = by.group; found = at_before gs g by.group j by.found; touches = by.touches }

all_exact : (gs : List Group) (g : Group) (ts : List Touch) → All (λ t. IsExact gs t.chunk t.before) ts → All (λ t. IsExact (gs ++ g ∷ []) t.chunk t.before) ts
all_exact gs g ts = All-weaker (λ t. IsExact gs t.chunk t.before) (λ t. IsExact (gs ++ g ∷ []) t.chunk t.before) (λ t is. exact_still gs g t.chunk t.before is) ts

-- one group more changes nothing below it
none_still : (gs : List Group) (g : Group) (a b : ℕ) (c : ChunkPos) → b ≤ length gs → NoneTouches gs a b c → NoneTouches (gs ++ g ∷ []) a b c
none_still gs g a b c below none j h from to found = by (push_at gs g h j found) where
  by : ((j < length gs) × (slice_get gs j ≡ Some h)) ⊎ ((j ≡ length gs) × (g ≡ h)) → has_chunk (touched h) c ≡ false
  by (inl (l, e)) = none j h from to e
  by (inr (l, e)) = absurd (omega (arith, l, to, below))

group_still : (w : Land ℕ) (es : List Entry) (gs : List Group) (g h : Group) (i : ℕ) → i ≤ length gs → IsGroup w es gs i h → IsGroup w es (gs ++ g ∷ []) i h
group_still w es gs g h i below is = record {
  within = is.within;
  distinct = is.distinct;
  there = is.there;
  own_index = is.own_index;
  loaded = is.loaded;
  stay = is.stay;
  behind = All-weaker (λ t. (t.before ≤ i) × NoneTouches gs t.before i t.chunk) (λ t. (t.before ≤ i) × NoneTouches (gs ++ g ∷ []) t.before i t.chunk) (λ t b. (b.0, none_still gs g t.before i t.chunk below b.1)) h.touches.items is.behind;
}

module _ (w : Land ℕ) (es : List Entry) (n : ℕ) (gs : List Group) (earlier last : List ℕ) (g : Group) (closed : AreClosed w es n gs earlier) (at : g.from ≡ n) (further : g.from ≤ g.to) (bound : g.to ≤ length es)
    (is : IsGathered w gs last (entries_in es g) g.touches.items) where
  abbrev more : List Group
  more = gs ++ g ∷ []

  is_group : IsGroup w es gs (length gs) g
  is_group = record { within = (further, bound); distinct = is.is_open.distinct; there = is.is_open.there; own_index = is.is_open.own_index; loaded = is.loaded; stay = is.stay; behind = is.is_open.behind }

  each : (i : ℕ) (h : Group) → slice_get more i ≡ Some h → IsGroup w es more i h
  each i h found = by (push_at gs g h i found) where
    by : ((i < length gs) × (slice_get gs i ≡ Some h)) ⊎ ((i ≡ length gs) × (g ≡ h)) → IsGroup w es more i h
    by (inl (l, e)) = group_still w es gs g h i (omega (arith, l)) (closed.cut.each i h e)
    by (inr (l, e)) = group_still w es gs g h i (omega (arith, l)) (subst (λ k. IsGroup w es gs k h) (sym l) (subst (IsGroup w es gs (length gs)) e is_group))

  behind : (c : ChunkPos) (m : ℕ) → slice_get last (slot w.chunks c) ≡ Some m → (m ≤ length more) × NoneTouches more m (length more) c
  behind c m at = by (has_chunk (touched g) c) refl where
    old : IsLast gs g.touches.items c m
    old = is.is_open.last_is c m at

    long : length more ≡ length gs + 1
    long = length_push gs g

    by : (b : Bool) → has_chunk (touched g) c ≡ b → (m ≤ length more) × NoneTouches more m (length more) c
    by true e = let f = old.touched e in (omega (arith, long, f), λ j h from to found. absurd (omega (arith, long, f, from, to)))
    by false e = let f = old.free e in (omega (arith, long, f), λ j h from to found. one j h from (push_at gs g h j found)) where
      one : (j : ℕ) (h : Group) → m ≤ j → ((j < length gs) × (slice_get gs j ≡ Some h)) ⊎ ((j ≡ length gs) × (g ≡ h)) → has_chunk (touched h) c ≡ false
      one j h from (inl (l, found)) = old.none j h from l found
      one j h from (inr (l, s)) = subst (λ k. has_chunk (touched k) c ≡ false) s e

  exact_before : (i : ℕ) (h : Group) → slice_get more i ≡ Some h → All (λ t. IsExact more t.chunk t.before) h.touches.items
  exact_before i h found = by (push_at gs g h i found) where
    by : ((i < length gs) × (slice_get gs i ≡ Some h)) ⊎ ((i ≡ length gs) × (g ≡ h)) → All (λ t. IsExact more t.chunk t.before) h.touches.items
    by (inl (l, e)) = all_exact gs g h.touches.items (closed.exact.before i h e)
    by (inr (l, e)) = subst (λ k. All (λ t. IsExact more t.chunk t.before) k.touches.items) e (all_exact gs g g.touches.items is.is_open.exact)

  exact_last : (c : ChunkPos) (m : ℕ) → slice_get last (slot w.chunks c) ≡ Some m → IsExact more c m
  exact_last c m at j e = by (has_chunk (touched g) c) refl where
    old : IsLast gs g.touches.items c m
    old = is.is_open.last_is c m at

    by : (b : Bool) → has_chunk (touched g) c ≡ b → IsTouchedBy more c j
    by true t = let f = old.touched t in
        record { group = g; found = subst (λ n. slice_get more n ≡ Some g) (omega (arith, e, f)) (at_last gs g); touches = t }
    by false t = exact_still gs g c m (old.exact t) j e

  joined : take n es ++ entries_in es g ≡ take g.to es
  joined = ap (λ k. take k es ++ entries_in es g) (sym at) ∙ sym (take-add g.from (g.to - g.from) es) ∙ ap (λ k. take k es) (omega (arith, further))

  pub are_closed : AreClosed w es g.to (gs ++ g ∷ []) last
  are_closed = record {
    entries_are = sym (flat_map_more (entries_in es) [] gs g) ∙ ap (λ xs. xs ++ entries_in es g) closed.entries_are ∙ joined;
    cut = record { each = each; long = is.is_open.long; behind = behind };
    exact = record { before = exact_before; after = exact_last };
  }

-- where all entries are in groups
pub all_cut : (w : Land ℕ) (gs : Groups) (n : ℕ) → length gs.entries.items ≤ n → AreClosed w gs.entries.items n gs.groups.items gs.last.items → AreGroups w gs
all_cut w gs n past closed = record { entries_are = closed.entries_are ∙ take_all n gs.entries.items past; cut = closed.cut }

-- nothing is touched yet
pub open_anew : (w : Land ℕ) (es : List Entry) (n : ℕ) (gs : List Group) (last : List ℕ) → AreClosed w es n gs last → IsOpen w.chunks gs last []
open_anew w es n gs last is = record {
  long = is.cut.long;
  distinct = grind arith;
  there = All-nil (λ c. has_chunk w.chunks c ≡ true);
  own_index = All-nil (HasOwnIndex w.chunks);
  behind = All-nil (λ t. (t.before ≤ length gs) × NoneTouches gs t.before (length gs) t.chunk);
  exact = All-nil (λ t. IsExact gs t.chunk t.before);
  last_is = λ c m h. record { none = (is.cut.behind c m h).1; touched = λ t. absurd (true≢false (sym t)); free = λ f. (is.cut.behind c m h).0; exact = λ f. is.exact.after c m h };
}

is_zero : (w : Land ℕ) (i m : ℕ) → slice_get (replicate (length w.chunks) 0) i ≡ Some m → m ≤ 0
is_zero w i m at = subst (λ n. n ≤ 0) (get_or_from_slice_get (replicate (length w.chunks) 0) i m m at) (All-get_or (λ n. n ≤ 0) (replicate (length w.chunks) 0) i m (slice_get_within (replicate (length w.chunks) 0) i m at) (All-replicate (λ n. n ≤ 0) (length w.chunks) 0 (omega arith)))

-- of no entries there are no groups
no_groups : (w : Land ℕ) (es : List Entry) → AreCut w es [] (replicate (length w.chunks) 0)
no_groups w es = record {
  each = λ i g at. absurd (omega (arith, slice_get_within [] i g at));
  long = length-replicate (length w.chunks) 0;
  behind = λ c m at. (is_zero w (slot w.chunks c) m at, λ j g from to at. absurd (omega (arith, to)));
}

none_first : (es : List Entry) → [] ≡ take 0 es
none_first [] = refl
none_first (e ∷ es) = refl

pub none_yet : (w : Land ℕ) (es : List Entry) → AreClosed w es 0 [] (replicate (length w.chunks) 0)
none_yet w es = record { entries_are = none_first es; cut = no_groups w es; exact = record { before = λ i g at. absurd (omega (arith, slice_get_within [] i g at)); after = λ c m at j e. let zero = is_zero w (slot w.chunks c) m at in absurd (omega (arith, zero, e)) } }

none_noted_at : (xs : List (Option Reach)) (k : ℕ) (r : Reach) → All (λ o. o ≡ None) xs → slice_get xs k ≡ Some (Some r) → ⊥
none_noted_at xs k r none at = true≢false (ap is_one (sym (get_or_from_slice_get xs k (Some r) None at) ∙ none k None (slice_get_within xs k (Some r) at))) where
  is_one : Option Reach → Bool
  is_one None = false
  is_one (Some q) = true

pub nothing_noted : (ps : List ChunkPos) (ts : List Touch) (xs : List (Option Reach)) → All (λ o. o ≡ None) xs → AreNoted ps ts xs
nothing_noted ps ts xs none k r at = absurd (none_noted_at xs k r none at)
