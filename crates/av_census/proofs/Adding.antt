-- Counts of a table, added to a tally, and a tally as a list.
use Rattle.std.proofs.Common.{◌≡◌, ℕ, ◌+◌, ◌^◌, ◌<◌, ◌≤◌, List, [], ◌∷◌, map, length, take, Bool, true, false, cond, Some, refl, sym, ap, ◌∙◌, subst, arith, All, slice_index}
use Rattle.std.specs.Prelude.{slice_get}
use Rattle.std.specs.BTreeMap.{BTreeMap, is_at, IsOrdered}
use Rattle.std.specs.List.Sorted.{IsStrictlySortedBy}
use Rattle.std.specs.Map.{lookup, keys_of, values_of}
use Rattle.std.specs.Option.{unwrap_or}
use Rattle.std.specs.Ordering.{is_eq, is_lt, nat_cmp}
use Rattle.std.specs.Cmp.{IsStrictWeakOrder}
use Rattle.std.proofs.lemmas.Cmp.{nat_cmp_total}
use Rattle.std.proofs.lemmas.List.Elements.{All-nil, All-cons, All-head, All-tail}
use Rattle.std.proofs.lemmas.List.Sorted.{ranks_by, IsStrictWeakOrder-flip}
use Rattle.std.proofs.lemmas.Map.Keys.{IsDistinct-from_sorted}
use Rattle.std.proofs.lemmas.Map.Views.{All-values_from_lookup}
use Rattle.av_state.specs.BlockState.{BlockState}
use Rattle.av_state.specs.StateList.{same_state}
use Rattle.av_state.specs.States.{state_of}
use Rattle.av_state.specs.declared.state.State.{State}
use Rattle.av_state.proofs.Numbering.{same_state-refl}
use Rattle.av_census.specs.Census.{state_order, times, count_of, AreCounts, most_first}
use Rattle.av_census.specs.Counting.{weighed, tallied, HasNoZero, Tallies}
use Rattle.av_census.specs.declared.counts.StateCount.{StateCount}
use Rattle.av_census.proofs.States.{state_tie, state_laws, tallies_then}
use Rattle.av_census.proofs.Weighing.{when, weighed-more, weighed-take}

-- the counts of one number more
pub tallies_next : (old now new : BTreeMap State ℕ) (t : BlockState) (table : List BlockState) (counts : List ℕ) (n : ℕ) → n < length counts → slice_get table n ≡ Some t
    → Tallies old now (λ s. weighed s (take n table) (take n counts)) → Tallies now new (λ s. when (same_state s t) (slice_index counts n))
    → Tallies old new (λ s. weighed s (take (n + 1) table) (take (n + 1) counts))
tallies_next old now new t table counts n low there before one =
    tallies_then old now new (λ s. weighed s (take n table) (take n counts)) (λ s. when (same_state s t) (slice_index counts n)) (λ s. weighed s (take (n + 1) table) (take (n + 1) counts))
    before one (λ s. weighed-more s t table counts n low there)

own : (t : BlockState) (m : ℕ) → when (same_state t t) m ≡ m
own t m = ap (λ b. when b m) (same_state-refl t)

-- there is room for the count of a number
pub has_room : (old now : BTreeMap State ℕ) (k : State) (table : List BlockState) (counts : List ℕ) (n : ℕ) → n < length counts → slice_get table n ≡ Some (state_of k)
    → Tallies old now (λ s. weighed s (take n table) (take n counts)) → tallied old k + weighed (state_of k) table counts < 2 ^ 64
    → tallied now k + slice_index counts n < 2 ^ 64
has_room old now k table counts n low there before room =
    let t = state_of k in
    let more = weighed-more t t table counts n low there in
    let most = weighed-take t table counts (n + 1) in
    room_by (tallied now k) (tallied old k) (weighed t (take n table) (take n counts)) (weighed t (take (n + 1) table) (take (n + 1) counts)) (when (same_state t t) (slice_index counts n)) (slice_index counts n) (weighed t table counts)
    (before.counts k) more (own t (slice_index counts n)) most room
  where
    room_by : (a b x y w m z : ℕ) → a ≡ b + x → y ≡ x + w → w ≡ m → y ≤ z → b + z < 2 ^ 64 → a + m < 2 ^ 64
    room_by a b x y w m z e f g h l = omega (arith, e, f, g, h, l)

-- ---- a tally as a list

abbrev pub count_in : State × ℕ → StateCount
count_in e = record { state = e.0; blocks = e.1 }

count_of-entries : (s : State) (es : List (State × ℕ)) → count_of (state_of s) (map count_in es) ≡ unwrap_or (lookup (is_at (state_order s)) es) 0
count_of-entries s [] = refl
count_of-entries s (e ∷ es) = by (same_state (state_of s) (state_of e.0)) (is_eq (state_order s e.0)) (sym (state_tie s e.0)) (count_of-entries s es)
  where
    by : (b d : Bool) → b ≡ d → count_of (state_of s) (map count_in es) ≡ unwrap_or (lookup (is_at (state_order s)) es) 0
        → cond b e.1 (count_of (state_of s) (map count_in es)) ≡ unwrap_or (cond d (Some e.1) (lookup (is_at (state_order s)) es)) 0
    by true true h rest = refl
    by false false h rest = rest
    by true false h rest = cc
    by false true h rest = cc

states-entries : (es : List (State × ℕ)) → map (λ (c : StateCount). c.state) (map count_in es) ≡ keys_of es
states-entries [] = refl
states-entries (e ∷ es) = ap (λ ks. e.0 ∷ ks) (states-entries es)

values-all : (es : List (State × ℕ)) → All (λ n. 0 < n) (values_of es) → All (λ (c : StateCount). 0 < c.blocks) (map count_in es)
values-all [] all = All-nil (λ (c : StateCount). 0 < c.blocks)
values-all (e ∷ es) all =
    All-cons (λ (c : StateCount). 0 < c.blocks) (count_in e) (map count_in es) (All-head (λ n. 0 < n) e.1 (values_of es) all) (values-all es (All-tail (λ n. 0 < n) e.1 (values_of es) all))

pub counts_listed : (m : BTreeMap State ℕ) (counts : List StateCount) (blocks : List BlockState) → counts ≡ map count_in m.entries → IsOrdered state_order m → HasNoZero m
    → ((s : State) → tallied m s ≡ times (state_of s) blocks) → AreCounts blocks counts
counts_listed m counts blocks is ordered sound all = subst (AreCounts blocks) (sym is) (record {
  each = λ s. count_of-entries s m.entries ∙ all s;
  some = values-all m.entries (All-values_from_lookup state_laws (λ n. 0 < n) m.entries (IsDistinct-from_sorted state_order (keys_of m.entries) ordered) sound);
  rising = subst (IsStrictlySortedBy state_order) (sym (states-entries m.entries)) ordered;
})

-- ---- the most first

pub most_laws : IsStrictWeakOrder (λ x y. is_lt (most_first x y))
most_laws = IsStrictWeakOrder-flip (λ (x y : StateCount). is_lt (nat_cmp x.blocks y.blocks)) (ranks_by nat_cmp_total (λ (c : StateCount). c.blocks))
