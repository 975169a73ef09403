-- A state's number is told by a slot or found by halves, and a new one is put where it was sought.
use Rattle.std.proofs.Common.{◌≡◌, ◌≢◌, ℕ, zero, suc, ◌+◌, ◌<◌, ◌≤◌, List, [], ◌∷◌, ◌++◌, length, get_or, set, map, Bool, false, Option, Some, None, slice_get, option_map, All, inl, inr, refl, ap, ◌∙◌, sym, subst, arith, length-append}
use Rattle.std.specs.List.{AllWithin, HoldsAt, insert}
use Rattle.std.specs.List.Sorted.{IsSortedBy, IsNonDecreasingBy, IsPartitionPoint}
use Rattle.std.specs.Ordering.{nat_cmp, ordering_then, ordering_index, ordering_reverse, is_lt}
use Rattle.std.specs.declared.cmp.Ordering.{Ordering}
use Rattle.std.specs.declared.cmp.Ordering.TheVariants.{Less, Equal, Greater}
use Rattle.std.proofs.lemmas.Bool.{cases_lt, cases_order}
use Rattle.std.proofs.lemmas.Cmp.{tied_itself}
use Rattle.std.proofs.lemmas.List.{map-append, length-map, get_or_append_left, get_or-append-add}
use Rattle.std.proofs.lemmas.List.Edits.{length-insert, get_or-insert_below, get_or-insert_at, get_or-insert_above}
use Rattle.std.proofs.lemmas.List.Elements.{All-cons, All-tail}
use Rattle.std.proofs.lemmas.List.Sorted.{searchable_from_sorted, All-permutation, IsPermutation-insert, IsPermutation-sym}
use Rattle.std.proofs.lemmas.Option.{slice_get-map, slice_get-get_or, slice_get_within, get_or_from_slice_get}
use Rattle.av_state.specs.BlockState.{BlockState, air}
use Rattle.av_state.specs.StateList.{number_in}
use Rattle.av_state.specs.Order.{fingerprint_of, texts_cmp, state_cmp}
use Rattle.av_state.specs.Index.{state_at, stands, matched, compared, told, slot_of, FindsStates, HasRank, IsRankFor}
use Rattle.av_state.specs.declared.slots.Slots.{Slots}
use Rattle.av_state.proofs.Seated.{seated-taken, seated-left}
use Rattle.av_state.proofs.Numbering.{number_in-there, absent as absent_from}
use Rattle.av_state.proofs.Compared.{state_total, same_state}

-- ---- the search

module _ (states : List BlockState) (prints order : List ℕ) (slots : Slots) (index : FindsStates states prints slots order) (s : BlockState) (f : ℕ) (hash : f ≡ fingerprint_of s) where
  -- what a look-up compares is how the states stand
  compared-stands : (n : ℕ) → n < length states → compared prints states f s n ≡ stands states s n
  compared-stands n h =
      let here : slice_get states n ≡ Some (state_at states n) = slice_get-get_or states n air h in
      let print : slice_get prints n ≡ Some (fingerprint_of (state_at states n)) = ap (λ xs. slice_get xs n) index.prints ∙ slice_get-map fingerprint_of states n ∙ ap (option_map fingerprint_of) here in
      ap (λ o. matched o (slice_get states n) f s) print
      ∙ ap (λ o. matched (Some (fingerprint_of (state_at states n))) o f s) here
      ∙ ap (λ k. ordering_then (nat_cmp (fingerprint_of (state_at states n)) k) (texts_cmp (state_at states n) s)) hash

  pub searchable : IsNonDecreasingBy (λ n. ordering_index (compared prints states f s n)) order
  searchable i j d le h =
      let up = searchable_from_sorted state_total (state_at states) order s index.rising i j d le h in
      let low = compared-stands (get_or order i d) (index.known i d (omega arith)) in
      let high = compared-stands (get_or order j d) (index.known j d h) in
      let P : Ordering → Type 0 = λ o. ordering_index o ≤ ordering_index (stands states s (get_or order j d)) in
      let Q : Ordering → Type 0 = λ o. ordering_index (compared prints states f s (get_or order i d)) ≤ ordering_index o in
      subst Q (sym high) (subst P (sym low) up)

  -- the number that is found is the state's
  pub found : (rank : ℕ) (d : ℕ) → rank < length order → HoldsAt (λ n. compared prints states f s n ≡ Equal) order rank → slice_get states (get_or order rank d) ≡ Some s
  found rank d h equal =
      let n = get_or order rank d in
      let known = index.known rank d h in
      slice_get-get_or states n air known ∙ ap Some (same_state (state_at states n) s (sym (compared-stands n known) ∙ equal d))

  module _ (rank : ℕ) (within : rank ≤ length order) (parts : IsPartitionPoint (λ n. compared prints states f s n ≡ Less) (λ n. compared prints states f s n ≡ Greater) order rank) where
    below : AllWithin (λ n. stands states s n ≡ Less) order 0 rank
    below k d low high = sym (compared-stands (get_or order k d) (index.known k d (omega arith))) ∙ parts.0 k d low high

    above : AllWithin (λ n. stands states s n ≡ Greater) order rank (length order)
    above k d low high = sym (compared-stands (get_or order k d) (index.known k d high)) ∙ parts.1 k d low high

    -- where no number is found is the rank of the state
    pub ranked : IsRankFor states s order rank
    ranked = record { within = within; below = below; above = above }

  module _ (rank : ℕ) (p : IsRankFor states s order rank) where
    -- the state that is sought stands neither below nor above itself
    not_here : (n k d : ℕ) → slice_get states n ≡ Some s → k < length order → get_or order k d ≡ n → ⊥
    not_here n k d there h e =
        let same : stands states s (get_or order k d) ≡ Equal = ap (stands states s) e ∙ ap (λ t. state_cmp t s) (get_or_from_slice_get states n s air there) ∙ tied_itself state_total s in
        let within = p.within in
        elim (cases_lt k rank) [
          | inl less ↦ (let g : stands states s (get_or order k d) ≡ Less = p.below k d (omega arith) less in let no : Less ≡ Equal = sym g ∙ same in absurd cc)
          | inr not ↦ (let g : stands states s (get_or order k d) ≡ Greater = p.above k d not h in let no : Greater ≡ Equal = sym g ∙ same in absurd cc)
        ]

    pub not_in_order : (n : ℕ) → slice_get states n ≡ Some s → All (λ m. m ≡ n → ⊥) order
    not_in_order n there k d h at = not_here n k d there h at

  -- the fingerprint of a number of the state
  print : (n : ℕ) → slice_get states n ≡ Some s → get_or prints n 0 ≡ f
  print n there = get_or_from_slice_get prints n f 0 (ap (λ xs. slice_get xs n) index.prints ∙ slice_get-map fingerprint_of states n ∙ ap (option_map fingerprint_of) there ∙ ap Some (sym hash))

  long : length prints ≡ length states
  long = ap length index.prints ∙ length-map states fingerprint_of

  absent : ((n : ℕ) → slice_get states n ≡ Some s → ⊥) → number_in states s ≡ None
  absent none = by (number_in states s) refl
    where
      by : (o : Option ℕ) → number_in states s ≡ o → o ≡ None
      by None e = refl
      by (Some n) e = absurd (none n (number_in-there states s n e))

  -- a slot that tells no number
  pub absent_free : length states ≤ 65535 → told slots f ≡ 65535 → number_in states s ≡ None
  absent_free few free = absent (λ n there. (
      let h = slice_get_within states n s there in
      let low : told slots (get_or prints n 0) ≤ n = index.seated.first n (omega (arith, long, h)) in
      let e : told slots (get_or prints n 0) ≡ 65535 = ap (told slots) (print n there) ∙ free in
      absurd (omega (arith, low, e, h, few))))

  -- neither the slot's number nor one of the order is the state's
  pub absent_in_both : (rank : ℕ) → IsRankFor states s order rank → slice_get states (told slots f) ≢ Some s → number_in states s ≡ None
  absent_in_both rank p other = absent (λ n there. (
      let h = slice_get_within states n s there in
      index.seated.whole n (omega (arith, long, h)) (λ is. other (ap (slice_get states) (ap (told slots) (sym (print n there)) ∙ is) ∙ there)) (not_in_order rank p n there)))

  -- a state that has no number has no rank with one
  pub no_rank : (rank : ℕ) → number_in states s ≡ None → HasRank states s order rank → ⊥
  no_rank rank none p = absent_from states s none (get_or order rank 0) (p.is 0)

-- ---- one more state

-- an element between those that are not above it and those that are not below it
module _ {X : Type 0} (lt : X → X → Bool) (xs : List X) (i : ℕ) (y : X) (le : i ≤ length xs) where
  later : (k : ℕ) (d : X) → i < k → k < length xs → IsSortedBy lt xs → lt (get_or (insert xs i y) (k + 1) d) (get_or (insert xs i y) k d) ≡ false
  later zero d at h up = absurd (omega arith)
  later (suc k) d at h up =
      ap (λ t. lt t (get_or (insert xs i y) (suc k) d)) (get_or-insert_above xs i y d (suc k) (omega arith) le)
      ∙ ap (λ n. lt (get_or xs (suc k) d) (get_or (insert xs i y) n d)) (let e : suc k ≡ k + 1 = omega arith in e)
      ∙ ap (lt (get_or xs (suc k) d)) (get_or-insert_above xs i y d k (omega arith) le)
      ∙ ap (λ n. lt (get_or xs n d) (get_or xs k d)) (let e : suc k ≡ k + 1 = omega arith in e)
      ∙ up k d (omega arith) (omega arith)

  past : (k : ℕ) (d : X) → i ≤ k → k < length xs → IsSortedBy lt xs → AllWithin (λ x. lt x y ≡ false) xs i (length xs) → lt (get_or (insert xs i y) (k + 1) d) (get_or (insert xs i y) k d) ≡ false
  past k d at h up high = elim (cases_order k i) [
    | inl e ↦ (
        let here : get_or (insert xs i y) k d ≡ y = ap (λ n. get_or (insert xs i y) n d) e ∙ get_or-insert_at xs i y d le in
        ap (λ t. lt t (get_or (insert xs i y) k d)) (get_or-insert_above xs i y d k at le) ∙ ap (lt (get_or xs k d)) here ∙ high k d at h)
    | inr far ↦ elim far [
      | inl less ↦ absurd (omega arith)
      | inr more ↦ later k d more h up
    ]
  ]

  insert-sorted : IsSortedBy lt xs → AllWithin (λ x. lt y x ≡ false) xs 0 i → AllWithin (λ x. lt x y ≡ false) xs i (length xs) → IsSortedBy lt (insert xs i y)
  insert-sorted up low high k d z h = elim (cases_order (k + 1) i) [
    | inl e ↦ (
        let here : get_or (insert xs i y) (k + 1) d ≡ y = ap (λ n. get_or (insert xs i y) n d) e ∙ get_or-insert_at xs i y d le in
        let before = get_or-insert_below xs i y d k (omega arith) le in
        ap (λ t. lt t (get_or (insert xs i y) k d)) here ∙ ap (lt y) before ∙ low k d (omega arith) (omega arith))
    | inr far ↦ elim far [
      | inl less ↦ (
          let after = get_or-insert_below xs i y d (k + 1) less le in
          let before = get_or-insert_below xs i y d k (omega arith) le in
          ap (λ t. lt t (get_or (insert xs i y) k d)) after ∙ ap (lt (get_or xs (k + 1) d)) before ∙ up k d (omega arith) (omega arith))
      | inr more ↦ past k d (omega arith) (let n = length-insert xs i y le in omega (arith, n, h)) up high
    ]
  ]

module _ (states : List BlockState) (prints order : List ℕ) (slots : Slots) (index : FindsStates states prints slots order) (s : BlockState) where
  abbrev more : List BlockState
  more = states ++ s ∷ []

  old_state : (n : ℕ) → n < length states → state_at more n ≡ state_at states n
  old_state n h = get_or_append_left states (s ∷ []) air n h

  new_state : state_at more (length states) ≡ s
  new_state = (let e : length states ≡ length states + 0 = omega arith in ap (state_at more) e) ∙ get_or-append-add states (s ∷ []) 0 air

  still_rising : IsSortedBy (λ m n. is_lt (state_cmp (state_at more m) (state_at more n))) order
  still_rising k d z h =
      let low = old_state (get_or order k d) (index.known k d (omega arith)) in
      let high = old_state (get_or order (k + 1) d) (index.known (k + 1) d h) in
      ap (λ t. is_lt (state_cmp t (state_at more (get_or order k d)))) high ∙ ap (λ t. is_lt (state_cmp (state_at states (get_or order (k + 1) d)) t)) low ∙ index.rising k d z h

  length_more : length more ≡ length states + 1
  length_more = length-append states (s ∷ [])

  still_known : All (λ n. n < length more) order
  still_known k d h = (let l = index.known k d h in omega (arith, length_more, l))

  count : length prints ≡ length states
  count = ap length index.prints ∙ length-map states fingerprint_of

  more_prints : (f : ℕ) → f ≡ fingerprint_of s → prints ++ f ∷ [] ≡ map fingerprint_of more
  more_prints f hash = ap (λ ns. ns ++ f ∷ []) index.prints ∙ ap (λ k. map fingerprint_of states ++ k ∷ []) hash ∙ sym (map-append fingerprint_of states (s ∷ []))

  -- with the state at the end, whose number its slot tells
  pub finds-taken : (f : ℕ) (new : Slots) → f ≡ fingerprint_of s → new.shift ≡ slots.shift → length states < told slots f → new.numbers.items ≡ set slots.numbers.items (slot_of slots f) (length states) → FindsStates more (prints ++ f ∷ []) new order
  finds-taken f new hash shift free e = record {
    prints = more_prints f hash;
    rising = still_rising;
    known = still_known;
    seated = seated-taken prints order slots new f shift index.seated (omega (arith, free, count)) (e ∙ ap (set slots.numbers.items (slot_of slots f)) (sym count));
  }

  module _ (rank : ℕ) (p : IsRankFor states s order rank) where
    not_below : AllWithin (λ n. is_lt (state_cmp (state_at more (length states)) (state_at more n)) ≡ false) order 0 rank
    not_below k d low high =
        let n = get_or order k d in
        let here = p.within in
        let less : stands states s n ≡ Less = p.below k d low high in
        ap (λ t. is_lt (state_cmp t (state_at more n))) new_state
        ∙ ap (λ t. is_lt (state_cmp s t)) (old_state n (index.known k d (omega (arith, here))))
        ∙ ap is_lt (state_total.antisymm s (state_at states n) ∙ ap ordering_reverse less)

    not_above : AllWithin (λ n. is_lt (state_cmp (state_at more n) (state_at more (length states))) ≡ false) order rank (length order)
    not_above k d low high =
        let n = get_or order k d in
        ap (λ t. is_lt (state_cmp t (state_at more (length states)))) (old_state n (index.known k d high))
        ∙ ap (λ t. is_lt (state_cmp (state_at states n) t)) new_state
        ∙ ap is_lt (p.above k d low high)

    all_known : All (λ n. n < length more) (insert order rank (length states))
    all_known = All-permutation (λ n. n < length more) (length states ∷ order) (insert order rank (length states)) (IsPermutation-insert order rank (length states)) (All-cons (λ n. n < length more) (length states) order (omega (arith, length_more)) still_known)

    -- what the order with the number hasn't, it has neither
    with_number : (n : ℕ) → All (λ m. m ≡ n → ⊥) (insert order rank (length states)) → All (λ m. m ≡ n → ⊥) (length states ∷ order)
    with_number n none = All-permutation (λ m. m ≡ n → ⊥) (insert order rank (length states)) (length states ∷ order) (IsPermutation-sym (length states ∷ order) (insert order rank (length states)) (IsPermutation-insert order rank (length states))) none

    -- with the state at the end and its number at its rank
    pub finds-left : (f : ℕ) (new : Slots) → f ≡ fingerprint_of s → new.shift ≡ slots.shift → told slots f ≤ length states → new.numbers.items ≡ slots.numbers.items → FindsStates more (prints ++ f ∷ []) new (insert order rank (length states))
    finds-left f new hash shift low e = record {
      prints = more_prints f hash;
      rising = insert-sorted (λ m n. is_lt (state_cmp (state_at more m) (state_at more n))) order rank (length states) p.within still_rising not_below not_above;
      known = all_known;
      seated = seated-left prints order slots new f shift index.seated (insert order rank (length states)) (omega (arith, low, count)) e
          (λ n none. All-tail (λ m. m ≡ n → ⊥) (length states) order (with_number n none))
          (λ none. with_number (length prints) none 0 0 (omega arith) (sym count));
    }
