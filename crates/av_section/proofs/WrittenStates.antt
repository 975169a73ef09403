-- The states of a written palette.
use Rattle.std.proofs.Common.{◌≡◌, ◌≢◌, ℕ, zero, suc, ◌<◌, ◌≤◌, ◌+◌, nat_eq, if◌then◌else◌, List, [], ◌∷◌, ◌++◌, map, length, get_or, Some, Bool, true, false, cond, All, AllPairs, refl, sym, ap, subst, ◌∙◌, arith, inl, inr}
use Rattle.std.specs.List.{list_any, range_with_len}
use Rattle.std.proofs.lemmas.Bool.{cases_eq, ne_eqb, eq-eqb, lt-ltb}
use Rattle.std.proofs.lemmas.List.{map-append, length-map, same_lists, get_or-map, get_or_default}
use Rattle.std.proofs.lemmas.List.Elements.{All-push, All-head, All-tail, All-nil}
use Rattle.std.proofs.lemmas.Option.{slice_get-get_or}
use Rattle.av_section.specs.Distinct.{with_number, with_numbers}
use Rattle.av_pack.specs.Packing.{packed_at, unpacked}
use Rattle.av_state.specs.BlockState.{BlockState, air}
use Rattle.av_state.specs.StateList.{with_state, with_states, number_in, same_state, IsStateList}
use Rattle.av_state.proofs.Numbering.{state-Decides, same_state-refl}
use Rattle.av_section.specs.declared.section.Section.{Section}
use Rattle.av_section.specs.Section.{number_at, section_states, HasNumbersBelow}
use Rattle.av_section.specs.BlockStates.{palette_states, palette_tag, index_of, indices_tag, data_tag}
use Rattle.av_section.specs.Palette.{states_tag}
use Rattle.av_tags.specs.Shape.{or_else}
use Rattle.av_pack.proofs.Laws.{length-unpacked, get_or-unpacked}
use Rattle.av_section.specs.WrittenPalette.{IsWritten, numbers_of}
use Rattle.av_section.proofs.Distinct.{Distinct-push}
use Rattle.av_section.proofs.Once.{not_among}

distinct_if : (b : Bool) (ks : List ℕ) (n : ℕ) → list_any (nat_eq n) ks ≡ b → AllPairs (λ x y. x ≢ y) ks → AllPairs (λ x y. x ≢ y) (cond b ks (ks ++ n ∷ []))
distinct_if true ks n e d = d
distinct_if false ks n e d = Distinct-push ks n d (not_among ks n e)

distinct_all : (ks xs : List ℕ) → AllPairs (λ x y. x ≢ y) ks → AllPairs (λ x y. x ≢ y) (with_numbers ks xs)
distinct_all ks [] d = d
distinct_all ks (x ∷ xs) d = distinct_all (with_number ks x) xs (distinct_if (list_any (nat_eq x) ks) ks x refl d)

below_if : (P : ℕ → Type 0) (b : Bool) (ks : List ℕ) (n : ℕ) → P n → All P ks → All P (cond b ks (ks ++ n ∷ []))
below_if P true ks n p all = all
below_if P false ks n p all = All-push P ks n all p

below_all : (P : ℕ → Type 0) (ks xs : List ℕ) → All P ks → All P xs → All P (with_numbers ks xs)
below_all P ks [] a b = a
below_all P ks (x ∷ xs) a b = below_all P (with_number ks x) xs (below_if P (list_any (nat_eq x) ks) ks x (All-head P x xs b) a) (All-tail P x xs b)

module _ (states : List BlockState) (l : IsStateList states) where
  -- the state of a number
  abbrev f : ℕ → BlockState
  f n = get_or states n air

  same_numbers : (n m : ℕ) → n < length states → m < length states → same_state (f n) (f m) ≡ nat_eq n m
  same_numbers n m ln lm = elim (cases_eq n m) [
    | inl e ↦ rw e (same_state-refl (f m) ∙ sym (eq-eqb m m refl))
    | inr ne ↦ by (same_state (f n) (f m)) refl ne
  ]
    where
      by : (b : Bool) → same_state (f n) (f m) ≡ b → n ≢ m → same_state (f n) (f m) ≡ nat_eq n m
      by true h ne = absurd (ne (l.distinct n m ln lm (slice_get-get_or states n air ln ∙ ap Some ((state-Decides (f n) (f m)).0 h) ∙ sym (slice_get-get_or states m air lm))))
      by false h ne = h ∙ sym (ne_eqb n m ne)

  any_same : (n : ℕ) (ks : List ℕ) → n < length states → All (λ k. k < length states) ks → list_any (same_state (f n)) (map f ks) ≡ list_any (nat_eq n) ks
  any_same n [] low all = refl
  any_same n (k ∷ ks) low all = rw (same_numbers n k low (All-head (λ k. k < length states) k ks all), any_same n ks low (All-tail (λ k. k < length states) k ks all)) refl

  map_if : (b : Bool) (ks : List ℕ) (n : ℕ) → cond b (map f ks) (map f ks ++ f n ∷ []) ≡ map f (cond b ks (ks ++ n ∷ []))
  map_if true ks n = refl
  map_if false ks n = sym (map-append f ks (n ∷ []))

  numbered : (ks xs : List ℕ) → All (λ k. k < length states) ks → All (λ k. k < length states) xs → with_states (map f ks) (map f xs) ≡ map f (with_numbers ks xs)
  numbered ks [] a b = refl
  numbered ks (x ∷ xs) a b =
      let low = All-head (λ k. k < length states) x xs b in
      let step : with_state (map f ks) (f x) ≡ map f (with_number ks x) = ap (λ c. cond c (map f ks) (map f ks ++ f x ∷ [])) (any_same x ks low a) ∙ map_if (list_any (nat_eq x) ks) ks x in
      ap (λ ss. with_states ss (map f xs)) step ∙ numbered (with_number ks x) xs (below_if (λ k. k < length states) (list_any (nat_eq x) ks) ks x low a) (All-tail (λ k. k < length states) x xs b)

  found_at : (ks : List ℕ) (k n : ℕ) → k < length ks → get_or ks k 0 ≡ n → AllPairs (λ x y. x ≢ y) ks → All (λ k. k < length states) ks → number_in (map f ks) (f n) ≡ Some k
  found_at [] k n low e d all = absurd (omega arith)
  found_at (x ∷ ks) zero n low e d all = rw (sym e, same_state-refl (f x)) refl
  found_at (x ∷ ks) (suc k) n low e d all =
      let there : get_or ks k 0 < length states = All-tail (λ k. k < length states) x ks all k 0 (omega arith) in
      let ln : n < length states = subst (λ t. t < length states) e there in
      let lx = All-head (λ k. k < length states) x ks all in
      let other : n ≢ x = λ q. d 0 (suc k) 0 (omega arith) (omega arith) (sym q ∙ sym e) in
      let rest = found_at ks k n (omega arith) e (λ i j z a b. d (suc i) (suc j) z (omega arith) (omega arith)) (All-tail (λ k. k < length states) x ks all) in
      rw (same_numbers n x ln lx, ne_eqb n x other, rest) refl

  -- the written palette and the indices into it
  pub record WrittenAs (cells : List BlockState) (numbers found : List ℕ) : Type 0 where
    pub palette : palette_states cells ≡ map f numbers
    pub indices : map (index_of (map f numbers)) cells ≡ found
    pub below : All (λ n. n < length states) numbers
    pub found_below : All (λ k. k < length numbers) found

  pub written_as : (palette indices numbers found : List ℕ) → All (λ n. n < length states) (numbers_of palette indices) → IsWritten palette indices numbers found → WrittenAs (map f (numbers_of palette indices)) numbers found
  written_as palette indices numbers found low w =
      let ns = numbers_of palette indices in
      let all : All (λ n. n < length states) numbers = subst (All (λ n. n < length states)) (sym w.numbers) (below_all (λ n. n < length states) [] ns (All-nil (λ n. n < length states)) low) in
      let apart : AllPairs (λ x y. x ≢ y) numbers = subst (AllPairs (λ x y. x ≢ y)) (sym w.numbers) (distinct_all [] ns (λ i j d a b. absurd (omega arith))) in
      let long : length (map (index_of (map f numbers)) (map f ns)) ≡ length found = length-map (map f ns) (index_of (map f numbers)) ∙ length-map ns f ∙ length-map indices (λ i. get_or palette i 0) ∙ sym w.count in
      record {
        palette = numbered [] ns (All-nil (λ n. n < length states)) low ∙ ap (map f) (sym w.numbers);
        indices = same_lists _ found long (λ j d within. (
            let here : j < length ns = omega (arith, length-map (map f ns) (index_of (map f numbers)), length-map ns f) in
            let there : j < length indices = omega (arith, here, length-map indices (λ i. get_or palette i 0)) in
            let e = w.each j there in
            let number : get_or ns j 0 ≡ get_or palette (get_or indices j 0) 0 = get_or-map (λ i. get_or palette i 0) indices j 0 0 there in
            let cell : get_or (map f ns) j air ≡ f (get_or ns j 0) = get_or-map f ns j 0 air here in
            let among : j < length (map f ns) = omega (arith, length-map ns f) in
            let at = found_at numbers (get_or found j 0) (get_or ns j 0) e.0 (e.1 ∙ sym number) apart all in
            get_or-map (index_of (map f numbers)) (map f ns) j air d among ∙ ap (index_of (map f numbers)) cell ∙ ap (or_else 0) at ∙ get_or_default found j 0 d (omega (arith, w.count))));
        below = all;
        found_below = λ k d within. (let e = w.each k (omega (arith, w.count)) in subst (λ t. t < length numbers) (get_or_default found k 0 d within) e.0);
      }

-- ---- a whole section

module _ (states : List BlockState) (s : Section) where
  abbrev numbers_there : List ℕ
  numbers_there = numbers_of s.palette.items (unpacked s.bits s.longs.items)

  range_cells : (n a : ℕ) → a + n ≤ 4096 → map (λ i. get_or states (number_at s i) air) (range_with_len a n)
      ≡ map (λ k. get_or states k air) (map (λ i. get_or s.palette.items i 0) (map (packed_at s.bits s.longs.items) (range_with_len a n)))
  range_cells zero a low = refl
  range_cells (suc n) a low =
      let here : a < 4096 = omega arith in
      rw (lt-ltb a 4096 here) (ap (λ l. get_or states (get_or s.palette.items (packed_at s.bits s.longs.items a) 0) air ∷ l) (range_cells n (a + 1) (omega arith)))

  section_cells : section_states states s ≡ map (λ k. get_or states k air) numbers_there
  unfolding section_states unpacked
  section_cells = range_cells 4096 0 (omega arith)

  pub record WritesSection (numbers found : List ℕ) : Type 0 where
    pub palette : palette_tag (section_states states s) ≡ states_tag (map (λ k. get_or states k air) numbers)
    pub indices : data_tag (section_states states s) ≡ indices_tag (length numbers) found
    pub below : All (λ n. n < length states) numbers
    pub found_below : All (λ k. k < length numbers) found
    pub long : length found ≡ 4096
    pub short : length numbers ≤ 4096

  pub writes_section : (numbers found : List ℕ) → IsStateList states → HasNumbersBelow s (length states) → IsWritten s.palette.items (unpacked s.bits s.longs.items) numbers found → WritesSection numbers found
  writes_section numbers found l low w =
      let indices = unpacked s.bits s.longs.items in
      let many = length-unpacked s.bits s.longs.items in
      let fits : All (λ n. n < length states) numbers_there = λ k d within. (
      let there : k < length indices = omega (arith, length-map indices (λ i. get_or s.palette.items i 0)) in
      let place : k < 4096 = omega (arith, many) in
      let number = get_or-map (λ i. get_or s.palette.items i 0) indices k 0 d there ∙ ap (λ i. get_or s.palette.items i 0) (get_or-unpacked s.bits s.longs.items k 0 place) in
      let known : get_or s.palette.items (packed_at s.bits s.longs.items k) 0 < length states = subst (λ b. (if b then get_or s.palette.items (packed_at s.bits s.longs.items k) 0 else 0) < length states) (lt-ltb k 4096 place) (low k place) in
      subst (λ n. n < length states) (sym number) known) in
      let a = written_as states l s.palette.items indices numbers found fits w in
      let cells = section_cells in
      record {
        palette = ap palette_tag cells ∙ ap states_tag a.palette;
        indices = ap data_tag cells ∙ ap (λ p. indices_tag (length p) (map (index_of p) (map (λ k. get_or states k air) numbers_there))) a.palette
            ∙ ap (indices_tag (length (map (λ k. get_or states k air) numbers))) a.indices ∙ ap (λ n. indices_tag n found) (length-map numbers (λ k. get_or states k air));
        below = a.below;
        found_below = a.found_below;
        long = w.count ∙ many;
        short = omega (arith, w.short, many);
      }
