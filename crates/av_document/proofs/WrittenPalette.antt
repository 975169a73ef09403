-- A palette and the indices into it as they are written, read back.
use Rattle.std.proofs.Common.{◌≡◌, ℕ, zero, suc, ◌+◌, ◌<◌, ◌≤◌, ◌^◌, ◌/◌, List, [], ◌∷◌, ◌++◌, ℤ, Bool, true, false, ◌&&◌, Some, None, Option, cond, map, length, get_or, replicate, nat_lt, nat_eq, refl, sym, ap, ◌∙◌, subst, arith}
use Rattle.std.specs.Prelude.{All}
use Rattle.std.specs.List.{list_any, list_all, AllByRecursion, slice_get}
use Rattle.std.proofs.lemmas.Bool.Decides.{nat_tests}
use Rattle.std.proofs.lemmas.Option.{none-some, same_Some}
use Rattle.std.proofs.lemmas.List.{length-map, length-append, get_or-map}
use Rattle.std.proofs.lemmas.List.Elements.{All-nil, All-cons}
use Rattle.std.proofs.lemmas.Bool.{lt-ltb, eq-eqb}
use Rattle.av_tags.specs.Nbt.{Nbt, text, long_array, NamedTag}
use Rattle.av_tags.specs.ByName.{tag_of}
use Rattle.av_types.specs.Options.{◌>>=◌}
use Rattle.av_tags.specs.Shape.{each, lacks, or_else}
use Rattle.av_tags.proofs.Trees.{items_in_of, members_in_of}
use Rattle.av_state.specs.BlockState.{BlockState, Property, air, meant, in_order, is_in_order, is_storable, storable}
use Rattle.av_state.specs.StateList.{same_state, number_in, with_state, with_states}
use Rattle.av_state.proofs.Ordered.{in_order-again}
use Rattle.av_state.proofs.Storable.{storable-ordered}
use Rattle.av_state.proofs.Numbering.{number_in-there, number_in-any, number_in-none, number_in-end, with_states-number}
use Rattle.av_section.specs.Palette.{name_key, properties_key, property_in, properties_in, is_of_entry, described_state, written_state, state_in, states_if, palette_of, property_tag, properties_tags, state_tag, states_tag}
use Rattle.av_section.specs.BlockStates.{all_zero, are_below, indices_if, packed_indices, indices_in, indices_of, when, states_faults, state_at, palette_states, palette_tag, index_of, data_tag}
use Rattle.av_pack.specs.Packing.{bits_for, longs_for, unpacked, packed}
use Rattle.av_pack.proofs.Laws.{bits_for-low, bits_for-high, bits_for-enough, unpacked-packed}
use Rattle.av_pack.proofs.Packed.{length-packed}
use Rattle.av_pack.proofs.Slots.{slot_in_range}
use Rattle.av_document.specs.Law.{IsMeant}

-- ---- one state

abbrev pub state_tags : BlockState → List NamedTag
state_tags s = record { name = name_key; tag = text s.name } ∷ properties_tags s.properties

each_property : (ps : List Property) → each property_in (map property_tag ps) ≡ Some ps
each_property [] = refl
each_property (p ∷ ps) = ap (λ o. o >>= λ ys. Some (p ∷ ys)) (each_property ps)

read_properties : (ps : List Property) → is_in_order ps ≡ true → properties_in (tag_of properties_key (properties_tags ps)) ≡ Some ps
read_properties [] ordered = refl
read_properties (p ∷ ps) ordered =
    ap (λ l. each property_in l >>= λ properties. Some (in_order properties)) (members_in_of (map property_tag (p ∷ ps)))
    ∙ ap (λ o. o >>= λ properties. Some (in_order properties)) (each_property (p ∷ ps))
    ∙ ap Some (in_order-again (p ∷ ps) ordered)

properties_are_of_entry : (ps : List Property) → list_all is_of_entry (properties_tags ps) ≡ true
properties_are_of_entry [] = refl
properties_are_of_entry (p ∷ ps) = refl

described_state-tags : (s : BlockState) → is_in_order s.properties ≡ true → described_state (state_tags s) ≡ Some s
described_state-tags s ordered =
    ap (λ o. o >>= λ properties. cond (list_all is_of_entry (state_tags s)) (Some (record { name = s.name; properties = properties })) None) (read_properties s.properties ordered)
    ∙ ap (λ b. cond b (Some (record { name = s.name; properties = s.properties })) None) (properties_are_of_entry s.properties)

pub written_state-tags : (s : BlockState) → is_storable s ≡ true → written_state (state_tags s) ≡ Some s
written_state-tags s h = ap (λ o. o >>= storable) (described_state-tags s (storable-ordered s h)) ∙ ap (λ b. cond b (Some s) None) h

-- ---- the palette

each_state : (palette : List BlockState) → AllByRecursion IsMeant palette → each state_in (map state_tag palette) ≡ Some palette
each_state [] h = refl
each_state (s ∷ palette) h =
    ap (λ l. written_state l >>= λ y. (each state_in (map state_tag palette) >>= λ ys. Some (y ∷ ys))) (members_in_of (state_tags s))
    ∙ ap (λ o. o >>= λ y. (each state_in (map state_tag palette) >>= λ ys. Some (y ∷ ys))) (written_state-tags s h.0.storable)
    ∙ ap (λ o. o >>= λ ys. Some (s ∷ ys)) (each_state palette h.1)

each_meant : (palette : List BlockState) → AllByRecursion IsMeant palette → each meant palette ≡ Some palette
each_meant [] h = refl
each_meant (s ∷ palette) h =
    ap (λ o. o >>= λ y. (each meant palette >>= λ ys. Some (y ∷ ys))) h.0.same
    ∙ ap (λ o. o >>= λ ys. Some (s ∷ ys)) (each_meant palette h.1)

pub palette_of-written : (palette : List BlockState) → AllByRecursion IsMeant palette → 0 < length palette → length palette < 4097 → palette_of (Some (states_tag palette)) ≡ Some palette
palette_of-written palette h some few =
    ap (λ l. states_if (nat_lt 0 (length l) && nat_lt (length l) 4097) l) (items_in_of (map state_tag palette))
    ∙ ap (λ b. states_if b (map state_tag palette)) (counts (length (map state_tag palette)) (length-map palette state_tag))
    ∙ each_state palette h
  where
    counts : (n : ℕ) → n ≡ length palette → (nat_lt 0 n && nat_lt n 4097) ≡ true
    counts n e = grind (arith, nat_tests)

-- ---- the states of a palette

with_state-meant : (xs : List BlockState) (s : BlockState) → AllByRecursion IsMeant xs → IsMeant s → AllByRecursion IsMeant (with_state xs s)
with_state-meant xs s h m = by (list_any (same_state s) xs) where
  push : (xs : List BlockState) → AllByRecursion IsMeant xs → AllByRecursion IsMeant (xs ++ s ∷ [])
  push [] h = (m, tt)
  push (x ∷ xs) h = (h.0, push xs h.1)

  by : (b : Bool) → AllByRecursion IsMeant (cond b xs (xs ++ s ∷ []))
  by true = h
  by false = push xs h

pub with_states-meant : (xs ss : List BlockState) → AllByRecursion IsMeant xs → AllByRecursion IsMeant ss → AllByRecursion IsMeant (with_states xs ss)
with_states-meant xs [] h k = h
with_states-meant xs (s ∷ ss) h k = with_states-meant (with_state xs s) ss (with_state-meant xs s h k.0) k.1

with_state-length : (xs : List BlockState) (s : BlockState) → length (with_state xs s) ≤ length xs + 1
with_state-length xs s = by (list_any (same_state s) xs) where
  by : (b : Bool) → length (cond b xs (xs ++ s ∷ [])) ≤ length xs + 1
  by true = omega arith
  by false = omega (arith, length-append xs (s ∷ []))

pub with_states-length : (xs ss : List BlockState) → length (with_states xs ss) ≤ length xs + length ss
with_states-length xs [] = omega arith
with_states-length xs (s ∷ ss) = omega (arith, with_states-length (with_state xs s) ss, with_state-length xs s)

-- a number of a state
pub record HasNumber (xs : List BlockState) (s : BlockState) : Type 0 where
  pub number : ℕ
  pub is : number_in xs s ≡ Some number

with_state-number : (xs : List BlockState) (s : BlockState) → HasNumber (with_state xs s) s
with_state-number xs s = by (number_in xs s) refl where
  by : (o : Option ℕ) → number_in xs s ≡ o → HasNumber (with_state xs s) s
  by (Some k) e = record { number = k; is = ap (λ b. number_in (cond b xs (xs ++ s ∷ [])) s) (number_in-any xs s k e) ∙ e }
  by None e = record { number = length xs; is = ap (λ b. number_in (cond b xs (xs ++ s ∷ [])) s) (number_in-none xs s e) ∙ number_in-end xs s e }

pub with_states-has : (xs ss : List BlockState) → AllByRecursion (HasNumber (with_states xs ss)) ss
with_states-has xs [] = tt
with_states-has xs (s ∷ ss) =
    let first = with_state-number xs s in
    (record { number = first.number; is = with_states-number (with_state xs s) ss s first.number first.is }, with_states-has (with_state xs s) ss)

slice_get-lt : (xs : List BlockState) (k : ℕ) (x : BlockState) → slice_get xs k ≡ Some x → k < length xs
slice_get-lt [] k x h = absurd (none-some x h)
slice_get-lt (y ∷ xs) zero x h = omega arith
slice_get-lt (y ∷ xs) (suc k) x h = omega (arith, slice_get-lt xs k x h)

slice_get-get_or : (xs : List BlockState) (k : ℕ) (x d : BlockState) → slice_get xs k ≡ Some x → get_or xs k d ≡ x
slice_get-get_or [] k x d h = absurd (none-some x h)
slice_get-get_or (y ∷ xs) zero x d h = same_Some y x h
slice_get-get_or (y ∷ xs) (suc k) x d h = slice_get-get_or xs k x d h

-- the index of a state leads to it
index_lt : (palette : List BlockState) (s : BlockState) → HasNumber palette s → index_of palette s < length palette
index_lt palette s h =
    subst (λ k. k < length palette) (sym (ap (or_else 0) h.is)) (slice_get-lt palette h.number s (number_in-there palette s h.number h.is))

index_there : (palette : List BlockState) (s d : BlockState) → HasNumber palette s → get_or palette (index_of palette s) d ≡ s
index_there palette s d h =
    ap (λ k. get_or palette k d) (ap (or_else 0) h.is) ∙ slice_get-get_or palette h.number s d (number_in-there palette s h.number h.is)

-- ---- indices

abbrev pub indices : List BlockState → List BlockState → List ℕ
indices palette states = map (index_of palette) states

indices_below : (palette states : List BlockState) → AllByRecursion (HasNumber palette) states → are_below (length palette) (indices palette states) ≡ true
indices_below palette [] h = refl
indices_below palette (s ∷ states) h =
    ap (λ b. b && are_below (length palette) (indices palette states)) (lt-ltb (index_of palette s) (length palette) (index_lt palette s h.0)) ∙ indices_below palette states h.1

indices_zero : (palette states : List BlockState) → AllByRecursion (HasNumber palette) states → length palette ≡ 1 → indices palette states ≡ replicate (length states) 0
indices_zero palette [] h one = refl
indices_zero palette (s ∷ states) h one =
    let lt : index_of palette s < length palette = index_lt palette s h.0 in
    let zeroth : index_of palette s ≡ 0 = omega arith in
    ap (λ k. k ∷ indices palette states) zeroth ∙ ap (λ l. 0 ∷ l) (indices_zero palette states h.1 one)

pub indices_all : (palette states : List BlockState) (b : ℕ) → AllByRecursion (HasNumber palette) states → length palette ≤ 2 ^ b → All (λ n. n < 2 ^ b) (indices palette states)
indices_all palette [] b h few = All-nil (λ n. n < 2 ^ b)
indices_all palette (s ∷ states) b h few =
    let lt : index_of palette s < length palette = index_lt palette s h.0 in
    let first : index_of palette s < 2 ^ b = omega arith in
    All-cons (λ n. n < 2 ^ b) (index_of palette s) (indices palette states) first (indices_all palette states b h.1 few)

-- longs that are as many as they should be
indices_in-longs : (count : ℕ) (longs : List ℤ) → 0 < length longs → indices_in count longs ≡ indices_if ((nat_eq (length longs) (longs_for (bits_for count))) && are_below count (unpacked (bits_for count) longs)) (unpacked (bits_for count) longs)
indices_in-longs count longs some = ap (λ b. cond b (indices_if (nat_eq count 1) all_zero) (packed_indices count longs)) (not_zero (length longs) some)
  where
    not_zero : (n : ℕ) → 0 < n → nat_eq n 0 ≡ false
    not_zero n h = grind (arith, nat_tests)

-- the states of 4,096 places, and their palette
pub record AreOfPalette (states palette : List BlockState) : Type 0 where
  pub count : length states ≡ 4096
  pub numbered : AllByRecursion (HasNumber palette) states
  pub meant_states : AllByRecursion IsMeant palette
  pub some : 0 < length palette
  pub few : length palette ≤ 4096

pub is_filled : (states : List BlockState) → length states ≡ 4096 → AllByRecursion IsMeant states → AreOfPalette states (palette_states states)
is_filled states count meant_all = record {
  count = count;
  numbered = with_states-has [] states;
  meant_states = with_states-meant [] states tt meant_all;
  some = nonempty states count (with_states-has [] states);
  few = omega (arith, with_states-length [] states);
}
  where
    nonempty : (xs : List BlockState) → length xs ≡ 4096 → AllByRecursion (HasNumber (palette_states states)) xs → 0 < length (palette_states states)
    nonempty [] e h = absurd (omega arith)
    nonempty (x ∷ xs) e h = omega (arith, index_lt (palette_states states) x h.0)

module _ (states palette : List BlockState) (filled : AreOfPalette states palette) where
  longs_back : unpacked (bits_for (length palette)) (packed (bits_for (length palette)) (indices palette states)) ≡ indices palette states
  longs_back =
      let b : ℕ = bits_for (length palette) in
      let small : length palette ≤ 65536 = omega (arith, filled.few) in
      unpacked-packed (bits_for (length palette)) (indices palette states) (bits_for-low (length palette)) (bits_for-high (length palette))
      (length-map states (index_of palette) ∙ filled.count)
      (indices_all palette states (bits_for (length palette)) filled.numbered (bits_for-enough (length palette) small))

  some_longs : 0 < length (packed (bits_for (length palette)) (indices palette states))
  some_longs =
      let b : ℕ = bits_for (length palette) in
      let h : 0 / (64 / bits_for (length palette)) < longs_for (bits_for (length palette)) = slot_in_range (bits_for (length palette)) 0 (bits_for-low (length palette)) (bits_for-high (length palette)) (omega arith) in
      omega (arith, h, length-packed (bits_for (length palette)) (indices palette states))

  many : indices_in (length palette) (packed (bits_for (length palette)) (indices palette states)) ≡ Some (indices palette states)
  many =
      indices_in-longs (length palette) (packed (bits_for (length palette)) (indices palette states)) some_longs
      ∙ ap (λ b. indices_if (b && are_below (length palette) (unpacked (bits_for (length palette)) (packed (bits_for (length palette)) (indices palette states)))) (unpacked (bits_for (length palette)) (packed (bits_for (length palette)) (indices palette states))))
      (eq-eqb (length (packed (bits_for (length palette)) (indices palette states))) (longs_for (bits_for (length palette))) (length-packed (bits_for (length palette)) (indices palette states)))
      ∙ ap (λ is. indices_if (are_below (length palette) is) is) longs_back
      ∙ ap (λ b. indices_if b (indices palette states)) (indices_below palette states filled.numbered)

  one : length palette ≡ 1 → indices_in (length palette) [] ≡ Some (indices palette states)
  unfolding all_zero
  one e =
      ap (λ b. indices_if b (replicate 4096 0)) (eq-eqb (length palette) 1 e)
      ∙ ap Some (ap (λ n. replicate n 0) (sym filled.count) ∙ sym (indices_zero palette states filled.numbered e))

  pub indices_back : indices_of (length palette) (cond (nat_lt 1 (length palette)) (Some (long_array (packed (bits_for (length palette)) (indices palette states)))) None) ≡ Some (indices palette states)
  indices_back = by (nat_lt 1 (length palette)) refl where
    by : (b : Bool) → nat_lt 1 (length palette) ≡ b → indices_of (length palette) (cond b (Some (long_array (packed (bits_for (length palette)) (indices palette states)))) None) ≡ Some (indices palette states)
    by true e = many
    by false e = one (single (length palette) e filled.some)
      where
        single : (n : ℕ) → nat_lt 1 n ≡ false → 0 < n → n ≡ 1
        single n f s = grind (arith, nat_tests)

pub at_index : (palette : List BlockState) (states : List BlockState) (i : ℕ) (d : BlockState) → AllByRecursion (HasNumber palette) states → i < length states → HasNumber palette (get_or states i d)
at_index palette [] i d h lt = absurd (omega arith)
at_index palette (s ∷ states) zero d h lt = h.0
at_index palette (s ∷ states) (suc i) d h lt = at_index palette states i d h.1 (omega arith)

-- what is written of the states of 4,096 places has no fault, and each place has its state
pub record ReadsBack (states : List BlockState) (palette data_found : Option Nbt) : Type 0 where
  pub no_faults : states_faults palette data_found ≡ []
  pub state_is : (i : ℕ) → i < 4096 → state_at palette data_found i ≡ get_or states i air

pub reads_back : (states : List BlockState) → length states ≡ 4096 → AllByRecursion IsMeant states → ReadsBack states (Some (palette_tag states)) (data_tag states)
reads_back states count meant_all =
    let filled : AreOfPalette states (palette_states states) = is_filled states count meant_all in
    let pal : palette_of (Some (palette_tag states)) ≡ Some (palette_states states) = palette_of-written (palette_states states) filled.meant_states filled.some (omega (arith, filled.few)) in
    let ix : indices_of (length (palette_states states)) (data_tag states) ≡ Some (indices (palette_states states) states) = indices_back states (palette_states states) filled in
    let all : each meant (palette_states states) ≡ Some (palette_states states) = each_meant (palette_states states) filled.meant_states in
    record {
      no_faults =
          ap (λ o. when (lacks o) 14 ++ when (lacks (indices_of (length (or_else [] o)) (data_tag states))) 15 ++ when (lacks (each meant (or_else [] o))) 17) pal
          ∙ ap (λ o. when (lacks o) 15 ++ when (lacks (each meant (palette_states states))) 17) ix
          ∙ ap (λ o. when (lacks o) 17) all;
      state_is = λ i within.
          let inside : i < length states = omega (arith, count) in
          ap (λ o. get_or (or_else [] (each meant (or_else [] o))) (get_or (or_else [] (indices_of (length (or_else [] o)) (data_tag states))) i 0) air) pal
          ∙ ap (λ o. get_or (or_else [] o) (get_or (or_else [] (indices_of (length (palette_states states)) (data_tag states))) i 0) air) all
          ∙ ap (λ o. get_or (palette_states states) (get_or (or_else [] o) i 0) air) ix
          ∙ ap (λ k. get_or (palette_states states) k air) (get_or-map (index_of (palette_states states)) states i air 0 inside)
          ∙ index_there (palette_states states) (get_or states i air) air (at_index (palette_states states) states i air filled.numbered inside);
    }
