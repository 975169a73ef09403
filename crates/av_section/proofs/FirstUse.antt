-- A palette that is in the order of first use, as it is written.
use Rattle.std.proofs.Common.{◌≡◌, ◌≢◌, ℕ, suc, ◌<◌, ◌≤◌, ◌+◌, nat_eq, ℤ, List, [], ◌∷◌, ◌++◌, length, get_or, map, take, Bool, true, false, cond, All, AllPairs, refl, sym, ap, subst, ◌∙◌, arith, inl, inr, get_or-take, length-append}
use Rattle.std.specs.List.{list_any}
use Rattle.std.proofs.lemmas.Bool.{cases_order, ne_eqb}
use Rattle.std.proofs.lemmas.List.{take_more, take_all, length-take-le, length-map, get_or_default}
use Rattle.std.proofs.lemmas.List.Elements.{All-head, All-tail}
use Rattle.av_section.specs.Distinct.{with_number, with_numbers}
use Rattle.av_pack.specs.Packing.{unpacked}
use Rattle.av_pack.proofs.Laws.{length-unpacked, get_or-unpacked}
use Rattle.av_section.specs.Packed.{IsPackedSection}
use Rattle.av_pack.specs.Seen.{seen_with, seen_after}
use Rattle.av_pack.specs.Order.{AreInOrder}
use Rattle.av_pack.proofs.FirstUses.{seen_same, seen_before, seen_past, lost, in_order-seen}
use Rattle.av_section.specs.WrittenPalette.{IsWritten, numbers_of}
use Rattle.av_section.proofs.Once.{any_at}

none_of : (ks : List ℕ) (n : ℕ) → ((i : ℕ) → i < length ks → n ≢ get_or ks i 0) → list_any (nat_eq n) ks ≡ false
none_of [] n h = refl
none_of (k ∷ ks) n h = rw (ne_eqb n k (h 0 (omega arith)), none_of ks n (λ i low. h (suc i) (omega arith))) refl

-- ---- one more

module _ (palette : List ℕ) (distinct : AllPairs (λ x y. x ≢ y) palette) (few : length palette ≤ 65536) where
  abbrev number : ℕ → ℕ
  number i = get_or palette i 0

  insert_next : (k : ℕ) → k < length palette → with_number (take k palette) (number k) ≡ take (k + 1) palette
  insert_next k low =
      let long : length (take k palette) ≡ k = length-take-le k palette (omega (arith, low)) in
      let new : list_any (nat_eq (number k)) (take k palette) ≡ false = none_of (take k palette) (number k) (λ i within.
      let before : i < k = omega (arith, within, long) in
      λ e. distinct i k 0 before low (sym (e ∙ get_or-take k palette i 0 before))) in
      ap (λ b. cond b (take k palette) (take k palette ++ number k ∷ [])) new ∙ sym (take_more palette k 0 low)

  insert_known : (k n : ℕ) → n < k → k ≤ length palette → with_number (take k palette) (number n) ≡ take k palette
  insert_known k n before low =
      let long : length (take k palette) ≡ k = length-take-le k palette low in
      let within : n < length (take k palette) = omega (arith, before, long) in
      let at : get_or (take k palette) n (number n) ≡ number n = get_or_default (take k palette) n (number n) 0 within ∙ get_or-take k palette n 0 before in
      ap (λ b. cond b (take k palette) (take k palette ++ number n ∷ [])) (any_at (take k palette) (number n) n within at)

  inserted : (k : ℕ) (ns : List ℕ) → k ≤ length palette → All (λ n. n < length palette) ns → seen_after k ns ≤ length palette
      → with_numbers (take k palette) (map number ns) ≡ take (seen_after k ns) palette
  inserted k [] le all end = refl
  inserted k (n ∷ ns) le all end =
      let low = All-head (λ n. n < length palette) n ns all in
      let rest = All-tail (λ n. n < length palette) n ns all in
      elim (cases_order n k) [
        | inl e ↦ (
            let s = seen_same k n e in
            let within : k < length palette = omega (arith, e, low) in
            let same : with_number (take k palette) (number n) ≡ take (k + 1) palette = ap (λ i. with_number (take k palette) (number i)) e ∙ insert_next k within in
            let left : seen_after (k + 1) ns ≤ length palette = subst (λ i. seen_after i ns ≤ length palette) s end in
            ap (λ ks. with_numbers ks (map number ns)) same ∙ inserted (k + 1) ns (omega (arith, within)) rest left ∙ ap (λ i. take (seen_after i ns) palette) (sym s))
        | inr o ↦ elim o [
          | inl before ↦ (
              let s = seen_before k n before in
              let left : seen_after k ns ≤ length palette = subst (λ i. seen_after i ns ≤ length palette) s end in
              ap (λ ks. with_numbers ks (map number ns)) (insert_known k n before le) ∙ inserted k ns le rest left ∙ ap (λ i. take (seen_after i ns) palette) (sym s))
          | inr past ↦ absurd (
              let end_is : seen_after (seen_with k n) ns ≡ 65537 = ap (λ i. seen_after i ns) (seen_past k n past) ∙ lost (length palette) ns few rest in
              omega (arith, end_is, end, few))
        ]
      ]

-- ---- all

short_if : (b : Bool) (ks : List ℕ) (n : ℕ) → length (cond b ks (ks ++ n ∷ [])) ≤ length ks + 1
short_if true ks n = omega arith
short_if false ks n = omega (arith, length-append ks (n ∷ []))

with_numbers-short : (ks xs : List ℕ) → length (with_numbers ks xs) ≤ length ks + length xs
with_numbers-short ks [] = omega arith
with_numbers-short ks (x ∷ xs) = omega (arith, with_numbers-short (with_number ks x) xs, short_if (list_any (nat_eq x) ks) ks x)

-- such a palette is written as it is
pub written_in_order : (palette indices : List ℕ) → AllPairs (λ x y. x ≢ y) palette → length palette ≤ 65536 → All (λ i. i < length palette) indices → AreInOrder (length palette) indices
    → IsWritten palette indices palette indices
written_in_order palette indices distinct few below ordered =
    let end : seen_after 0 indices ≡ length palette = in_order-seen (length palette) indices below ordered in
    let all : with_numbers [] (numbers_of palette indices) ≡ palette =
    inserted palette distinct few 0 indices (omega arith) below (omega (arith, end)) ∙ ap (λ k. take k palette) end ∙ take_all (length palette) palette (omega arith) in
    record {
      numbers = sym all;
      short = omega (arith, with_numbers-short [] (numbers_of palette indices), ap length all, length-map indices (λ i. get_or palette i 0));
      count = refl;
      each = λ j low. (below j 0 low, refl);
    }

-- the indices of a section are those of its palette
pub unpacked_below : (palette : List ℕ) (longs : List ℤ) (bits : ℕ) → IsPackedSection palette longs bits → All (λ i. i < length palette) (unpacked bits longs)
unpacked_below palette longs bits packed k d low =
    let place : k < 4096 = subst (λ n. k < n) (length-unpacked bits longs) low in
    subst (λ i. i < length palette) (sym (get_or-unpacked bits longs k d place)) (packed.below k place)
