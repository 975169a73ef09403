-- Numbers that were seen in order, and where each stands first.
use Rattle.std.proofs.Common.{◌≡◌, ◌≢◌, ℕ, zero, suc, ◌+◌, ◌<◌, ◌≤◌, ◌==◌, ◌↔◌, IsTrue, List, [], ◌∷◌, length, get_or, Bool, All, inl, inr, refl, sym, ap, ◌∙◌, subst, arith, ℤ}
use Rattle.std.proofs.lemmas.Bool.{cases_order, cases_lt, eq-eqb, eqb-true, ne_eqb, lt-ltb, le-ltb}
use Rattle.std.proofs.lemmas.List.Elements.{All-head, All-tail}
use Rattle.av_pack.specs.Packing.{packed_at, unpacked}
use Rattle.av_pack.specs.Seen.{seen_with, seen_after}
use Rattle.av_pack.specs.Order.{ComesAfterSmaller, AreInOrder}
use Rattle.av_pack.proofs.Laws.{length-unpacked, get_or-unpacked}

-- ---- one more

pub seen_same : (k n : ℕ) → n ≡ k → seen_with k n ≡ k + 1
seen_same k n e = rw (eq-eqb n k e) refl

pub seen_before : (k n : ℕ) → n < k → seen_with k n ≡ k
seen_before k n low = rw (ne_eqb n k (λ e. absurd (omega (arith, e, low))), lt-ltb n k low) refl

pub seen_past : (k n : ℕ) → k < n → seen_with k n ≡ 65537
seen_past k n high = rw (ne_eqb n k (λ e. absurd (omega (arith, e, high))), le-ltb n k (omega (arith, high))) refl

-- where one was left out, none makes up for it
pub lost : (count : ℕ) (ns : List ℕ) → count ≤ 65536 → All (λ n. n < count) ns → seen_after 65537 ns ≡ 65537
lost count [] few small = refl
lost count (n ∷ ns) few small =
    let low = All-head (λ n. n < count) n ns small in
    ap (λ k. seen_after k ns) (seen_before 65537 n (omega (arith, low, few))) ∙ lost count ns few (All-tail (λ n. n < count) n ns small)

-- ---- a first place, with one more number before all

smaller-later : (x n place : ℕ) (ns : List ℕ) → x < n → ((i : ℕ) → i < place → get_or ns i 0 < n) → (i : ℕ) → i < suc place → get_or (x ∷ ns) i 0 < n
smaller-later x n place ns low h zero within = low
smaller-later x n place ns low h (suc i) within = h i (omega (arith, within))

later : (x n : ℕ) (ns : List ℕ) → x < n → ComesAfterSmaller ns n → ComesAfterSmaller (x ∷ ns) n
later x n ns low u = record { place = suc u.place; within = omega (arith, u.within); there = u.there; smaller = smaller-later x n u.place ns low u.smaller }

earlier-at : (x n place : ℕ) (ns : List ℕ) → x ≢ n → place < length (x ∷ ns) → get_or (x ∷ ns) place 0 ≡ n → ((i : ℕ) → i < place → get_or (x ∷ ns) i 0 < n) → ComesAfterSmaller ns n
earlier-at x n zero ns other within there smaller = absurd (other there)
earlier-at x n (suc place) ns other within there smaller = record { place = place; within = omega (arith, within); there = there; smaller = λ i before. smaller (suc i) (omega (arith, before)) }

earlier : (x n : ℕ) (ns : List ℕ) → x ≢ n → ComesAfterSmaller (x ∷ ns) n → ComesAfterSmaller ns n
earlier x n ns other u = earlier-at x n u.place ns other u.within u.there u.smaller

first-at : (x n place : ℕ) (ns : List ℕ) → get_or (x ∷ ns) place 0 ≡ n → ((i : ℕ) → i < place → get_or (x ∷ ns) i 0 < n) → x ≤ n
first-at x n zero ns there smaller = omega (arith, there)
first-at x n (suc place) ns there smaller = omega (arith, smaller 0 (omega arith))

-- ---- both ways

uses : (count next : ℕ) (ns : List ℕ) → count ≤ 65536 → All (λ n. n < count) ns → seen_after next ns ≡ count → (n : ℕ) → next ≤ n → n < count → ComesAfterSmaller ns n
uses count next [] few small end n le lt = absurd (omega (arith, end, le, lt))
uses count next (x ∷ ns) few small end n le lt =
    let rest = All-tail (λ n. n < count) x ns small in
    elim (cases_order x next) [
      | inl e ↦ elim (cases_lt next n) [
        | inl more ↦ later x n ns (omega (arith, e, more)) (uses count (next + 1) ns few rest (ap (λ k. seen_after k ns) (sym (seen_same next x e)) ∙ end) n (omega (arith, more)) lt)
        | inr same ↦ record { place = 0; within = omega arith; there = omega (arith, e, same, le); smaller = λ i before. absurd (omega (arith, before)) }
      ]
      | inr o ↦ elim o [
        | inl before ↦ later x n ns (omega (arith, before, le)) (uses count next ns few rest (ap (λ k. seen_after k ns) (sym (seen_before next x before)) ∙ end) n le lt)
        | inr past ↦ absurd (
            let gone : seen_after (seen_with next x) ns ≡ 65537 = ap (λ k. seen_after k ns) (seen_past next x past) ∙ lost count ns few rest in
            omega (arith, gone, end, few))
      ]
    ]

seen : (count next : ℕ) (ns : List ℕ) → next ≤ count → All (λ n. n < count) ns → ((n : ℕ) → next ≤ n → n < count → ComesAfterSmaller ns n) → seen_after next ns ≡ count
seen count next [] le small h = elim (cases_lt next count) [
  | inl lt ↦ absurd (omega (arith, (h next (omega arith) lt).within))
  | inr ge ↦ omega (arith, le, ge)
]
seen count next (x ∷ ns) le small h =
    let low = All-head (λ n. n < count) x ns small in
    let rest = All-tail (λ n. n < count) x ns small in
    elim (cases_order x next) [
      | inl e ↦ ap (λ k. seen_after k ns) (seen_same next x e) ∙ seen count (next + 1) ns (omega (arith, e, low)) rest (λ n more lt. earlier x n ns (λ same. absurd (omega (arith, same, e, more))) (h n (omega (arith, more)) lt))
      | inr o ↦ elim o [
        | inl before ↦ ap (λ k. seen_after k ns) (seen_before next x before) ∙ seen count next ns le rest (λ n more lt. earlier x n ns (λ same. absurd (omega (arith, same, before, more))) (h n more lt))
        | inr past ↦ absurd (
            let u = h next (omega arith) (omega (arith, past, low)) in
            omega (arith, past, first-at x next u.place ns u.there u.smaller))
      ]
    ]

-- numbers in order are those of which none was left out
pub in_order-seen : (count : ℕ) (ns : List ℕ) → All (λ n. n < count) ns → AreInOrder count ns → seen_after 0 ns ≡ count
in_order-seen count ns small order = seen count 0 ns (omega arith) small (λ n le lt. order.each n lt)

small_entries : (b count : ℕ) (longs : List ℤ) → ((i : ℕ) → i < 4096 → packed_at b longs i < count) → All (λ n. n < count) (unpacked b longs)
small_entries b count longs small i d within =
    let place : i < 4096 = subst (λ n. i < n) (length-unpacked b longs) within in
    subst (λ n. n < count) (sym (get_or-unpacked b longs i d place)) (small i place)

pub order_told : (b count : ℕ) (longs : List ℤ) (told : Bool) → count ≤ 65536 → ((i : ℕ) → i < 4096 → packed_at b longs i < count) → told ≡ (seen_after 0 (unpacked b longs) == count)
    → IsTrue told ↔ AreInOrder count (unpacked b longs)
order_told b count longs told few small is =
    let all = small_entries b count longs small in (
      λ yes. record { each = λ n lt. uses count 0 (unpacked b longs) few all (eqb-true (seen_after 0 (unpacked b longs)) count (sym is ∙ yes)) n (omega arith) lt },
      λ order. is ∙ eq-eqb (seen_after 0 (unpacked b longs)) count (in_order-seen count (unpacked b longs) all order),
    )
