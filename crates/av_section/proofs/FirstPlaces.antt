-- A written palette that grows.
use Rattle.std.proofs.Common.{◌≡◌, ◌≢◌, ℕ, ◌<◌, ◌≤◌, ◌+◌, nat_eq, List, [], ◌∷◌, ◌++◌, length, get_or, set, take, replicate, Bool, true, false, cond, AllPairs, refl, sym, ap, ◌∙◌, arith, true≢false, inl, inr, length-append, get_or-set_same, get_or-set_other}
use Rattle.std.specs.List.{list_any}
use Rattle.std.proofs.lemmas.Bool.{cases_eq, cases_lt, cases_order, ne_eqb}
use Rattle.std.proofs.lemmas.List.{get_or_append_left, get_or-replicate, length-replicate, length-set, map_more}
use Rattle.std.proofs.Math.Seq.{get_or-append_seam}
use Rattle.av_section.specs.Distinct.{with_number, with_numbers}
use Rattle.av_section.specs.WrittenPalette.{KnowsIndices, numbers_of}

any_push : (p : ℕ → Bool) (xs : List ℕ) (y : ℕ) → list_any p xs ≡ false → p y ≡ false → list_any p (xs ++ y ∷ []) ≡ false
any_push p [] y h e = rw e refl
any_push p (x ∷ xs) y h e = by (p x) refl (λ g. any_push p xs y g e) where
  by : (b : Bool) → p x ≡ b → (list_any p xs ≡ false → list_any p (xs ++ y ∷ []) ≡ false) → list_any p ((x ∷ xs) ++ y ∷ []) ≡ false
  by true q rest = absurd (true≢false (rw q at h))
  by false q rest = rw q (rest (rw q at h))

apart : (palette : List ℕ) → AllPairs (λ x y. x ≢ y) palette → (k i : ℕ) → k < length palette → i < length palette → k ≢ i → get_or palette k 0 ≢ get_or palette i 0
apart palette d k i lk li ne = elim (cases_order k i) [
  | inl e ↦ absurd (ne e)
  | inr o ↦ elim o [
    | inl lt ↦ d k i 0 lt li
    | inr gt ↦ λ q. d i k 0 gt lk (sym q)
  ]
]

-- nothing was seen yet
pub knows_none : (palette seen : List ℕ) → seen ≡ replicate (length palette) 65535 → KnowsIndices palette seen []
knows_none palette seen e = record {
  count = ap length e ∙ length-replicate (length palette) 65535;
  known = λ k low ne. absurd (ne (ap (λ l. get_or l k 0) e ∙ get_or-replicate (length palette) k 65535 0 low));
  unknown = λ k low q. refl;
}

-- one more entry of the palette was seen
pub knows_more : (palette seen written next new : List ℕ) (index last : ℕ) → AllPairs (λ x y. x ≢ y) palette → KnowsIndices palette seen written → index < length palette → last < 65535
    → last ≡ length written → next ≡ set seen index last → new ≡ written ++ get_or palette index 0 ∷ [] → KnowsIndices palette next new
knows_more palette seen written next new index last d k low small at e f =
    let n = get_or palette index 0 in
    let in_seen : index < length seen = omega (arith, k.count) in
    let grown = length-append written (n ∷ []) in
    rw (e, f) (record {
      count = length-set seen index last ∙ k.count;
      known = λ j within ne. elim (cases_eq j index) [
        | inl same ↦ (
            let is : get_or (set seen index last) j 0 ≡ last = ap (λ i. get_or (set seen index last) i 0) same ∙ get_or-set_same seen index last 0 in_seen in
            (omega (arith, is, at, grown), ap (λ i. get_or (written ++ n ∷ []) i 0) (is ∙ at) ∙ get_or-append_seam written n [] 0 ∙ ap (λ i. get_or palette i 0) (sym same)))
        | inr other ↦ (
            let is : get_or (set seen index last) j 0 ≡ get_or seen j 0 = get_or-set_other seen index j last 0 other in
            let old = k.known j within (λ q. ne (is ∙ q)) in
            (omega (arith, is, grown, old.0), ap (λ i. get_or (written ++ n ∷ []) i 0) is ∙ get_or_append_left written (n ∷ []) 0 (get_or seen j 0) old.0 ∙ old.1))
      ];
      unknown = λ j within q. elim (cases_eq j index) [
        | inl same ↦ (
            let is : get_or (set seen index last) j 0 ≡ last = ap (λ i. get_or (set seen index last) i 0) same ∙ get_or-set_same seen index last 0 in_seen in
            absurd (omega (arith, is, q)))
        | inr other ↦ any_push (nat_eq (get_or palette j 0)) written n (k.unknown j within (sym (get_or-set_other seen index j last 0 other) ∙ q)) (ne_eqb (get_or palette j 0) n (apart palette d j index within low other))
      ];
    })

-- ---- the whole

pub with_numbers-push : (ks xs : List ℕ) (x : ℕ) → with_numbers ks (xs ++ x ∷ []) ≡ with_number (with_numbers ks xs) x
with_numbers-push ks [] x = refl
with_numbers-push ks (y ∷ xs) x = with_numbers-push (with_number ks y) xs x

keeps_if : (b : Bool) (ks : List ℕ) (n k : ℕ) → k < length ks → (k < length (cond b ks (ks ++ n ∷ []))) × (get_or (cond b ks (ks ++ n ∷ [])) k 0 ≡ get_or ks k 0)
keeps_if true ks n k low = (low, refl)
keeps_if false ks n k low = (omega (arith, length-append ks (n ∷ [])), get_or_append_left ks (n ∷ []) 0 k low)

short_if : (b : Bool) (ks : List ℕ) (n : ℕ) → length (cond b ks (ks ++ n ∷ [])) ≤ length ks + 1
short_if true ks n = omega arith
short_if false ks n = omega (arith, length-append ks (n ∷ []))

-- the places that came
pub record WrittenSome (palette indices seen written found : List ℕ) (i : ℕ) : Type 0 where
  pub knows : KnowsIndices palette seen written
  pub numbers : written ≡ with_numbers [] (numbers_of palette (take i indices))
  pub short : length written ≤ i
  pub count : length found ≡ i
  pub each : (j : ℕ) → j < i → (get_or found j 0 < length written) × (get_or written (get_or found j 0) 0 ≡ get_or palette (get_or indices j 0) 0)

pub written_none : (palette indices seen : List ℕ) → seen ≡ replicate (length palette) 65535 → WrittenSome palette indices seen [] [] 0
written_none palette indices seen e = record { knows = knows_none palette seen e; numbers = refl; short = omega arith; count = refl; each = λ j low. absurd (omega arith) }

pub written_more : (palette indices seen written found next new more : List ℕ) (i place : ℕ) → i < length indices → WrittenSome palette indices seen written found i → KnowsIndices palette next new
    → new ≡ with_number written (get_or palette (get_or indices i 0) 0) → place < length new → get_or new place 0 ≡ get_or palette (get_or indices i 0) 0 → more ≡ found ++ place ∷ []
    → WrittenSome palette indices next new more (i + 1)
written_more palette indices seen written found next new more i place low w k e within is f =
    let n = get_or palette (get_or indices i 0) 0 in
    let b = list_any (nat_eq n) written in
    record {
      knows = k;
      numbers = e ∙ ap (λ ks. with_number ks n) w.numbers ∙ sym (with_numbers-push [] (numbers_of palette (take i indices)) n) ∙ ap (with_numbers []) (sym (map_more (λ x. get_or palette x 0) indices i 0 low));
      short = omega (arith, ap length e, short_if b written n, w.short);
      count = ap length f ∙ length-append found (place ∷ []) ∙ ap (λ c. c + 1) w.count;
      each = λ j before. elim (cases_lt j i) [
        | inl earlier ↦ (
            let here : j < length found = omega (arith, w.count) in
            let same : get_or more j 0 ≡ get_or found j 0 = ap (λ l. get_or l j 0) f ∙ get_or_append_left found (place ∷ []) 0 j here in
            let old = w.each j earlier in
            let kept = keeps_if b written n (get_or found j 0) old.0 in
            (omega (arith, ap length e, same, kept.0), ap (λ t. get_or new t 0) same ∙ ap (λ l. get_or l (get_or found j 0) 0) e ∙ kept.1 ∙ old.1))
        | inr last ↦ (
            let at : j ≡ length found = omega (arith, w.count) in
            let same : get_or more j 0 ≡ place = ap (λ l. get_or l j 0) f ∙ ap (λ t. get_or (found ++ place ∷ []) t 0) at ∙ get_or-append_seam found place [] 0 in
            let now : j ≡ i = omega (arith, w.count) in
            (omega (arith, same, within), ap (λ t. get_or new t 0) same ∙ is ∙ ap (λ t. get_or palette (get_or indices t 0) 0) (sym now)))
      ];
    }
