-- A list whose elements are replaced one by one, as numbers by their ranks.
use Rattle.std.proofs.Common.{◌≡◌, ℕ, ◌<◌, ◌≤◌, ◌+◌, nat_eq, List, [], ◌∷◌, ◌++◌, length, get_or, set, map, All, Bool, true, false, cond, sym, ◌∙◌, subst, inl, inr, arith, length-append, get_or-set_same, get_or-set_other}
use Rattle.std.specs.List.{list_any}
use Rattle.std.proofs.lemmas.Bool.{cases_lt}
use Rattle.std.proofs.lemmas.List.{get_or_append_left, get_or_default, get_or-map, length-map, length-set, ext_get_or}
use Rattle.av_section.specs.Distinct.{AreRanks, with_number}
use Rattle.av_section.specs.WrittenPalette.{numbers_of}

-- those that came are replaced, and the others are as they were
pub record Replaced (R : ℕ → ℕ → Type 0) (old new : List ℕ) (i : ℕ) : Type 0 where
  pub long : length new ≡ length old
  pub done : (j : ℕ) → j < i → R (get_or old j 0) (get_or new j 0)
  pub left : (j : ℕ) → i ≤ j → get_or new j 0 ≡ get_or old j 0

pub replaced_more : (R : ℕ → ℕ → Type 0) (old new next : List ℕ) (i x : ℕ) → i < length old → Replaced R old new i → next ≡ set new i x → R (get_or old i 0) x → Replaced R old next (i + 1)
replaced_more R old new next i x low r e h =
    let within : i < length new = omega (arith, r.long, low) in
    rw e (record {
      long = length-set new i x ∙ r.long;
      done = λ j before. elim (cases_lt j i) [
        | inl lt ↦ subst (λ v. R (get_or old j 0) v) (sym (get_or-set_other new i j x 0 (λ q. omega (arith, lt, q)))) (r.done j lt)
        | inr ge ↦ (
            let same : i ≡ j = omega (arith, before, ge) in
            subst (λ k. R (get_or old k 0) (get_or (set new i x) k 0)) same (subst (λ v. R (get_or old i 0) v) (sym (get_or-set_same new i x 0 within)) h))
      ];
      left = λ j after. get_or-set_other new i j x 0 (λ q. omega (arith, after, q)) ∙ r.left j (omega (arith, after));
    })

replaced_also : (R S : ℕ → ℕ → Type 0) (old new : List ℕ) (i : ℕ) → ((a b : ℕ) → R a b → S a b) → Replaced R old new i → Replaced S old new i
replaced_also R S old new i f r = record { long = r.long; done = λ j low. f (get_or old j 0) (get_or new j 0) (r.done j low); left = r.left }

-- ---- ranks

abbrev pub StandsAt : List ℕ → ℕ → ℕ → Type 0
StandsAt once number rank = (rank < length once) × (get_or once rank 0 ≡ number)

stands_if : (b : Bool) (ks : List ℕ) (n a k : ℕ) → StandsAt ks a k → StandsAt (cond b ks (ks ++ n ∷ [])) a k
stands_if true ks n a k h = h
stands_if false ks n a k h = (omega (arith, length-append ks (n ∷ []), h.0), get_or_append_left ks (n ∷ []) 0 k h.0 ∙ h.1)

-- one more number, with its rank
pub ranked_more : (numbers once ranks next new : List ℕ) (i n rank : ℕ) → i < length numbers → n ≡ get_or ranks i 0 → next ≡ with_number once n → rank < length next → get_or next rank 0 ≡ n
    → new ≡ set ranks i rank → Replaced (StandsAt once) numbers ranks i → Replaced (StandsAt next) numbers new (i + 1)
ranked_more numbers once ranks next new i n rank low at e within is f r =
    let kept : (a k : ℕ) → StandsAt once a k → StandsAt next a k = λ a k h. subst (λ ks. StandsAt ks a k) (sym e) (stands_if (list_any (nat_eq n) once) once n a k h) in
    replaced_more (StandsAt next) numbers ranks new i rank low (replaced_also (StandsAt once) (StandsAt next) numbers ranks i kept r) f (within, is ∙ at ∙ r.left i (omega arith))

pub all_ranked : (numbers once ranks : List ℕ) (i : ℕ) → i ≡ length numbers → Replaced (StandsAt once) numbers ranks i → AreRanks once numbers ranks
all_ranked numbers once ranks i end r = record {
  count = r.long;
  below = λ k d low. subst (λ v. v < length once) (get_or_default ranks k 0 d low) (r.done k (omega (arith, low, end, r.long))).0;
  numbers_are = λ j low. (r.done j (omega (arith, low, end))).1;
}

-- the numbers of the ranks
pub ranked_numbers : (numbers once ranks : List ℕ) → AreRanks once numbers ranks → numbers_of once ranks ≡ numbers
ranked_numbers numbers once ranks p =
    let f : ℕ → ℕ = λ k. get_or once k 0 in
    ext_get_or 0 (map f ranks) numbers (length-map ranks f ∙ p.count) (λ k low. (
    let within : k < length ranks = omega (arith, low, length-map ranks f) in
    get_or-map f ranks k 0 0 within ∙ p.numbers_are k (omega (arith, within, p.count))))

pub own_ranks : (once ranks : List ℕ) → All (λ v. v < length once) ranks → AreRanks once (numbers_of once ranks) ranks
own_ranks once ranks below =
    let f : ℕ → ℕ = λ k. get_or once k 0 in
    record { count = sym (length-map ranks f); below = below; numbers_are = λ j low. sym (get_or-map f ranks j 0 0 (omega (arith, low, length-map ranks f))) }

-- ---- a rank for each index

pub all_mapped : (ranks old new : List ℕ) (i : ℕ) → i ≡ length old → Replaced (λ a b. b ≡ get_or ranks a 0) old new i → new ≡ map (λ k. get_or ranks k 0) old
all_mapped ranks old new i end r =
    let f : ℕ → ℕ = λ k. get_or ranks k 0 in
    ext_get_or 0 new (map f old) (r.long ∙ sym (length-map old f)) (λ k low. (
    let within : k < length old = omega (arith, low, r.long) in
    r.done k (omega (arith, within, end)) ∙ sym (get_or-map f old k 0 0 within)))
