-- One bit of a set of places.
use Rattle.std.proofs.Common.{◌≡◌, ◌≢◌, ℕ, ◌<◌, ◌/◌, ◌%◌, ◌==◌, Bool, if◌then◌else◌, List, length, get_or, set, refl, arith, get_or-set_same, get_or-set_other, eq-eqb, inl, inr, replicate, zero, suc}
use Rattle.std.proofs.lemmas.Bool.{cases_eq, ne_eqb}
use Rattle.std.specs.Int.{bit_at}

-- one word of a list of words of 64 bits written so that one bit of it is as the test says and the others stay
pub bit_written : (words : List ℕ) (place v : ℕ) (there : Bool) → place / 64 < length words
    → bit_at v (place % 64) == 1 ≡ there
    → ((i : ℕ) → i < 64 → i ≢ place % 64 → bit_at v i ≡ bit_at (get_or words (place / 64) 0) i)
    → (i : ℕ) → (bit_at (get_or (set words (place / 64) v) (i / 64) 0) (i % 64) == 1) ≡ (if i == place then there else (bit_at (get_or words (i / 64) 0) (i % 64) == 1))
bit_written words place v there within now others i =
    elim (cases_eq i place) [
      | inl e ↦ rw (e, eq-eqb place place refl, get_or-set_same words (place / 64) v 0 within) now
      | inr e ↦ rw (ne_eqb i place e) (elim (cases_eq (i / 64) (place / 64)) [
        | inl w ↦ (let bit : i % 64 ≢ place % 64 = λ b. e (omega (arith, w, b)) in
            let same : i % 64 < 64 = omega arith in
            rw (w, get_or-set_same words (place / 64) v 0 within, others (i % 64) same bit) refl)
        | inr w ↦ rw (get_or-set_other words (place / 64) (i / 64) v 0 w) refl
      ])
    ]

pub get_or-replicate_zero : (n i : ℕ) → get_or (replicate {A = ℕ} n 0) i 0 ≡ 0
get_or-replicate_zero zero i = refl
get_or-replicate_zero (suc n) zero = refl
get_or-replicate_zero (suc n) (suc i) = get_or-replicate_zero n i
