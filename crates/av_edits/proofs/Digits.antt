-- Numbers of at most ten digits.
use Rattle.std.proofs.Common.{◌≡◌, ℕ, zero, suc, ◌<◌, ◌≤◌, ◌+◌, ◌*◌, ◌-◌, List, [], ◌∷◌, length, get_or, drop, true, sym, ap, ◌∙◌, arith}
use Rattle.std.specs.List.{list_all}
use Rattle.std.proofs.lemmas.Bool.{and_parts}
use Rattle.av_edits.specs.Lines.{is_digit, valued}

-- the greatest number of some digits, and 1
abbrev pub limit : ℕ → ℕ
limit zero = 1
limit (suc n) = 10 * limit n

pub limit_some : (i : ℕ) → 1 ≤ limit i
limit_some zero = omega arith
limit_some (suc i) = let h = limit_some i in omega arith

pub limit_grows : (i j : ℕ) → i ≤ j → limit i ≤ limit j
limit_grows zero j h = limit_some j
limit_grows (suc i) zero h = absurd (omega arith)
limit_grows (suc i) (suc j) h = let g = limit_grows i j (omega arith) in omega arith

pub limit_few : (i : ℕ) → i ≤ 9 → limit i ≤ 1000000000
limit_few i h = limit_grows i 9 h

pub limit_next : (i : ℕ) → limit (i + 1) ≡ 10 * limit i
limit_next i = let e : i + 1 ≡ suc i = omega arith in ap limit e

pub valued_next : (n i : ℕ) (bs : List ℕ) (b : ℕ) → i < length bs → b ≡ get_or bs i b → valued n (drop i bs) ≡ valued (10 * n + (b - 48)) (drop (i + 1) bs)
valued_next n i [] b h e = absurd (omega arith)
valued_next n zero (x ∷ bs) b h e = ap (λ y. valued (10 * n + (y - 48)) bs) (sym e)
valued_next n (suc i) (x ∷ bs) b h e = let step : suc i + 1 ≡ suc (i + 1) = omega arith in rw step (valued_next n i bs b (omega arith) e)

pub digit_at : (i : ℕ) (bs : List ℕ) (b : ℕ) → i < length bs → b ≡ get_or bs i b → list_all is_digit bs ≡ true → is_digit b ≡ true
digit_at i [] b h e all = absurd (omega arith)
digit_at zero (x ∷ bs) b h e all = ap is_digit e ∙ (and_parts (is_digit x) (list_all is_digit bs) all).0
digit_at (suc i) (x ∷ bs) b h e all = digit_at i bs b (omega arith) e (and_parts (is_digit x) (list_all is_digit bs) all).1
