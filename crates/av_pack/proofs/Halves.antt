-- Every other entry of a long, compared with a number by one addition.
use Rattle.std.proofs.Common.{◌≡◌, ℕ, zero, suc, ◌+◌, ◌-◌, ◌*◌, ◌/◌, ◌%◌, ◌^◌, ◌<◌, ◌≤◌, bit_and, inl, inr, refl, sym, ap, ◌∙◌, subst, arith}
use Rattle.std.specs.Int.{bit_at}
use Rattle.std.proofs.lemmas.Bool.{cases_lt}
use Rattle.std.proofs.lemmas.Nat.{pow_pos, pow-add, shr-shr, shr_split, mod_below, and_mask, and_block, pow_below, div_below, and_le_r, div-add-mod'}
use Rattle.std.proofs.lemmas.Nat.Bits.{and_pow}
use Rattle.std.proofs.Math.Nat.{div-one, mul-le-mul_right, mod-eq_of_lt}
use Rattle.av_pack.specs.Fields.{ones, entry_of, IsHalfBelow}
use Rattle.av_pack.proofs.Fields.{mod-mod_low, shl_one}

-- a sum of two numbers that is none below bit b has that bit
low_enough : (b t : ℕ) → t < 2 ^ (b + 1) → bit_and t (2 ^ b) ≡ 0 → t < 2 ^ b
low_enough b t room h =
    let some : 0 < 2 ^ b = pow_pos b in
    let twice : 2 ^ (b + 1) ≡ 2 ^ b * 2 ^ 1 = pow-add 2 b 1 in
    let few : t / 2 ^ b < 2 = div_below t (2 ^ b) 2 some (omega (arith, room, twice)) in
    let none : bit_at t b * 2 ^ b ≡ 0 = sym (and_pow t b) ∙ h in
    elim (cases_lt 0 (t / 2 ^ b)) [
      | inl one ↦ absurd (
          let is : t / 2 ^ b ≡ 1 = omega (arith, one, few) in
          let set : bit_at t b ≡ 1 = ap (λ n. n % 2) is in
          omega (arith, some, sym (ap (λ n. n * 2 ^ b) set) ∙ none))
      | inr zero_is ↦ (
          let split : t / 2 ^ b * 2 ^ b + t % 2 ^ b ≡ t = shr_split t b in
          let low : t % 2 ^ b < 2 ^ b = mod_below t (2 ^ b) some in
          let none_is : t / 2 ^ b ≡ 0 = omega (arith, zero_is) in
          omega (arith, low, sym (ap (λ n. n * 2 ^ b + t % 2 ^ b) none_is) ∙ split))
    ]

-- the code's sum over so many of every other entry, from the first on
abbrev sum_of : ℕ → ℕ → ℕ → ℕ → ℕ
sum_of b k j n = bit_and n ((2 ^ b - 1) * ones (2 * b) j) + k * ones (2 * b) j

-- the same over any ones
abbrev sum_of_ones : ℕ → ℕ → ℕ → ℕ → ℕ
sum_of_ones b k m n = bit_and n ((2 ^ b - 1) * m) + k * m

sum-next : (b k j n : ℕ) → 0 < b → sum_of b k (suc j) n ≡ sum_of b k j (n / 2 ^ (2 * b)) * 2 ^ (2 * b) + (n % 2 ^ b + k)
sum-next b k j n some =
    let room : 2 ^ b - 1 < 2 ^ (2 * b) = omega (arith, pow_pos b, pow_below b (2 * b) (omega (arith, some))) in
    let low : n % 2 ^ (2 * b) < 2 ^ (2 * b) = mod_below n (2 ^ (2 * b)) (pow_pos (2 * b)) in
    let mask : (2 ^ b - 1) * ones (2 * b) (suc j) ≡ ((2 ^ b - 1) * ones (2 * b) j) * 2 ^ (2 * b) + (2 ^ b - 1) = grind arith in
    let first : bit_and (n % 2 ^ (2 * b)) (2 ^ b - 1) ≡ n % 2 ^ b = and_mask (n % 2 ^ (2 * b)) b ∙ mod-mod_low n b (2 * b) (omega arith) in
    let masked : bit_and n ((2 ^ b - 1) * ones (2 * b) (suc j)) ≡ bit_and (n / 2 ^ (2 * b)) ((2 ^ b - 1) * ones (2 * b) j) * 2 ^ (2 * b) + n % 2 ^ b =
    ap (λ m. bit_and n m) mask
    ∙ ap (λ m. bit_and m (((2 ^ b - 1) * ones (2 * b) j) * 2 ^ (2 * b) + (2 ^ b - 1))) (sym (shr_split n (2 * b)))
    ∙ and_block (2 * b) (n / 2 ^ (2 * b)) ((2 ^ b - 1) * ones (2 * b) j) (n % 2 ^ (2 * b)) (2 ^ b - 1) low room
    ∙ ap (λ x. bit_and (n / 2 ^ (2 * b)) ((2 ^ b - 1) * ones (2 * b) j) * 2 ^ (2 * b) + x) first in
    let turned : bit_and (n / 2 ^ (2 * b)) ((2 ^ b - 1) * ones (2 * b) j) * 2 ^ (2 * b) + n % 2 ^ b + k * ones (2 * b) (suc j) ≡ sum_of b k j (n / 2 ^ (2 * b)) * 2 ^ (2 * b) + (n % 2 ^ b + k) = grind arith in
    ap (λ x. x + k * ones (2 * b) (suc j)) masked ∙ turned

both_zero : (x y p : ℕ) → 0 < p → x * p + y ≡ 0 → (x ≡ 0) × (y ≡ 0)
both_zero zero y p some h = (refl, omega (arith, h))
both_zero (suc x) y p some h = absurd (omega (arith, h, some))

first_fits : (b k n : ℕ) → k ≤ 2 ^ b → n % 2 ^ b + k < 2 ^ (b + 1)
first_fits b k n small = omega (arith, mod_below n (2 ^ b) (pow_pos b), small, pow-add 2 b 1)

two_wide : (b : ℕ) → 0 < b → 2 ^ (b + 1) ≤ 2 ^ (2 * b)
two_wide b some = elim (cases_lt (b + 1) (2 * b)) [
  | inl lt ↦ (let p = pow_below (b + 1) (2 * b) lt in omega (arith, p))
  | inr ge ↦ (let e : b + 1 ≡ 2 * b = omega (arith, ge, some) in omega (arith, ap (λ w. 2 ^ w) e))
]

carried-next : (b k j n : ℕ) → 0 < b → k ≤ 2 ^ b → bit_and (sum_of b k (suc j) n) (ones (2 * b) (suc j) * 2 ^ b) ≡ bit_and (sum_of b k j (n / 2 ^ (2 * b))) (ones (2 * b) j * 2 ^ b) * 2 ^ (2 * b) + bit_and (n % 2 ^ b + k) (2 ^ b)
carried-next b k j n some small =
    let mask : ones (2 * b) (suc j) * 2 ^ b ≡ (ones (2 * b) j * 2 ^ b) * 2 ^ (2 * b) + 2 ^ b = grind arith in
    ap (λ s. bit_and s (ones (2 * b) (suc j) * 2 ^ b)) (sum-next b k j n some)
    ∙ ap (λ m. bit_and (sum_of b k j (n / 2 ^ (2 * b)) * 2 ^ (2 * b) + (n % 2 ^ b + k)) m) mask
    ∙ and_block (2 * b) (sum_of b k j (n / 2 ^ (2 * b))) (ones (2 * b) j * 2 ^ b) (n % 2 ^ b + k) (2 ^ b) (omega (arith, first_fits b k n small, two_wide b some)) (pow_below b (2 * b) (omega (arith, some)))

-- the first is low and so are the others
all_low : (b k j n i : ℕ) → n % 2 ^ b + k < 2 ^ b → ((m : ℕ) → m < j → n / 2 ^ (2 * b) / 2 ^ (2 * b * m) % 2 ^ b + k < 2 ^ b) → i < suc j → n / 2 ^ (2 * b * i) % 2 ^ b + k < 2 ^ b
all_low b k j n zero first others within =
    let none : 2 * b * 0 ≡ 0 = omega arith in
    let here : n / 2 ^ (2 * b * 0) ≡ n = ap (λ e. n / 2 ^ e) none ∙ div-one n in
    subst (λ m. m % 2 ^ b + k < 2 ^ b) (sym here) first
all_low b k j n (suc i) first others within =
    let step : 2 * b * suc i ≡ 2 * b + 2 * b * i = grind arith in
    let here : n / 2 ^ (2 * b * suc i) ≡ n / 2 ^ (2 * b) / 2 ^ (2 * b * i) = ap (λ e. n / 2 ^ e) step ∙ sym (shr-shr n (2 * b) (2 * b * i)) in
    subst (λ m. m % 2 ^ b + k < 2 ^ b) (sym here) (others i (omega (arith, within)))

-- where no sum carries into bit b, all are low
no_carry : (b k j n : ℕ) → 0 < b → k ≤ 2 ^ b → bit_and (sum_of b k j n) (ones (2 * b) j * 2 ^ b) ≡ 0
    → (i : ℕ) → i < j → n / 2 ^ (2 * b * i) % 2 ^ b + k < 2 ^ b
no_carry b k zero n some small h i within = absurd (omega (arith, within))
no_carry b k (suc j) n some small h i within =
    let zeros = both_zero _ _ (2 ^ (2 * b)) (pow_pos (2 * b)) (sym (carried-next b k j n some small) ∙ h) in
    all_low b k j n i (low_enough b (n % 2 ^ b + k) (first_fits b k n small) zeros.1) (no_carry b k j (n / 2 ^ (2 * b)) some small zeros.0) within

half_low : (b k count n : ℕ) → 4 ≤ b → k ≡ 2 ^ b - count → bit_and (sum_of b k ((64 / b + 1) / 2) n) (ones (2 * b) ((64 / b + 1) / 2) * 2 ^ b) ≡ 0 → IsHalfBelow b count n
half_low b k count n low ek h = record {
  each = λ i within.
      let sum : n / 2 ^ (2 * b * i) % 2 ^ b + k < 2 ^ b = no_carry b k ((64 / b + 1) / 2) n (omega (arith, low)) (omega (arith, ek)) h i within in
      omega (arith, sum, ek);
}

-- ---- what the code adds and masks

-- the sum fits a long
pub sum_fits : (b k count n m : ℕ) → b ≤ 16 → (2 ^ (b + 1) - 1) * m < 2 ^ 64 → k ≡ 1 * 2 ^ b % 2 ^ 64 - count → bit_and n ((1 * 2 ^ b % 2 ^ 64 - 1) * m) + k * m < 2 ^ 64
sum_fits b k count n m high room ek =
    let one : 1 * 2 ^ b % 2 ^ 64 ≡ 2 ^ b = shl_one b high in
    let small : k ≤ 2 ^ b = omega (arith, ek, one) in
    let low : bit_and n ((1 * 2 ^ b % 2 ^ 64 - 1) * m) ≤ (2 ^ b - 1) * m = subst (λ x. bit_and n ((1 * 2 ^ b % 2 ^ 64 - 1) * m) ≤ (x - 1) * m) one (and_le_r n ((1 * 2 ^ b % 2 ^ 64 - 1) * m)) in
    let up : k * m ≤ 2 ^ b * m = mul-le-mul_right m small in
    let some : 0 < 2 ^ b = pow_pos b in
    let twice : 2 ^ (b + 1) - 1 ≡ (2 ^ b - 1) + 2 ^ b = omega (arith, pow-add 2 b 1, some) in
    let all : (2 ^ (b + 1) - 1) * m ≡ (2 ^ b - 1) * m + 2 ^ b * m = ap (λ x. x * m) twice ∙ grind arith in
    omega (arith, low, up, all, room)

pub half_told : (b k count n m : ℕ) → 4 ≤ b → b ≤ 16 → m ≡ ones (2 * b) ((64 / b + 1) / 2) → (2 ^ (b + 1) - 1) * m < 2 ^ 64 → k ≡ 1 * 2 ^ b % 2 ^ 64 - count
    → bit_and (bit_and n ((1 * 2 ^ b % 2 ^ 64 - 1) * m) + k * m) (m * 2 ^ b % 2 ^ 64) ≡ 0 → IsHalfBelow b count n
half_told b k count n m low high em room ek h =
    let one : 1 * 2 ^ b % 2 ^ 64 ≡ 2 ^ b = shl_one b high in
    let some : 0 < 2 ^ b = pow_pos b in
    let more : 2 ^ b ≤ 2 ^ (b + 1) - 1 = omega (arith, pow-add 2 b 1, some) in
    let up : 2 ^ b * m ≤ (2 ^ (b + 1) - 1) * m = mul-le-mul_right m more in
    let whole : m * 2 ^ b % 2 ^ 64 ≡ m * 2 ^ b = mod-eq_of_lt (let e : m * 2 ^ b ≡ 2 ^ b * m = grind arith in omega (arith, e, up, room)) in
    half_low b k count n low (ek ∙ ap (λ x. x - count) one)
    (sym (ap (λ x. bit_and (bit_and n ((x - 1) * m) + k * m) (m * 2 ^ b % 2 ^ 64)) one ∙ ap (λ x. bit_and (bit_and n ((2 ^ b - 1) * m) + k * m) x) whole
    ∙ ap (λ x. bit_and (sum_of_ones b k x n) (x * 2 ^ b)) em) ∙ h)

turned : (b m : ℕ) → b + 2 * b * m ≡ b * (2 * m + 1)
turned b m = grind arith

even_turned : (b m : ℕ) → 2 * b * m ≡ b * (2 * m)
even_turned b m = grind arith

-- the entries from the first on and those from the second on are all
pub both_halves : (b count n : ℕ) → IsHalfBelow b count n → IsHalfBelow b count (n / 2 ^ b) → (i : ℕ) → i < 64 / b → entry_of b n i < count
unfolding entry_of
both_halves b count n even odd i within =
    let half = div-add-mod' i 2 in
    elim (cases_lt 0 (i % 2)) [
      | inl one ↦ (
          let is : i ≡ 2 * (i / 2) + 1 = omega (arith, one, half) in
          let place : b + 2 * b * (i / 2) ≡ b * i = turned b (i / 2) ∙ ap (λ m. b * m) (sym is) in
          let here : n / 2 ^ b / 2 ^ (2 * b * (i / 2)) ≡ n / 2 ^ (b * i) = shr-shr n b (2 * b * (i / 2)) ∙ ap (λ e. n / 2 ^ e) place in
          subst (λ m. m % 2 ^ b < count) here (odd.each (i / 2) (omega (arith, within, is))))
      | inr none ↦ (
          let is : i ≡ 2 * (i / 2) = omega (arith, none, half) in
          let place : 2 * b * (i / 2) ≡ b * i = even_turned b (i / 2) ∙ ap (λ m. b * m) (sym is) in
          let here : n / 2 ^ (2 * b * (i / 2)) ≡ n / 2 ^ (b * i) = ap (λ e. n / 2 ^ e) place in
          subst (λ m. m % 2 ^ b < count) here (even.each (i / 2) (omega (arith, within, is))))
    ]
