-- Where an entry stands in the longs.
use Rattle.std.proofs.Common.{◌≡◌, ℕ, ◌+◌, ◌-◌, ◌*◌, ◌/◌, ◌%◌, ◌^◌, ◌<◌, ◌≤◌, ap, ◌∙◌, arith}
use Rattle.std.specs.Int.{div_ceil}
use Rattle.std.proofs.lemmas.Nat.{div_below, le-div, mod_below, div-add-mod'}
use Rattle.std.proofs.Math.Nat.{mul-le-mul_left, mul-div-le}
use Rattle.av_pack.specs.Packing.{longs_for}
use Rattle.av_pack.specs.Fields.{DividesPlaces}

pub some_in_long : (b : ℕ) → 4 ≤ b → b ≤ 16 → 0 < 64 / b
some_in_long b low high = le-div 1 64 b (omega arith) (omega arith)

pub few_in_long : (b : ℕ) → 4 ≤ b → b ≤ 16 → 64 / b ≤ 16
few_in_long b low high = (let few : 64 / b < 17 = div_below 64 b 17 (omega arith) (omega arith) in omega (arith, few))

pub div_ceil-covers : (n m : ℕ) → 0 < m → n ≤ div_ceil n m * m
div_ceil-covers n m some = grind (arith, div-add-mod' n m, mod_below n m some)

pub slot_in_range : (b i : ℕ) → 4 ≤ b → b ≤ 16 → i < 4096 → i / (64 / b) < longs_for b
unfolding longs_for
slot_in_range b i low high within =
    let some : 0 < 64 / b = some_in_long b low high in
    let covers : 4096 ≤ div_ceil 4096 (64 / b) * (64 / b) = div_ceil-covers 4096 (64 / b) some in
    div_below i (64 / b) (div_ceil 4096 (64 / b)) some (omega arith)

-- the remainder by way of the reciprocal
pub slot_shift : (b i j m r : ℕ) → j ≡ i → m ≡ 64 / b → DividesPlaces m r → i < 4096 → b * (j - j * r / 2 ^ 16 * m) ≡ b * (i % (64 / b))
slot_shift b i j m r ej em d within =
    let quotient : i * r / 2 ^ 16 ≡ i / (64 / b) = d.quotient i within ∙ ap (λ n. i / n) em in
    let whole : i / (64 / b) * (64 / b) + i % (64 / b) ≡ i = div-add-mod' i (64 / b) in
    let rest : i - i / (64 / b) * (64 / b) ≡ i % (64 / b) = omega arith in
    ap (λ n. b * (n - n * r / 2 ^ 16 * m)) ej ∙ ap (λ q. b * (i - q * m)) quotient ∙ ap (λ n. b * (i - i / (64 / b) * n)) em ∙ ap (λ n. b * n) rest

pub slot_within : (b i : ℕ) → 4 ≤ b → b ≤ 16 → b * (i % (64 / b)) + b ≤ 64
slot_within b i low high =
    let lt : i % (64 / b) < 64 / b = mod_below i (64 / b) (some_in_long b low high) in
    let up : b * (i % (64 / b) + 1) ≤ b * (64 / b) = mul-le-mul_left b (omega arith) in
    let whole : b * (64 / b) ≤ 64 = mul-div-le 64 b in
    omega arith
