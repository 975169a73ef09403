-- Fields of bits within a number: b bits from bit s on.
use Rattle.std.proofs.Common.{◌≡◌, ℕ, ◌+◌, ◌-◌, ◌*◌, ◌/◌, ◌%◌, ◌^◌, ◌<◌, ◌≤◌, bit_and, bit_or, sym, ap, ◌∙◌, arith}
use Rattle.std.specs.Int.Bits.{or_zero_r}
use Rattle.std.proofs.lemmas.Nat.Bits.{and_high}
use Rattle.av_pack.specs.Fields.{with_field}
use Rattle.std.proofs.lemmas.Nat.{pow_pos, pow-add, shr-shr, shr_high, mod_low, mod_below, shr_split, field_of, mod-pow-add, and_mask, mul-add-lt, or_shifted, one_shl, or_block, and_comm, and-not, shl_whole}

pub field_lt : (n s b v : ℕ) → v < 2 ^ b → v * 2 ^ s + n % 2 ^ s < 2 ^ (s + b)
field_lt n s b v fits =
    let below : n % 2 ^ s < 2 ^ s = mod_below n (2 ^ s) (pow_pos s) in
    rw (pow-add 2 s b) (mul-add-lt v (2 ^ s) (n % 2 ^ s) (2 ^ b) fits below)

-- what lies above the field stays
pub with_field-high : (n s b v t : ℕ) → v < 2 ^ b → s + b ≤ t → with_field n s b v / 2 ^ t ≡ n / 2 ^ t
with_field-high n s b v t fits le =
    let e : (s + b) + (t - (s + b)) ≡ t = omega arith in
    let lt : v * 2 ^ s + n % 2 ^ s < 2 ^ (s + b) = field_lt n s b v fits in
    let base : with_field n s b v / 2 ^ (s + b) ≡ n / 2 ^ (s + b) = shr_high (n / 2 ^ (s + b)) (s + b) (v * 2 ^ s + n % 2 ^ s) lt in
    let up : (x : ℕ) → x / 2 ^ t ≡ x / 2 ^ (s + b) / 2 ^ (t - (s + b)) = λ x. ap (λ k. x / 2 ^ k) (sym e) ∙ sym (shr-shr x (s + b) (t - (s + b))) in
    up (with_field n s b v) ∙ ap (λ x. x / 2 ^ (t - (s + b))) base ∙ sym (up n)

pub with_field-grouped : (n s b v : ℕ) → with_field n s b v ≡ (n / 2 ^ (s + b) * 2 ^ b + v) * 2 ^ s + n % 2 ^ s
with_field-grouped n s b v =
    let h = n / 2 ^ (s + b) in
    rw (pow-add 2 s b) (grind arith)

-- what lies below it stays
pub with_field-low : (n s b v : ℕ) → with_field n s b v % 2 ^ s ≡ n % 2 ^ s
with_field-low n s b v =
    ap (λ x. x % 2 ^ s) (with_field-grouped n s b v) ∙ mod_low (n / 2 ^ (s + b) * 2 ^ b + v) s (n % 2 ^ s) (mod_below n (2 ^ s) (pow_pos s))

-- the field itself is v
pub with_field-same : (n s b v : ℕ) → v < 2 ^ b → with_field n s b v / 2 ^ s % 2 ^ b ≡ v
with_field-same n s b v fits =
    ap (λ x. x / 2 ^ s % 2 ^ b) (with_field-grouped n s b v)
    ∙ ap (λ x. x % 2 ^ b) (shr_high (n / 2 ^ (s + b) * 2 ^ b + v) s (n % 2 ^ s) (mod_below n (2 ^ s) (pow_pos s)))
    ∙ mod_low (n / 2 ^ (s + b)) b v fits

pub mod-mod_low : (n k s : ℕ) → k ≤ s → n % 2 ^ s % 2 ^ k ≡ n % 2 ^ k
mod-mod_low n k s le =
    let e : (s - k) + k ≡ s = omega arith in
    ap (λ t. n % 2 ^ t % 2 ^ k) (sym e)
    ∙ ap (λ x. x % 2 ^ k) (mod-pow-add n (s - k) k)
    ∙ mod_low (n / 2 ^ k % 2 ^ (s - k)) k (n % 2 ^ k) (mod_below n (2 ^ k) (pow_pos k))

-- a field below bit s is one of the number's low s bits
pub low_field : (n t b s : ℕ) → t + b ≤ s → n % 2 ^ s / 2 ^ t % 2 ^ b ≡ n / 2 ^ t % 2 ^ b
low_field n t b s le =
    let within : b + t ≤ s = omega arith in
    sym (field_of (n % 2 ^ s) b t)
    ∙ ap (λ x. x / 2 ^ t) (mod-mod_low n (b + t) s within)
    ∙ field_of n b t

-- another field is as it was
pub with_field-below : (n s b v t : ℕ) → t + b ≤ s → with_field n s b v / 2 ^ t % 2 ^ b ≡ n / 2 ^ t % 2 ^ b
with_field-below n s b v t le =
    sym (low_field (with_field n s b v) t b s le) ∙ ap (λ x. x / 2 ^ t % 2 ^ b) (with_field-low n s b v) ∙ low_field n t b s le

pub with_field-above : (n s b v t : ℕ) → v < 2 ^ b → s + b ≤ t → with_field n s b v / 2 ^ t % 2 ^ b ≡ n / 2 ^ t % 2 ^ b
with_field-above n s b v t fits le = ap (λ x. x % 2 ^ b) (with_field-high n s b v t fits le)

pub shl_one : (b : ℕ) → b ≤ 16 → 1 * 2 ^ b % 2 ^ 64 ≡ 2 ^ b
shl_one b high = one_shl b 64 (omega arith)

-- what the code's shift and mask give
pub field_is : (n s b : ℕ) → b ≤ 16 → bit_and (n / 2 ^ s) (1 * 2 ^ b % 2 ^ 64 - 1) ≡ n / 2 ^ s % 2 ^ b
field_is n s b high = ap (λ m. bit_and (n / 2 ^ s) (m - 1)) (shl_one b high) ∙ and_mask (n / 2 ^ s) b

pred-mul : (p q : ℕ) → p * q ≡ (p + 1) * q - q
pred-mul p q = omega arith

mask_is : (s b : ℕ) → (2 ^ b - 1) * 2 ^ s ≡ 2 ^ (b + s) - 2 ^ s
mask_is s b =
    let some : 0 < 2 ^ b = pow_pos b in
    let e : 2 ^ b - 1 + 1 ≡ 2 ^ b = omega arith in
    pred-mul (2 ^ b - 1) (2 ^ s) ∙ ap (λ p. p * 2 ^ s - 2 ^ s) e ∙ ap (λ p. p - 2 ^ s) (sym (pow-add 2 b s))

mask_lt : (b : ℕ) → 2 ^ b - 1 < 2 ^ b
mask_lt b = omega (arith, pow_pos b)

rest_is : (a f n h r l : ℕ) → a + f ≡ n → h + r ≡ n → r ≡ f + l → a ≡ h + l
rest_is a f n h r l p q e = omega arith

-- the number without the field
pub cleared_is : (n s b : ℕ) → n < 2 ^ 64 → s + b ≤ 64 → bit_and n (2 ^ 64 - 1 - (2 ^ b - 1) * 2 ^ s % 2 ^ 64) ≡ n / 2 ^ (s + b) * 2 ^ (s + b) + n % 2 ^ s
cleared_is n s b fits within =
    let room : b + s ≤ 64 = omega arith in
    let whole : (2 ^ b - 1) * 2 ^ s % 2 ^ 64 ≡ (2 ^ b - 1) * 2 ^ s = shl_whole (2 ^ b - 1) b s 64 (mask_lt b) room in
    let mask : (2 ^ b - 1) * 2 ^ s % 2 ^ 64 ≡ 2 ^ (b + s) - 2 ^ s = whole ∙ mask_is s b in
    let below : (2 ^ b - 1) * 2 ^ s % 2 ^ 64 < 2 ^ 64 = mod_below ((2 ^ b - 1) * 2 ^ s) (2 ^ 64) (pow_pos 64) in
    let inside : bit_and ((2 ^ b - 1) * 2 ^ s % 2 ^ 64) n ≡ (n / 2 ^ s % 2 ^ b) * 2 ^ s = and_comm ((2 ^ b - 1) * 2 ^ s % 2 ^ 64) n ∙ ap (λ x. bit_and n x) mask ∙ and_high n b s in
    let outside : bit_and n (2 ^ 64 - 1 - (2 ^ b - 1) * 2 ^ s % 2 ^ 64) + (n / 2 ^ s % 2 ^ b) * 2 ^ s ≡ n =
    ap (λ x. x + (n / 2 ^ s % 2 ^ b) * 2 ^ s) (and_comm n (2 ^ 64 - 1 - (2 ^ b - 1) * 2 ^ s % 2 ^ 64))
    ∙ ap (λ x. bit_and (2 ^ 64 - 1 - (2 ^ b - 1) * 2 ^ s % 2 ^ 64) n + x) (sym inside)
    ∙ and-not 64 ((2 ^ b - 1) * 2 ^ s % 2 ^ 64) n below fits in
    let turned : b + s ≡ s + b = omega arith in
    let low : n % 2 ^ (s + b) ≡ (n / 2 ^ s % 2 ^ b) * 2 ^ s + n % 2 ^ s = ap (λ t. n % 2 ^ t) (sym turned) ∙ mod-pow-add n b s in
    rest_is _ ((n / 2 ^ s % 2 ^ b) * 2 ^ s) n (n / 2 ^ (s + b) * 2 ^ (s + b)) (n % 2 ^ (s + b)) (n % 2 ^ s) outside (shr_split n (s + b)) low

put_is : (h l v s b : ℕ) → l < 2 ^ s → v < 2 ^ b → bit_or (h * 2 ^ (s + b) + l) (v * 2 ^ s) ≡ h * 2 ^ (s + b) + (v * 2 ^ s + l)
put_is h l v s b low small =
    let left : h * 2 ^ (s + b) + l ≡ (h * 2 ^ b) * 2 ^ s + l = rw (pow-add 2 s b) (grind arith) in
    let right : v * 2 ^ s ≡ v * 2 ^ s + 0 = omega arith in
    let joined : bit_or (h * 2 ^ b) v ≡ h * 2 ^ b + v = or_shifted h b v small in
    let both : (h * 2 ^ b + v) * 2 ^ s + l ≡ h * 2 ^ (s + b) + (v * 2 ^ s + l) = rw (pow-add 2 s b) (grind arith) in
    ap (λ x. bit_or x (v * 2 ^ s)) left
    ∙ ap (λ x. bit_or ((h * 2 ^ b) * 2 ^ s + l) x) right
    ∙ or_block s (h * 2 ^ b) v l 0 low (pow_pos s)
    ∙ ap (λ x. x * 2 ^ s + bit_or l 0) joined
    ∙ ap (λ x. (h * 2 ^ b + v) * 2 ^ s + x) (or_zero_r l)
    ∙ both

-- what the code's masks and shifts write
pub with_field_is : (n s b v : ℕ) → n < 2 ^ 64 → b ≤ 16 → s + b ≤ 64 → v < 2 ^ b → bit_or (bit_and n (2 ^ 64 - 1 - (1 * 2 ^ b % 2 ^ 64 - 1) * 2 ^ s % 2 ^ 64)) (v * 2 ^ s % 2 ^ 64) ≡ with_field n s b v
with_field_is n s b v fits high within small =
    let room : b + s ≤ 64 = omega arith in
    let low : n % 2 ^ s < 2 ^ s = mod_below n (2 ^ s) (pow_pos s) in
    ap (λ m. bit_or (bit_and n (2 ^ 64 - 1 - (m - 1) * 2 ^ s % 2 ^ 64)) (v * 2 ^ s % 2 ^ 64)) (shl_one b high)
    ∙ ap (λ x. bit_or x (v * 2 ^ s % 2 ^ 64)) (cleared_is n s b fits within)
    ∙ ap (λ x. bit_or (n / 2 ^ (s + b) * 2 ^ (s + b) + n % 2 ^ s) x) (shl_whole v b s 64 small room)
    ∙ put_is (n / 2 ^ (s + b)) (n % 2 ^ s) v s b low small
