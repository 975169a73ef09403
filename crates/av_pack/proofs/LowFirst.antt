-- Numbers of b bits side by side in one number.
use Rattle.std.proofs.Common.{◌≡◌, ℕ, zero, suc, ◌+◌, ◌*◌, ◌/◌, ◌%◌, ◌^◌, ◌<◌, ◌≤◌, List, [], ◌∷◌, ◌++◌, length, get_or, take, bit_or, sym, ap, ◌∙◌, subst, arith}
use Rattle.std.specs.Prelude.{All}
use Rattle.std.proofs.lemmas.Nat.{pow_pos, pow-add, shr-shr, shr_high, mod_low, mul-add-lt, or_shifted, or_comm, shl_whole}
use Rattle.std.proofs.lemmas.List.{take_more, length-take-le}
use Rattle.std.proofs.lemmas.List.Elements.{All-head, All-tail, All-take, All-get_or}
use Rattle.std.proofs.Math.Nat.{mul-le-mul_left, zero-div, zero-mod, div-one}
use Rattle.av_pack.specs.Packing.{low_first}
use Rattle.av_pack.specs.Fields.{entry_of}

mul-suc : (b n : ℕ) → b * suc n ≡ b + b * n
mul-suc b n = omega arith

pub low_first-push : (b : ℕ) (xs : List ℕ) (y : ℕ) → low_first b (xs ++ y ∷ []) ≡ low_first b xs + 2 ^ (b * length xs) * y
low_first-push b [] y =
    let none : b * 0 ≡ 0 = omega arith in
    let one : 2 ^ (b * 0) ≡ 1 = ap (λ e. 2 ^ e) none in
    subst (λ p. y + 2 ^ b * 0 ≡ 0 + p * y) (sym one) (omega arith)
low_first-push b (x ∷ xs) y =
    ap (λ r. x + 2 ^ b * r) (low_first-push b xs y)
    ∙ grow x (2 ^ b) (low_first b xs) (2 ^ (b * length xs)) y
    ∙ ap (λ p. x + 2 ^ b * low_first b xs + p * y) (sym (ap (λ e. 2 ^ e) (mul-suc b (length xs)) ∙ pow-add 2 b (b * length xs)))
  where
    grow : (x p l q y : ℕ) → x + p * (l + q * y) ≡ x + p * l + (p * q) * y
    grow x p l q y = grind arith

pub low_first-lt : (b : ℕ) (xs : List ℕ) → All (λ n. n < 2 ^ b) xs → low_first b xs < 2 ^ (b * length xs)
low_first-lt b [] fit = pow_pos (b * 0)
low_first-lt b (x ∷ xs) fit =
    let rest : low_first b xs < 2 ^ (b * length xs) = low_first-lt b xs (All-tail (λ n. n < 2 ^ b) x xs fit) in
    let head : x < 2 ^ b = All-head (λ n. n < 2 ^ b) x xs fit in
    let joined : low_first b xs * 2 ^ b + x < 2 ^ b * 2 ^ (b * length xs) = mul-add-lt (low_first b xs) (2 ^ b) x (2 ^ (b * length xs)) rest head in
    let turned : x + 2 ^ b * low_first b xs ≡ low_first b xs * 2 ^ b + x = omega arith in
    let power : 2 ^ b * 2 ^ (b * length xs) ≡ 2 ^ (b * suc (length xs)) = sym (ap (λ e. 2 ^ e) (mul-suc b (length xs)) ∙ pow-add 2 b (b * length xs)) in
    subst (λ k. x + 2 ^ b * low_first b xs < k) power (subst (λ k. k < 2 ^ b * 2 ^ (b * length xs)) (sym turned) joined)

pub entry_of-zero : (b k : ℕ) → entry_of b 0 k ≡ 0
unfolding entry_of
entry_of-zero b k = ap (λ x. x % 2 ^ b) (zero-div (2 ^ (b * k))) ∙ zero-mod (2 ^ b)

entry_of-first : (b x l : ℕ) → x < 2 ^ b → entry_of b (x + 2 ^ b * l) 0 ≡ x
unfolding entry_of
entry_of-first b x l fits =
    let none : b * 0 ≡ 0 = omega arith in
    let turned : x + 2 ^ b * l ≡ l * 2 ^ b + x = omega arith in
    let whole : (x + 2 ^ b * l) / 2 ^ (b * 0) ≡ x + 2 ^ b * l = ap (λ e. (x + 2 ^ b * l) / 2 ^ e) none ∙ div-one (x + 2 ^ b * l) in
    ap (λ n. n % 2 ^ b) (whole ∙ turned) ∙ mod_low l b x fits

entry_of-next : (b x l k : ℕ) → x < 2 ^ b → entry_of b (x + 2 ^ b * l) (suc k) ≡ entry_of b l k
unfolding entry_of
entry_of-next b x l k fits =
    let turned : x + 2 ^ b * l ≡ l * 2 ^ b + x = omega arith in
    let high : (x + 2 ^ b * l) / 2 ^ b ≡ l = ap (λ n. n / 2 ^ b) turned ∙ shr_high l b x fits in
    ap (λ e. (x + 2 ^ b * l) / 2 ^ e % 2 ^ b) (mul-suc b k)
    ∙ ap (λ n. n % 2 ^ b) (sym (shr-shr (x + 2 ^ b * l) b (b * k)) ∙ ap (λ n. n / 2 ^ (b * k)) high)

-- entry k of them is the k-th one, and 0 past the last
pub entry_of-low_first : (b : ℕ) (xs : List ℕ) (k : ℕ) → All (λ n. n < 2 ^ b) xs → entry_of b (low_first b xs) k ≡ get_or xs k 0
entry_of-low_first b [] k fit = entry_of-zero b k
entry_of-low_first b (x ∷ xs) zero fit = entry_of-first b x (low_first b xs) (All-head (λ n. n < 2 ^ b) x xs fit)
entry_of-low_first b (x ∷ xs) (suc k) fit =
    entry_of-next b x (low_first b xs) k (All-head (λ n. n < 2 ^ b) x xs fit)
    ∙ entry_of-low_first b xs k (All-tail (λ n. n < 2 ^ b) x xs fit)

-- one more value
pub low_first-more : (b i v long : ℕ) (values : List ℕ) → b * length values ≤ 64 → All (λ n. n < 2 ^ b) values → i < length values → v ≡ get_or values i 0
    → long ≡ low_first b (take i values) → bit_or long (v * 2 ^ (b * i) % 2 ^ 64) ≡ low_first b (take (i + 1) values)
low_first-more b i v long values room fit within ev el =
    let small : v < 2 ^ b = subst (λ n. n < 2 ^ b) (sym ev) (All-get_or (λ n. n < 2 ^ b) values i 0 within fit) in
    let next : i + 1 ≤ length values = omega arith in
    let up : b * (i + 1) ≤ b * length values = mul-le-mul_left b next in
    let inside : b + b * i ≤ 64 = omega arith in
    let count : length (take i values) ≡ i = length-take-le i values (omega arith) in
    let bound : low_first b (take i values) < 2 ^ (b * length (take i values)) = low_first-lt b (take i values) (All-take (λ n. n < 2 ^ b) i values fit) in
    let below : long < 2 ^ (b * i) = subst (λ n. n < 2 ^ (b * i)) (sym el) (subst (λ n. low_first b (take i values) < 2 ^ (b * n)) count bound) in
    let more : take (i + 1) values ≡ take i values ++ v ∷ [] = take_more values i 0 within ∙ ap (λ x. take i values ++ x ∷ []) (sym ev) in
    let turned : v * 2 ^ (b * i) + long ≡ long + 2 ^ (b * i) * v = omega arith in
    ap (λ x. bit_or long x) (shl_whole v b (b * i) 64 small inside)
    ∙ or_comm long (v * 2 ^ (b * i))
    ∙ or_shifted v (b * i) long below
    ∙ turned
    ∙ ap (λ x. x + 2 ^ (b * i) * v) el
    ∙ ap (λ n. low_first b (take i values) + 2 ^ (b * n) * v) (sym count)
    ∙ sym (low_first-push b (take i values) v)
    ∙ sym (ap (low_first b) more)
