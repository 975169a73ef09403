-- The squares beside those of a board, by shifts.
use Rattle.std.proofs.Common.{◌≡◌, ℕ, zero, suc, ◌+◌, ◌-◌, ◌*◌, ◌/◌, ◌%◌, ◌^◌, ◌<◌, ◌≤◌, Bool, true, false, nat_lt, max, refl, sym, ap, ◌∙◌, arith, ◌⊎◌, inl, inr}
use Rattle.std.specs.Int.{bit_at}
use Rattle.std.specs.Int.RustNames.{bit_or}
use Rattle.std.proofs.lemmas.Bool.Decides.{nat_tests}
use Rattle.std.proofs.lemmas.Nat.{pow_pos, div-add-mod'}
use Rattle.std.proofs.Math.Nat.{mod-lt}
use Rattle.std.proofs.lemmas.Nat.Bits.{bit_at-zero, bit_at-lt, bit_at_or, bit_at_above, bit_at_cat_low, bit_at_cat_high}
use Rattle.av_types.specs.declared.water.Direction.{Direction}
use Rattle.av_types.specs.declared.water.Direction.TheVariants.{North, South, West, East}
use Rattle.av_drop.specs.declared.board.Board.{Board}
use Rattle.av_drop.specs.Board.{is_on, toward, HasNeighbour, AreBeside}
use Rattle.av_drop.proofs.Bits.{one_on, on_one}

split : (n k : ℕ) → n ≡ n / 2 ^ k * 2 ^ k + n % 2 ^ k
split n k = sym (div-add-mod' n (2 ^ k))

shifted_down : (n k i : ℕ) → bit_at (n / 2 ^ k) i ≡ bit_at n (i + k)
shifted_down n k i =
    sym
    (ap (λ m. bit_at m (i + k)) (split n k)
    ∙ bit_at_cat_high (n / 2 ^ k) k (n % 2 ^ k) (i + k) (mod-lt n (pow_pos k)) (omega arith)
    ∙ ap (bit_at (n / 2 ^ k)) (let e : i + k - k ≡ i = omega arith in e))

-- the low bits of a number
cut_off : (n w i : ℕ) → i < w → bit_at (n % 2 ^ w) i ≡ bit_at n i
cut_off n w i l = sym (ap (λ m. bit_at m i) (split n w) ∙ bit_at_cat_low (n / 2 ^ w) w (n % 2 ^ w) i l)

shifted_up_low : (n k i : ℕ) → i < k → bit_at (n * 2 ^ k) i ≡ 0
shifted_up_low n k i l = ap (λ m. bit_at m i) (let e : n * 2 ^ k ≡ n * 2 ^ k + 0 = omega arith in e) ∙ bit_at_cat_low n k 0 i l ∙ bit_at-zero i

shifted_up : (n k i : ℕ) → k ≤ i → bit_at (n * 2 ^ k) i ≡ bit_at n (i - k)
shifted_up n k i l = ap (λ m. bit_at m i) (let e : n * 2 ^ k ≡ n * 2 ^ k + 0 = omega arith in e) ∙ bit_at_cat_high n k 0 i (pow_pos k) l

-- where a bit of a number below 2 ^ w is 1
below_width : (n w i : ℕ) → n < 2 ^ w → bit_at n i ≡ 1 → i < w
below_width n w i fits on = by (nat_lt i w) refl where
  less : nat_lt i w ≡ true → i < w
  less e = grind (arith, nat_tests)

  more : nat_lt i w ≡ false → w ≤ i
  more e = grind (arith, nat_tests)

  by : (b : Bool) → nat_lt i w ≡ b → i < w
  by true e = less e
  by false e = absurd (zero_one (bit_at n i) (bit_at_above n w i fits (more e)) on) where
    zero_one : (a : ℕ) → a ≡ 0 → a ≡ 1 → ⊥
    zero_one a x y = omega (arith, x, y)

-- a bit of a number that has those of two
one_of : (a b i : ℕ) → bit_at (bit_or a b) i ≡ 1 → (bit_at a i ≡ 1) ⊎ (bit_at b i ≡ 1)
one_of a b i e = by (bit_at a i) (bit_at b i) (bit_at-lt a i) (sym (bit_at_or a b i) ∙ e) where
  by : (x y : ℕ) → x < 2 → max x y ≡ 1 → (x ≡ 1) ⊎ (y ≡ 1)
  by zero y l h = inr (omega (arith, h))
  by (suc zero) y l h = inl refl
  by (suc (suc x)) y l h = absurd (omega (arith, l))

of_first : (a b i : ℕ) → bit_at a i ≡ 1 → bit_at (bit_or a b) i ≡ 1
of_first a b i e = bit_at_or a b i ∙ by (bit_at a i) (bit_at b i) (bit_at-lt b i) e where
  by : (x y : ℕ) → y < 2 → x ≡ 1 → max x y ≡ 1
  by x y l h = omega (arith, l, h)

of_second : (a b i : ℕ) → bit_at b i ≡ 1 → bit_at (bit_or a b) i ≡ 1
of_second a b i e = bit_at_or a b i ∙ by (bit_at a i) (bit_at b i) (bit_at-lt a i) e where
  by : (x y : ℕ) → x < 2 → y ≡ 1 → max x y ≡ 1
  by x y l h = omega (arith, l, h)

-- the bits of a number that was shifted up
up_from : (n k i : ℕ) → bit_at (n * 2 ^ k % 2 ^ 128) i ≡ 1 → (k ≤ i) × (i < 128) × (bit_at n (i - k) ≡ 1)
up_from n k i e = by (nat_lt i k) refl where
  inside : i < 128
  inside = below_width (n * 2 ^ k % 2 ^ 128) 128 i (mod-lt (n * 2 ^ k) (pow_pos 128)) e

  there : bit_at (n * 2 ^ k) i ≡ 1
  there = sym (cut_off (n * 2 ^ k) 128 i inside) ∙ e

  less : nat_lt i k ≡ true → i < k
  less h = grind (arith, nat_tests)

  more : nat_lt i k ≡ false → k ≤ i
  more h = grind (arith, nat_tests)

  by : (b : Bool) → nat_lt i k ≡ b → (k ≤ i) × (i < 128) × (bit_at n (i - k) ≡ 1)
  by true h = absurd (zero_one (bit_at (n * 2 ^ k) i) (shifted_up_low n k i (less h)) there) where
    zero_one : (a : ℕ) → a ≡ 0 → a ≡ 1 → ⊥
    zero_one a x y = omega (arith, x, y)
  by false h = (more h, inside, sym (shifted_up n k i (more h)) ∙ there)

up_to : (n k i : ℕ) → i + k < 128 → bit_at n i ≡ 1 → bit_at (n * 2 ^ k % 2 ^ 128) (i + k) ≡ 1
up_to n k i l e = cut_off (n * 2 ^ k) 128 (i + k) l ∙ shifted_up n k (i + k) (omega arith) ∙ ap (bit_at n) (let h : i + k - k ≡ i = omega arith in h) ∙ e

module _ (b r : Board) (fits : b.bits < 2 ^ 128) (is : r.bits ≡ bit_or (bit_or (b.bits / 2 ^ 11) (b.bits * 2 ^ 11 % 2 ^ 128)) (bit_or (b.bits / 2 ^ 1) (b.bits * 2 ^ 1 % 2 ^ 128))) where
  abbrev n : ℕ
  n = b.bits

  down_inside : (k i : ℕ) → bit_at (n / 2 ^ k) i ≡ 1 → i < 128
  down_inside k i e = let l = below_width n 128 (i + k) fits (sym (shifted_down n k i) ∙ e) in omega (arith, l)

  -- a neighbour, and that the square is one of the board
  abbrev Found : ℕ → Type 0
  Found i = HasNeighbour b i × (i < 128)

  from_down : (k i : ℕ) (d : Direction) → toward (i + k) d ≡ i → bit_at (n / 2 ^ k) i ≡ 1 → Found i
  from_down k i d t e = (record { square = i + k; side = d; marked = one_on b (i + k) (sym (shifted_down n k i) ∙ e); there = t }, down_inside k i e)

  from_up : (k i : ℕ) (d : Direction) → ((k ≤ i) → toward (i - k) d ≡ i) → bit_at (n * 2 ^ k % 2 ^ 128) i ≡ 1 → Found i
  from_up k i d t e = let h = up_from n k i e in (record { square = i - k; side = d; marked = one_on b (i - k) h.2; there = t h.0 }, h.1)

  found : (i : ℕ) → is_on r i ≡ true → Found i
  found i on = by (one_of (bit_or (n / 2 ^ 11) (n * 2 ^ 11 % 2 ^ 128)) (bit_or (n / 2 ^ 1) (n * 2 ^ 1 % 2 ^ 128)) i (ap (λ m. bit_at m i) (sym is) ∙ on_one r i on)) where
    by_z : (bit_at (n / 2 ^ 11) i ≡ 1) ⊎ (bit_at (n * 2 ^ 11 % 2 ^ 128) i ≡ 1) → Found i
    by_z (inl e) = from_down 11 i North (omega arith) e
    by_z (inr e) = from_up 11 i South (λ l. omega (arith, l)) e

    by_x : (bit_at (n / 2 ^ 1) i ≡ 1) ⊎ (bit_at (n * 2 ^ 1 % 2 ^ 128) i ≡ 1) → Found i
    by_x (inl e) = from_down 1 i West (omega arith) e
    by_x (inr e) = from_up 1 i East (λ l. omega (arith, l)) e

    by : (bit_at (bit_or (n / 2 ^ 11) (n * 2 ^ 11 % 2 ^ 128)) i ≡ 1) ⊎ (bit_at (bit_or (n / 2 ^ 1) (n * 2 ^ 1 % 2 ^ 128)) i ≡ 1) → Found i
    by (inl e) = by_z (one_of (n / 2 ^ 11) (n * 2 ^ 11 % 2 ^ 128) i e)
    by (inr e) = by_x (one_of (n / 2 ^ 1) (n * 2 ^ 1 % 2 ^ 128) i e)

  along_z : (i : ℕ) → bit_at (bit_or (n / 2 ^ 11) (n * 2 ^ 11 % 2 ^ 128)) i ≡ 1 → is_on r i ≡ true
  along_z i e = one_on r i (ap (λ m. bit_at m i) is ∙ of_first _ (bit_or (n / 2 ^ 1) (n * 2 ^ 1 % 2 ^ 128)) i e)

  along_x : (i : ℕ) → bit_at (bit_or (n / 2 ^ 1) (n * 2 ^ 1 % 2 ^ 128)) i ≡ 1 → is_on r i ≡ true
  along_x i e = one_on r i (ap (λ m. bit_at m i) is ∙ of_second (bit_or (n / 2 ^ 11) (n * 2 ^ 11 % 2 ^ 128)) _ i e)

  back : (k i : ℕ) → k ≤ i → bit_at n i ≡ 1 → bit_at (n / 2 ^ k) (i - k) ≡ 1
  back k i l e = shifted_down n k (i - k) ∙ ap (bit_at n) (let h : i - k + k ≡ i = omega (arith, l) in h) ∙ e

  marks : (i : ℕ) (d : Direction) → 11 ≤ i → i < 110 → is_on b i ≡ true → is_on r (toward i d) ≡ true
  marks i North low high on = along_z (i - 11) (of_first (n / 2 ^ 11) (n * 2 ^ 11 % 2 ^ 128) (i - 11) (back 11 i low (on_one b i on)))
  marks i South low high on = along_z (i + 11) (of_second (n / 2 ^ 11) (n * 2 ^ 11 % 2 ^ 128) (i + 11) (up_to n 11 i (omega (arith, high)) (on_one b i on)))
  marks i West low high on = along_x (i - 1) (of_first (n / 2 ^ 1) (n * 2 ^ 1 % 2 ^ 128) (i - 1) (back 1 i (omega (arith, low)) (on_one b i on)))
  marks i East low high on = along_x (i + 1) (of_second (n / 2 ^ 1) (n * 2 ^ 1 % 2 ^ 128) (i + 1) (up_to n 1 i (omega (arith, high)) (on_one b i on)))

  pub are_beside : AreBeside b r
  are_beside = record { from = λ i on. (found i on).0; to = marks; bound = λ i on. (found i on).1 }
