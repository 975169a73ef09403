-- The bits of a board.
use Rattle.std.proofs.Common.{◌≡◌, ◌≢◌, ℕ, zero, suc, ◌-◌, ◌^◌, ◌<◌, ◌≤◌, ◌==◌, ◌&&◌, true, false, not, min, refl, sym, ap, ◌∙◌, arith, eq-eqb}
use Rattle.std.specs.Int.{bit_at, w128}
use Rattle.std.specs.Int.Bits.{bit_and}
use Rattle.std.proofs.lemmas.Bool.{eqb-false}
use Rattle.std.proofs.lemmas.Bool.Decides.{nat_tests}
use Rattle.std.proofs.lemmas.Nat.Bits.{bit_at-zero, bit_at-lt, bit_at_and, bit_at_not}
use Rattle.av_drop.specs.declared.board.Board.{Board}
use Rattle.av_drop.specs.Board.{is_on, HasMark}

-- a bit that is 1, and one that is not
pub one_on : (b : Board) (i : ℕ) → bit_at b.bits i ≡ 1 → is_on b i ≡ true
unfolding is_on
one_on b i e = eq-eqb (bit_at b.bits i) 1 e

pub zero_off : (b : Board) (i : ℕ) → bit_at b.bits i ≡ 0 → is_on b i ≡ false
unfolding is_on
zero_off b i e = ap (λ m. m == 1) e

pub on_one : (b : Board) (i : ℕ) → is_on b i ≡ true → bit_at b.bits i ≡ 1
unfolding is_on
on_one b i e = grind (arith, nat_tests)

pub off_zero : (b : Board) (i : ℕ) → is_on b i ≡ false → bit_at b.bits i ≡ 0
unfolding is_on
off_zero b i e = let l = bit_at-lt b.bits i in let h : bit_at b.bits i ≢ 1 = eqb-false (bit_at b.bits i) 1 e in omega (arith, l, h)

-- the same bit is the same mark
pub same_on : (a b : Board) (i j : ℕ) → bit_at a.bits i ≡ bit_at b.bits j → is_on a i ≡ is_on b j
unfolding is_on
same_on a b i j e = ap (λ m. m == 1) e

-- the bit of a number that has both of two
pub and_on : (a b : Board) (i : ℕ) (r : Board) → r.bits ≡ bit_and a.bits b.bits → is_on r i ≡ (is_on a i && is_on b i)
unfolding is_on
and_on a b i r e = ap (λ n. bit_at n i == 1) e ∙ ap (λ m. m == 1) (bit_at_and a.bits b.bits i) ∙ both (bit_at a.bits i) (bit_at b.bits i) (bit_at-lt a.bits i) (bit_at-lt b.bits i) where
  both : (x y : ℕ) → x < 2 → y < 2 → (min x y == 1) ≡ ((x == 1) && (y == 1))
  both x y h l = grind (arith, nat_tests)

zero≢one : (a b : ℕ) → a ≡ 0 → b ≡ 1 → a ≡ b → ⊥
zero≢one a b x y e = omega (arith, x, y, e)

-- a board with a square is not 0
pub square_positive : (b : Board) → HasMark b → 0 < b.bits
square_positive b h = by b.bits refl where
  by : (n : ℕ) → b.bits ≡ n → 0 < b.bits
  by zero e = absurd (zero≢one (bit_at 0 h.square) (bit_at b.bits h.square) (bit_at-zero h.square) (on_one b h.square h.marked) (ap (λ n. bit_at n h.square) (sym e)))
  by (suc n) e = omega (arith, e)

-- a number no greater, with a bit less, is less
pub less_without : (b : Board) (i n : ℕ) → is_on b i ≡ true → n ≤ b.bits → bit_at n i ≡ 0 → n < b.bits
less_without b i n on most off = below n b.bits most (λ e. zero≢one (bit_at n i) (bit_at b.bits i) off (on_one b i on) (ap (λ m. bit_at m i) e)) where
  below : (n m : ℕ) → n ≤ m → (n ≡ m → ⊥) → n < m
  below n m l f = omega (arith, l, f)

-- the bit of a number less those of another
pub apart_on : (a b : Board) (i : ℕ) (r : Board) → b.bits < 2 ^ 128 → i < 128 → r.bits ≡ bit_and a.bits (2 ^ 128 - 1 - b.bits) → is_on r i ≡ (is_on a i && not (is_on b i))
unfolding is_on
apart_on a b i r fits less e =
    ap (λ n. bit_at n i == 1) e
    ∙ ap (λ m. m == 1) (bit_at_and a.bits (2 ^ 128 - 1 - b.bits) i ∙ ap (min (bit_at a.bits i)) (bit_at_not w128 b.bits i fits less))
    ∙ both (bit_at a.bits i) (bit_at b.bits i) (bit_at-lt a.bits i) (bit_at-lt b.bits i)
  where
    both : (x y : ℕ) → x < 2 → y < 2 → (min x (1 - y) == 1) ≡ ((x == 1) && not (y == 1))
    both x y h l = grind (arith, nat_tests)
