-- The lesser and the greater of two coordinates.
use Rattle.std.proofs.Common.{◌≡◌, ℤ, Bool, true, false, cond, ◌≤ℤ◌, arith, refl}
use Rattle.std.specs.Prelude.{int_lt}
use Rattle.std.proofs.lemmas.Int.{ints}
use Rattle.av_map.specs.Maps.{greater, lesser}

pub lesser_above : (m a b : ℤ) → m ≤ℤ a → m ≤ℤ b → m ≤ℤ lesser a b
lesser_above m a b p q = by_test (int_lt b a)
  where
    by_test : (t : Bool) → m ≤ℤ cond t b a
    by_test true = q
    by_test false = p

pub greater_below : (m a b : ℤ) → a ≤ℤ m → b ≤ℤ m → greater a b ≤ℤ m
greater_below m a b p q = by_test (int_lt a b)
  where
    by_test : (t : Bool) → cond t b a ≤ℤ m
    by_test true = q
    by_test false = p

pub lesser_within : (a b : ℤ) → lesser a b ≤ℤ b
lesser_within a b = by_test (int_lt b a) refl
  where
    by_test : (t : Bool) → int_lt b a ≡ t → cond t b a ≤ℤ b
    by_test true e = omega (arith, ints)
    by_test false e = grind (arith, ints, e)

pub greater_within : (a b : ℤ) → b ≤ℤ greater a b
greater_within a b = by_test (int_lt a b) refl
  where
    by_test : (t : Bool) → int_lt a b ≡ t → b ≤ℤ cond t b a
    by_test true e = omega (arith, ints)
    by_test false e = grind (arith, ints, e)
