-- Division with rounding down.
use Rattle.std.specs.Prelude.{ℕ, ◌-◌, ◌/◌, ◌%◌, ℤ, pos, negsuc}

abbrev pub divided : ℤ → ℕ → ℤ
divided (pos n) d = pos (n / d)
divided (negsuc n) d = negsuc (n / d)

-- from 0 to d - 1
abbrev pub remainder : ℤ → ℕ → ℕ
remainder (pos n) d = n % d
remainder (negsuc n) d = d - 1 - n % d
