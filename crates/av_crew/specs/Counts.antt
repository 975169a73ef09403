-- How many workers a tick may have.
use Rattle.std.specs.Prelude.{ℕ, Bool, nat_le, ◌&&◌}

-- 1 to 8
abbrev pub is_count_of_workers : ℕ → Bool
is_count_of_workers n = nat_le 1 n && nat_le n 8
