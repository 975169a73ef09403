-- Working definitions. No public clause cites them.
-- How much room is asked for.
use Rattle.std.specs.Prelude.{ℕ, ◌-◌, ◌^◌, min}

-- a number as a usize says it: the greatest one where it is more
abbrev pub capped : ℕ → ℕ
capped n = min n (2 ^ 64 - 1)
