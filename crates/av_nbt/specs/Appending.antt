-- Working definitions. No public clause cites them.
-- What a step of the encoder leaves.
use Rattle.std.specs.Prelude.{◌≡◌, ℕ, List, ◌++◌, Result, Ok, Err}

-- at Ok the bytes were written behind the old ones
abbrev pub Writes : {E : Type 0} → Result (Unit {0}) E → List ℕ → List ℕ → List ℕ → Type 0
Writes (Ok done) bytes old new = new ≡ old ++ bytes
Writes (Err lack) bytes old new = Unit {0}
