-- A value that may be missing.
use Rattle.std.specs.Prelude.{Option, option_and_then}

-- what f gives of the value, none where there is none
infixl 10 ◌>>=◌
abbrev pub ◌>>=◌ : {A B : Type 0} → Option A → (A → Option B) → Option B
o >>= f = option_and_then f o
