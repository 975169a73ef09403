-- What contracts see of a line and of a pass.
use Rattle.std.specs.Prelude.{ℕ}
use Rattle.atomic_table.specs.Seated.{TableId}

-- which line it is, and how many items it has room for
pub record LineShown : Type 0 where
  pub line : TableId
  pub room : ℕ

-- of which line it is, and the plan that the line's items fit
pub record PassShown (P : Type 0) : Type 0 where
  pub line : TableId
  pub plan : P

abbrev pub line_shown : TableId → ℕ → LineShown
line_shown line room = record { line = line; room = room }

abbrev pub pass_shown : {P : Type 0} → TableId → P → PassShown P
pass_shown line plan = record { line = line; plan = plan }
