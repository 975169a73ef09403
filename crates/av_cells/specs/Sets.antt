-- What is set in a tick.
use Rattle.std.specs.Prelude.{ℕ}
use Rattle.av_types.specs.declared.position.Pos.{Pos}

-- an edit: in that tick the block is set to that state
pub record Set (S : Type 0) : Type 0 where
  pub tick : ℕ
  pub pos : Pos
  pub what : S
