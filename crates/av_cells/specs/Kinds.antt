-- What the rule knows of the states of a world.
use Rattle.std.specs.Prelude.{ℕ}
use Rattle.av_rules.specs.declared.kinds.Kinds.{Kinds}
use Rattle.av_rules.specs.Kinds.{row_at, wet_at}
use Rattle.av_cells.specs.declared.kind.Kind.{Kind}

-- of each number, from the block table and the state itself
unfoldable pub kinds_of : Kinds → ℕ → Kind
kinds_of kinds n = record { opens = (row_at kinds n).opens; floor = (row_at kinds n).floor; wet = wet_at kinds n }
