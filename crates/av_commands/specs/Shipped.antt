-- The block table of a run that names none.
use Rattle.std.specs.Prelude.{ℕ, List}
use Rattle.av_commands.specs.declared.shipped.TheConstants.{SHIPPED_TABLE}

-- the bytes of `tables/blocks.toml`
abbrev pub shipped_table : List ℕ
shipped_table = SHIPPED_TABLE.now
