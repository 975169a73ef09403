-- The lines of a list of states.
use Rattle.std.specs.Prelude.{ℕ, List, [], ◌∷◌, ◌++◌, Bool, Option, Some, None, codes, decimal, if◌then◌else◌}
use Rattle.av_state.specs.BlockState.{BlockState}
use Rattle.av_state.specs.States.{state_of}
use Rattle.av_state.specs.Words.{state_text}
use Rattle.av_rules.specs.Rows.{BlockTable, has_row, row_of}
use Rattle.av_rules.specs.declared.row.Row.{Row}
use Rattle.av_census.specs.declared.counts.StateCount.{StateCount}

abbrev pub flag_text : Bool → List ℕ
flag_text flag = if flag then codes "true" else codes "false"

-- the values of a row, each by its key in a table
abbrev pub row_text : Row → List ℕ
row_text r =
    codes " open=" ++ (flag_text r.opens ++ (codes " floor=" ++ (flag_text r.floor ++ (codes " opacity=" ++ (decimal r.opacity
    ++ (codes " emission=" ++ (decimal r.emission ++ (codes " wet=" ++ flag_text r.wet))))))))

-- what a table has for a state: the values of its row, or none; and nothing without a table
abbrev pub table_text : Option BlockTable → BlockState → List ℕ
table_text None s = []
table_text (Some t) s = if has_row t s then row_text (row_of t s) else codes " no row"

-- `BLOCKS STATE`, and what the table has for it
abbrev pub count_line : Option BlockTable → StateCount → List ℕ
count_line t c = decimal c.blocks ++ (codes " " ++ (state_text (state_of c.state) ++ (table_text t (state_of c.state) ++ 10 ∷ [])))

-- a line for each count
abbrev pub listing : Option BlockTable → List StateCount → List ℕ
listing t [] = []
listing t (c ∷ cs) = count_line t c ++ listing t cs
