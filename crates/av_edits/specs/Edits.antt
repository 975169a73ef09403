-- The lines of an edit file, and their first fault.
use Rattle.std.specs.Prelude.{◌≡◌, slice_get, option_map, ℕ, suc, ◌==◌, nat_lt, nat_le, length, List, [], ◌∷◌, ◌++◌, Option, Some, None, Bool, ◌&&◌, ◌||◌, if◌then◌else◌, map, get_or}
use Rattle.std.specs.List.{flat_map}
use Rattle.std.specs.Str.Lines.{strip_carriage_return}
use Rattle.av_types.specs.declared.position.Pos.{Pos}
use Rattle.av_types.specs.declared.fault.Fault.{Fault}
use Rattle.av_types.specs.declared.fault.Fault.TheVariants.{BadEdit, EditTick, EditOutside, TooManyStates}
use Rattle.av_state.specs.BlockState.{BlockState}
use Rattle.av_state.specs.StateList.{with_state, most_states}
use Rattle.av_cells.specs.Sets.{Set}
use Rattle.av_edits.specs.Lines.{split_on, line_edit}
use Rattle.av_edits.specs.declared.edit.Edit.{Edit}

-- what follows the last line feed is a line, an empty one where nothing does; one carriage return at a line's end is dropped
abbrev pub lines_of : List ℕ → List (List ℕ)
lines_of text = map strip_carriage_return (split_on 10 text)

-- an empty line, and one that begins with #
abbrev pub is_skipped : List ℕ → Bool
is_skipped s = length s == 0 || get_or s 0 0 == 35

-- the fault of a line, by its number
abbrev pub edit_fault : (Pos → Bool) → ℕ → List BlockState → ℕ → Set BlockState → Option Fault
edit_fault loaded ticks table line e =
    if nat_le 1 e.tick && nat_le e.tick ticks
    then (if loaded e.pos then (if nat_lt most_states (length (with_state table e.what)) then Some TooManyStates else None) else Some (EditOutside line))
    else Some (EditTick line)

abbrev pub line_fault : (Pos → Bool) → ℕ → List BlockState → ℕ → Option (Set BlockState) → Option Fault
line_fault loaded ticks table line None = Some (BadEdit line)
line_fault loaded ticks table line (Some e) = edit_fault loaded ticks table line e

abbrev pub table_after : List BlockState → Option (Set BlockState) → List BlockState
table_after table None = table
table_after table (Some e) = with_state table e.what

abbrev pub or_later : Option Fault → Option Fault → Option Fault
or_later None later = later
or_later (Some e) later = Some e

-- a skipped line has no fault, no edit and no state
abbrev pub fault_of : (Pos → Bool) → ℕ → List BlockState → ℕ → List ℕ → Option Fault
fault_of loaded ticks table line text = if is_skipped text then None else line_fault loaded ticks table line (line_edit text)

abbrev pub table_of : List BlockState → List ℕ → List BlockState
table_of table text = if is_skipped text then table else table_after table (line_edit text)

abbrev pub if_edit : Option (Set BlockState) → List (Set BlockState)
if_edit None = []
if_edit (Some e) = e ∷ []

abbrev pub edits_in : List ℕ → List (Set BlockState)
edits_in text = if is_skipped text then [] else if_edit (line_edit text)

-- the first fault of some lines, the first of which has this number
abbrev pub first_in_lines : (Pos → Bool) → ℕ → List BlockState → ℕ → List (List ℕ) → Option Fault
first_in_lines loaded ticks table line [] = None
first_in_lines loaded ticks table line (text ∷ texts) = or_later (fault_of loaded ticks table line text) (first_in_lines loaded ticks (table_of table text) (suc line) texts)

-- lines are numbered from 1
abbrev pub first_in_edits : (Pos → Bool) → ℕ → List BlockState → List ℕ → Option Fault
first_in_edits loaded ticks table text = first_in_lines loaded ticks table 1 (lines_of text)

-- the states that are numbered after some lines
abbrev pub table_after_lines : List BlockState → List (List ℕ) → List BlockState
table_after_lines table [] = table
table_after_lines table (text ∷ texts) = table_after_lines (table_of table text) texts

-- where there is no fault, the edits in order
abbrev pub edits_of : List ℕ → List (Set BlockState)
edits_of text = flat_map edits_in (lines_of text)

-- for each edit of some lines, the number of the line that states it, where the first of the lines has this number
abbrev pub edit_lines : ℕ → List (List ℕ) → List ℕ
edit_lines line [] = []
edit_lines line (text ∷ texts) = map (λ e. line) (edits_in text) ++ edit_lines (suc line) texts

-- for each edit in order, the line that states it; skipped lines are counted
abbrev pub lines_of_edits : List ℕ → List ℕ
lines_of_edits text = edit_lines 1 (lines_of text)

-- an edit with the state that its number has
abbrev pub stated_in : List BlockState → Edit → Option (Set BlockState)
stated_in table e = option_map (λ s. record { tick = e.tick; pos = e.pos; what = s }) (slice_get table e.number)

abbrev pub option_list : {X : Type 0} → Option X → List X
option_list None = []
option_list (Some x) = x ∷ []

-- numbers keep their states
abbrev pub Grows : List BlockState → List BlockState → Type 0
Grows old new = (n : ℕ) (s : BlockState) → slice_get old n ≡ Some s → slice_get new n ≡ Some s
