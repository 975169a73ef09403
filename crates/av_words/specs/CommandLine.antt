-- The command line: what `clap` is told of it, and what a command holds of the words.
use Rattle.std.specs.Prelude.{◌≡◌, ◌⊎◌, ◌<◌, ◌^◌, ◌&&◌, ℕ, ℤ, Bool, List, [], Option, Some, None, pos, negsuc, codes, true, false, map, option_map, unwrap_or, FitsSigned}
use Rattle.std.specs.Borrow.{Bor}
use Rattle.std.specs.Int.{w32}
use Rattle.std.specs.Str.{bytes_eq}
use Rattle.std.specs.Str.Parse.{IsNumeral, digits_value, signed_digits_value, without_leading_plus, without_leading_sign}
use Rattle.clap.specs.declared.builder.action.ArgAction.TheVariants.{Append, SetTrue}
use Rattle.clap.specs.declared.error.Error.{Error}
use Rattle.clap.specs.declared.error.kind.ErrorKind.TheVariants.{OutOfMemory}
use Rattle.clap.specs.Words.{App, HasKind, Row, Rule, Shape, Text, all_of, fault_of, first_of, kind_of, takes, new_app, new_rule, one_of, subcommand_of, with_rule, with_subcommand}
use Rattle.clap.specs.declared.builder.value_parser.ValueParser.TheVariants.{Signed}
use Rattle.av_types.specs.declared.position.Pos.{Pos}
use Rattle.av_words.specs.declared.command_line.commands.RunWords.{RunWords}
use Rattle.av_words.specs.declared.command_line.commands.Words.{Words}
use Rattle.av_words.specs.declared.command_line.commands.Words.TheVariants.{Block, Check, Map, Run, States}

-- a file that has to be named
abbrev pub file_rule : Text → Rule
file_rule name = record (new_rule name) { required = true }

-- a coordinate: a number that fits an i32
abbrev pub number_rule : Text → Rule
number_rule name = record (new_rule name) {
  required = true;
  parser = Some (Signed (negsuc 2147483647) (pos 2147483647));
}

-- `--NAME VALUE`, which has to be given or may be left out
abbrev pub option_rule : Text → Bool → Rule
option_rule name required = record (new_rule name) { long = Some name; value_names = 1; required = required }

-- `--NAME N`: a number that fits a u32
abbrev pub count_rule : Text → Bool → Rule
count_rule name required = record (option_rule name required) { parser = Some (Signed (pos 0) (pos 4294967295)) }

-- `--NAME VALUE`, which may be given many times
abbrev pub repeated_rule : Text → Rule
repeated_rule name = record (option_rule name false) { action = Some Append }

-- `--NAME`
abbrev pub flag_rule : Text → Rule
flag_rule name = record (new_rule name) { long = Some name; action = Some SetTrue }

-- `block [--table FILE] [--explain] FILE X Y Z`
abbrev pub block_app : App
block_app = with_rule (with_rule (with_rule (with_rule (with_rule (with_rule (new_app (codes "block"))
    (file_rule (codes "FILE")))
    (number_rule (codes "X")))
    (number_rule (codes "Y")))
    (number_rule (codes "Z")))
    (option_rule (codes "table") false))
    (flag_rule (codes "explain"))

-- `check --in DIR [--table FILE] [--progress] [--explain]`
abbrev pub check_app : App
check_app = with_rule (with_rule (with_rule (with_rule (new_app (codes "check"))
    (option_rule (codes "in") true))
    (option_rule (codes "table") false))
    (flag_rule (codes "progress")))
    (flag_rule (codes "explain"))

-- `--in DIR --out DIR [--table FILE] [--edits FILE]`
abbrev pub with_files : App → App
with_files app = with_rule (with_rule (with_rule (with_rule app
    (option_rule (codes "in") true))
    (option_rule (codes "out") true))
    (option_rule (codes "table") false))
    (option_rule (codes "edits") false)

-- `--ticks N [--workers N] [--skip NAME]..`
abbrev pub with_counts : App → App
with_counts app = with_rule (with_rule (with_rule app
    (count_rule (codes "ticks") true))
    (count_rule (codes "workers") false))
    (repeated_rule (codes "skip"))

-- `[--strict] [--dry-run] [--again] [--in-use]`
abbrev pub with_flags : App → App
with_flags app = with_rule (with_rule (with_rule (with_rule app
    (flag_rule (codes "strict")))
    (flag_rule (codes "dry-run")))
    (flag_rule (codes "again")))
    (flag_rule (codes "in-use"))

-- `run` with these and `[--progress] [--explain]`
abbrev pub run_app : App
run_app = with_rule (with_rule (with_flags (with_counts (with_files (new_app (codes "run")))))
    (flag_rule (codes "progress")))
    (flag_rule (codes "explain"))

-- `map --in DIR --out FILE [--table FILE] [--colours FILE] [--light] [--explain]`
abbrev pub map_app : App
map_app = with_rule (with_rule (with_rule (with_rule (with_rule (with_rule (new_app (codes "map"))
    (option_rule (codes "in") true))
    (option_rule (codes "out") true))
    (option_rule (codes "table") false))
    (option_rule (codes "colours") false))
    (flag_rule (codes "light")))
    (flag_rule (codes "explain"))

-- `states --in DIR [--table FILE] [--explain]`
abbrev pub states_app : App
states_app = with_rule (with_rule (with_rule (new_app (codes "states"))
    (option_rule (codes "in") true))
    (option_rule (codes "table") false))
    (flag_rule (codes "explain"))

-- the program, without its own name among the words, and with `--version`
abbrev pub program_shape : Shape
program_shape = record (new_app (codes "anvilwater")).top { has_version = true; no_binary_name = true; subcommand_required = true }

abbrev pub bare_app : App
bare_app = record { top = program_shape; subs = [] }

abbrev pub anvilwater : App
anvilwater = with_subcommand (with_subcommand (with_subcommand (with_subcommand (with_subcommand bare_app
    block_app.top) check_app.top) run_app.top) map_app.top) states_app.top

-- the text is a number of 32 bits in decimal digits, perhaps with a sign
abbrev pub IsNumberText : Text → ℤ → Type 0
IsNumberText text n = IsNumeral 10 (without_leading_sign text)
    × FitsSigned w32 (signed_digits_value 10 text)
    × (n ≡ signed_digits_value 10 text)

-- the words give this argument, and it is this number
abbrev pub HasNumber : List Row → Text → ℤ → Type 0
HasNumber rows name n = (text : Text) × (one_of name rows ≡ Some text) × IsNumberText text n

-- the text is a number below 2^32 in decimal digits, perhaps with a `+`
abbrev pub IsCountText : Text → ℕ → Type 0
IsCountText text n = IsNumeral 10 (without_leading_plus text)
    × (digits_value 10 (without_leading_plus text) < 2 ^ 32)
    × (n ≡ digits_value 10 (without_leading_plus text))

-- the words give this argument, and it is this number
abbrev pub HasCount : List Row → Text → ℕ → Type 0
HasCount rows name n = (text : Text) × (one_of name rows ≡ Some text) × IsCountText text n

-- the words give this flag, or do not
pub record HasFlag (rows : List Row) (name : Text) (b : Bool) : Type 0 where
  pub given : one_of name rows ≡ Some (codes "true") → b ≡ true
  pub not_given : one_of name rows ≡ Some (codes "false") → b ≡ false
  pub missing : one_of name rows ≡ None → b ≡ false

-- the words give this argument, and this is its text
abbrev pub HasText : List Row → Text → Bor Text → Type 0
HasText rows name text = first_of name rows ≡ Some text.now

-- the same of an argument that may be left out
abbrev pub MayHaveText : List Row → Text → Option (Bor Text) → Type 0
MayHaveText rows name text = first_of name rows ≡ option_map (λ t. t.now) text

-- the same of a number
abbrev pub MayHaveCount : List Row → Text → Option ℕ → Type 0
MayHaveCount rows name None = first_of name rows ≡ None
MayHaveCount rows name (Some n) = HasCount rows name n

-- the words give this argument so often, with these texts in their order
abbrev pub HasTexts : List Row → Text → List (Bor Text) → Type 0
HasTexts rows name texts = unwrap_or (all_of name rows) [] ≡ map (λ t. t.now) texts

-- the values of `run`, as the words give them
pub record HasRunValues (rows : List Row) (run : RunWords) : Type 0 where
  pub input : HasText rows (codes "in") run.input
  pub output : HasText rows (codes "out") run.output
  pub table : MayHaveText rows (codes "table") run.table
  pub edits : MayHaveText rows (codes "edits") run.edits
  pub ticks : HasCount rows (codes "ticks") run.ticks
  pub workers : MayHaveCount rows (codes "workers") run.workers
  pub skip : HasTexts rows (codes "skip") run.skip.items
  pub strict : HasFlag rows (codes "strict") run.strict
  pub dry_run : HasFlag rows (codes "dry-run") run.dry_run
  pub again : HasFlag rows (codes "again") run.again
  pub in_use : HasFlag rows (codes "in-use") run.in_use
  pub progress : HasFlag rows (codes "progress") run.progress
  pub explain : HasFlag rows (codes "explain") run.explain

-- the values of a command, as the words give them
abbrev pub HasValues : List Row → Words → Type 0
HasValues rows (Block file at table explain) = HasText rows (codes "FILE") file
    × HasNumber rows (codes "X") at.x
    × HasNumber rows (codes "Y") at.y
    × HasNumber rows (codes "Z") at.z
    × MayHaveText rows (codes "table") table
    × HasFlag rows (codes "explain") explain
HasValues rows (Check input table progress explain) = HasText rows (codes "in") input
    × MayHaveText rows (codes "table") table
    × HasFlag rows (codes "progress") progress
    × HasFlag rows (codes "explain") explain
HasValues rows (Run run) = HasRunValues rows run
HasValues rows (Map input picture table colours light explain) = HasText rows (codes "in") input
    × HasText rows (codes "out") picture
    × MayHaveText rows (codes "table") table
    × MayHaveText rows (codes "colours") colours
    × HasFlag rows (codes "light") light
    × HasFlag rows (codes "explain") explain
HasValues rows (States input table explain) = HasText rows (codes "in") input
    × MayHaveText rows (codes "table") table
    × HasFlag rows (codes "explain") explain

abbrev pub name_of : Words → Text
name_of (Block file at table explain) = codes "block"
name_of (Check input table progress explain) = codes "check"
name_of (Run run) = codes "run"
name_of (Map input picture table colours light explain) = codes "map"
name_of (States input table explain) = codes "states"

-- whether a command is to say how far it is, where it has a word for that
abbrev pub progress_of : Words → Bool
progress_of (Check input table progress explain) = progress
progress_of (Run run) = run.progress
progress_of (Block file at table explain) = false
progress_of (Map input picture table colours light explain) = false
progress_of (States input table explain) = false

-- whether it is to say why it failed
abbrev pub explain_of : Words → Bool
explain_of (Block file at table explain) = explain
explain_of (Check input table progress explain) = explain
explain_of (Run run) = run.explain
explain_of (Map input picture table colours light explain) = explain
explain_of (States input table explain) = explain

-- the text that may be named is standard input
abbrev pub is_input : Option Text → Bool
is_input None = false
is_input (Some text) = bytes_eq text (codes "-")

-- two of the command's texts are
abbrev pub asks_twice : Words → Bool
asks_twice (Run run) = is_input (option_map (λ t. t.now) run.table) && is_input (option_map (λ t. t.now) run.edits)
asks_twice (Map input picture table colours light explain) = is_input (option_map (λ t. t.now) table) && is_input (option_map (λ t. t.now) colours)
asks_twice (Block file at table explain) = false
asks_twice (Check input table progress explain) = false
asks_twice (States input table explain) = false

-- the command is the one that the words name, with the values that they give
pub record IsReadFrom (words : List Text) (command : Words) : Type 0 where
  pub rows : List Row
  pub named : subcommand_of anvilwater words ≡ Some (name_of command, rows)
  pub values : HasValues rows command

-- Why words are refused: `clap` does not take them, or memory runs out, or they give no command with all its values. The first
-- are refused by a kind that `clap` has for them, as `--version` by `DisplayVersion`.
pub record IsWordsRefusal (words : List Text) (e : Error) : Type 0 where
  pub cause : takes anvilwater words ≡ true → (kind_of e ≡ OutOfMemory) ⊎ ((command : Words) → IsReadFrom words command → ⊥)
  pub kind : HasKind (fault_of anvilwater words) e ⊎ ((command : Words) → IsReadFrom words command → ⊥)

-- ---- working definitions: the words of a command lack one of its values

abbrev pub LacksBlock : List Row → Type 0
LacksBlock rows = (file : Bor Text) (at : Pos) (table : Option (Bor Text)) (explain : Bool) → HasValues rows (Block file at table explain) → ⊥

abbrev pub LacksCheck : List Row → Type 0
LacksCheck rows = (input : Bor Text) (table : Option (Bor Text)) (progress explain : Bool) → HasValues rows (Check input table progress explain) → ⊥

abbrev pub LacksRun : List Row → Type 0
LacksRun rows = (run : RunWords) → HasRunValues rows run → ⊥

abbrev pub LacksMap : List Row → Type 0
LacksMap rows = (input picture : Bor Text) (table colours : Option (Bor Text)) (light explain : Bool)
    → HasValues rows (Map input picture table colours light explain) → ⊥

abbrev pub LacksStates : List Row → Type 0
LacksStates rows = (input : Bor Text) (table : Option (Bor Text)) (explain : Bool) → HasValues rows (States input table explain) → ⊥
