use Rattle.std.proofs.Common.{◌∙◌, sym, ℕ, List, Option, Some, None, Bor}
use Rattle.std.proofs.lemmas.Option.{none-some}
use Rattle.av_words.proofs.Nones.{if_none_from}
use Rattle.clap.specs.Words.{Row, Text, found_of, rows_of}
use Rattle.av_words.specs.CommandLine.{HasCount, HasText, MayHaveCount}
use Rattle.av_words.proofs.values.count_if_given.Goals as goal

-- a text that is given and is no number is no count that may be left out
no_count : (rows : List Row) (name : Text) (text : Bor Text) → HasText rows name text → ((n : ℕ) → HasCount rows name n → ⊥)
    → (n : Option ℕ) → MayHaveCount rows name n → ⊥
no_count rows name text given bad None h = none-some text.now (sym h ∙ given)
no_count rows name text given bad (Some n) h = bad n h

pub returns-in_err-count_of-in-Some-clause-none : goal.returns-in_err-count_of-in-Some-clause-none
returns-in_err-count_of-in-Some-clause-none c =
    if_none_from c.from_residual.result _
    (no_count (rows_of (found_of c.args.matches.now)) c.args.name.now c.in-Some.field-0 c.in-Some.ensures.value c.in_err-count_of-in-Some.ensures.none)
