use Rattle.std.proofs.Common.{◌≡◌, ◌∙◌, ap, inl, inr, sym, subst, map, List, Bor, Result, Ok, Err, IfErr}
use Rattle.std.proofs.lemmas.Result.{IfOk-from_err}
use Rattle.av_types.proofs.Exits.{err_from}
use Rattle.clap.specs.declared.error.Error.{Error}
use Rattle.clap.specs.Words.{App, HasKind, Text, fault_of, is_simple, is_simple_and_free, subcommand_of, takes}
use Rattle.av_words.specs.CommandLine.{IsReadFrom, IsWordsRefusal}
use Rattle.av_words.specs.declared.command_line.commands.Words.{Words}
use Rattle.av_words.proofs.command_line.words.Goals as goal

texts : List (Bor Text) → List Text
texts words = map (λ s. s.now) words

refused_by_all : {T : Type 0} (r : Result T Error) (words : List Text) → ((e : Error) → IsWordsRefusal words e) → IfErr r (IsWordsRefusal words)
refused_by_all (Ok v) words all = tt
refused_by_all (Err e) words all = all e

pub returns-in_err-matches-clause-refused : goal.returns-in_err-matches-clause-refused
unfolding texts
returns-in_err-matches-clause-refused c =
    let words = texts c.args.given.now in
    let refusal : IsWordsRefusal words c.in_err-matches.field-0.0 = record {
      cause = λ taken. inl (c.in_err-matches.ensures.passes (ap (λ (a : App). takes a words) c.in_ok-program.ensures.app ∙ taken));
      kind = inl (subst (λ (a : App). HasKind (fault_of a words) c.in_err-matches.field-0.0) c.in_ok-program.ensures.app
          (c.in_err-matches.ensures.kinds (ap is_simple_and_free c.in_ok-program.ensures.app)));
    } in
    err_from c.from_residual-in_err-matches.result c.in_err-matches.field-0.0 (IsWordsRefusal words) c.from_residual-in_err-matches.ensures.1 refusal

pub returns-clause-read : goal.returns-clause-read
returns-clause-read c = IfOk-from_err c.no_command.result _ c.no_command.ensures

pub returns-clause-refused : goal.returns-clause-refused
unfolding texts
returns-clause-refused c =
    let words = texts c.args.given.now in
    let app_is = c.in_ok-program.ensures.app in
    let found = (c.in_ok-matches.ensures.matches (ap is_simple app_is)).1 ∙ ap (λ (a : App). subcommand_of a words) app_is in
    let none = rw c.in-None.is at c.in_ok-command.ensures.none in
    let lacks : (command : Words) → IsReadFrom words command → ⊥ = λ command read. none command read.rows (found ∙ read.named) read.values in
    refused_by_all c.no_command.result words (λ e. record {
      cause = λ taken. inr lacks;
      kind = inr lacks;
    })

pub returns-in-Some-clause-read : goal.returns-in-Some-clause-read
unfolding texts
returns-in-Some-clause-read c =
    let words = texts c.args.given.now in
    let app_is = c.in_ok-program.ensures.app in
    let found = (c.in_ok-matches.ensures.matches (ap is_simple app_is)).1 ∙ ap (λ (a : App). subcommand_of a words) app_is in
    let read = rw c.in-Some.is at c.in_ok-command.ensures.read in
    record {
      rows = read.0;
      named = sym found ∙ read.1;
      values = read.2;
    }
