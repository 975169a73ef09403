use Rattle.std.proofs.Common.{Err, map, rules, refl, sym, ◌∙◌}
use Rattle.std.proofs.lemmas.Result.{err_from_is_err_and}
use Rattle.av_types.specs.declared.fault.Fault.TheVariants.{BadCount}
use Rattle.av_files.specs.FirstFault.{AreCountsGood, counts}
use Rattle.av_files.specs.Headline.{input}
use Rattle.av_image.specs.Views.{file_in}
use Rattle.av_answers.specs.Answer.{IsRunAnswer}
use Rattle.av_run.proofs.Inputs.{can_run}
use Rattle.av_run.proofs.Answered.{is_refusal, is_answer}
use Rattle.av_run.proofs.Uncovered.{uncovered_answer, not_refused}
use Rattle.av_run.proofs.checked.run_checked.Goals as goal

pub returns-then-not-are_counts_good : goal.returns-then-not-are_counts_good
returns-then-not-are_counts_good g c =
    let files = map file_in c.args.files.items in
    let many : ¬ AreCountsGood files c.args.ticks c.args.workers = search rules in
    is_refusal files c.args.table.now c.args.edits.now c.args.ticks c.args.workers BadCount (λ _. input (counts many refl))

pub returns-in_err-read : goal.returns-in_err-read
returns-in_err-read g c =
    let e = c.in_err-read.field-0.0 in
    let files = map file_in c.args.files.items in
    let good : AreCountsGood files c.args.ticks c.args.workers = search rules in
    let h : IsRunAnswer files c.args.table.now c.args.edits.now c.args.ticks c.args.workers (Err e) =
    is_refusal files c.args.table.now c.args.edits.now c.args.ticks c.args.workers e (λ other. input (c.in_err-read.ensures.err other c.args.workers good)) in
    let p = err_from_is_err_and c.from_residual.result c.from_residual.ensures.1 in rw (p.1, p.2) h

pub returns-then-is_refused : goal.returns-then-is_refused
returns-then-is_refused g c =
    let files = map file_in c.args.files.items in
    let good : AreCountsGood files c.args.ticks c.args.workers = search rules in
    uncovered_answer files c.args.table.now c.args.edits.now c.args.ticks c.args.workers c.args.strict c.in_ok-read.read good c.in_ok-read.ensures.ok (sym c.is_refused.ensures ∙ c.if-is_refused.true)

pub finish-requires-clause-can : goal.finish-requires-clause-can
finish-requires-clause-can g c κs within =
    let files = map file_in c.args.files.items in
    let good : AreCountsGood files c.args.ticks c.args.workers = search rules in
    can_run files c.args.table.now c.args.edits.now c.args.ticks c.in_ok-read.read.input good.few_ticks c.in_ok-read.ensures.ok.read

pub returns-in_err-outcome : goal.returns-in_err-outcome
returns-in_err-outcome g c =
    let e = c.in_err-outcome.field-0.0 in
    let files = map file_in c.args.files.items in
    let good : AreCountsGood files c.args.ticks c.args.workers = search rules in
    let h : IsRunAnswer files c.args.table.now c.args.edits.now c.args.ticks c.args.workers (Err e) =
    is_answer files c.args.table.now c.args.edits.now c.args.ticks c.args.workers c.in_ok-read.read.input (Err e) good c.in_ok-read.ensures.ok.read tt c.in_err-outcome.ensures.err in
    let p = err_from_is_err_and c.from_residual-in_err-outcome.result c.from_residual-in_err-outcome.ensures.1 in rw (p.1, p.2) h

pub returns : goal.returns
returns g c =
    let files = map file_in c.args.files.items in
    let good : AreCountsGood files c.args.ticks c.args.workers = search rules in
    record {
      answer = is_answer files c.args.table.now c.args.edits.now c.args.ticks c.args.workers c.in_ok-read.read.input _ good c.in_ok-read.ensures.ok.read c.in_ok-outcome.ensures.ok tt;
      uncovered = c.in_ok-read.ensures.ok.uncovered;
      strictly = not_refused c.args.strict c.in_ok-read.read.without_row (sym c.is_refused.ensures ∙ c.if-is_refused.false);
    }
