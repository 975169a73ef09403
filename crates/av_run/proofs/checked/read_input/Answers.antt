use Rattle.std.proofs.Common.{Ok, Err, List, map, rules, subst, sym, true≢false, ◌∙◌}
use Rattle.std.proofs.lemmas.Result.{err_from_is_err_and}
use Rattle.av_region_files.specs.declared.files.RegionFile.{RegionFile}
use Rattle.av_image.specs.Views.{file_in}
use Rattle.av_run.specs.Input.{AreFew, IsInputAnswer}
use Rattle.av_run.proofs.InputAnswers.{too_many, answer_of_few}
use Rattle.av_run.proofs.checked.read_input.Goals as goal

pub returns-then-not-are_few : goal.returns-then-not-are_few
returns-then-not-are_few g c =
    let many : ¬ AreFew (map file_in c.as_slice.result.now) c.args.ticks = λ few. true≢false (sym (c.are_few.ensures.1 few) ∙ c.if-not-are_few.true) in
    too_many (map file_in c.args.files.items) c.args.table.now c.args.edits.now c.args.ticks (subst (λ (fs : List RegionFile). ¬ AreFew (map file_in fs) c.args.ticks) c.as_slice.ensures.value many)

pub returns-in_err-counted : goal.returns-in_err-counted
returns-in_err-counted g c =
    let e = c.in_err-counted.field-0.0 in
    let files = map file_in c.args.files.items in
    let few : AreFew files c.args.ticks = search rules in
    let h : IsInputAnswer files c.args.table.now c.args.edits.now c.args.ticks (Err e) =
    answer_of_few files c.args.table.now c.args.edits.now c.args.ticks (Err e) few tt c.in_err-counted.ensures.err in
    let p = err_from_is_err_and c.from_residual.result c.from_residual.ensures.1 in rw (p.1, p.2) h

pub returns : goal.returns
returns g c =
    let files = map file_in c.args.files.items in
    let few : AreFew files c.args.ticks = search rules in
    answer_of_few files c.args.table.now c.args.edits.now c.args.ticks (Ok c.in_ok-counted.counted.input) few c.in_ok-counted.ensures.ok.read tt
