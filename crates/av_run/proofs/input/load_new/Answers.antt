use Rattle.std.proofs.Common.{◌≢◌, List, map, subst}
use Rattle.std.proofs.lemmas.Result.{err_from_is_err_and}
use Rattle.av_types.specs.declared.fault.Fault.TheVariants.{OutOfMemory}
use Rattle.av_state.specs.BlockState.{BlockState}
use Rattle.av_files.specs.FirstFault.{IsFilesFault, IsFilesFaultAfter}
use Rattle.av_image.specs.Views.{file_in}
use Rattle.av_run.proofs.input.load_new.Goals as goal

pub returns-in_err-world-clause-err : goal.returns-in_err-world-clause-err
returns-in_err-world-clause-err g c =
    let e = c.in_err-world.field-0.0 in
    let files = map file_in c.args.files.items in
    let h : e ≢ OutOfMemory → IsFilesFault c.args.rules.now.height files e =
    λ other. subst (λ (old : List BlockState). IsFilesFaultAfter c.args.rules.now.height old files e) c.in_ok-table.ensures.ok (c.in_err-world.ensures.err other) in
    let p = err_from_is_err_and c.from_residual-in_err-world.result c.from_residual-in_err-world.ensures.1 in rw (p.1, p.2) h
