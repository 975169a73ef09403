use Rattle.std.proofs.Common.{◌≢◌, map}
use Rattle.std.proofs.lemmas.Result.{err_from_is_err_and}
use Rattle.av_types.specs.declared.fault.Fault.TheVariants.{OutOfMemory}
use Rattle.av_state.specs.Table.{states}
use Rattle.av_rules.specs.Tables.{table_of}
use Rattle.av_image.specs.Views.{file_in}
use Rattle.av_run.specs.Input.{IsInputFault}
use Rattle.av_run.proofs.Inputs.{files_fault}
use Rattle.av_run.proofs.checked.read_counted.Goals as goal

pub returns-in_err-loaded-clause-err : goal.returns-in_err-loaded-clause-err
returns-in_err-loaded-clause-err g c =
    let e = c.in_err-loaded.field-0.0 in
    let files = map file_in c.args.files.items in
    let r = c.in_ok-rules.rules in
    let h : e ≢ OutOfMemory → IsInputFault files c.args.table.now c.args.edits.now c.args.ticks e =
    λ other. files_fault files c.args.table.now c.args.edits.now c.args.ticks (table_of r) r.height e c.in_ok-rules.ensures.ok (c.in_err-loaded.ensures.err other) in
    let p = err_from_is_err_and c.from_residual-in_err-loaded.result c.from_residual-in_err-loaded.ensures.1 in rw (p.1, p.2) h

pub returns-in_err-input-clause-err : goal.returns-in_err-input-clause-err
returns-in_err-input-clause-err g c =
    let e = c.in_err-input.field-0.0 in
    let files = map file_in c.args.files.items in
    let h : e ≢ OutOfMemory → IsInputFault files c.args.table.now c.args.edits.now c.args.ticks e =
    λ other. c.in_err-input.ensures.err other files c.args.table.now c.in_ok-rules.ensures.ok c.in_ok-loaded.ensures.ok in
    let p = err_from_is_err_and c.from_residual-in_err-input.result c.from_residual-in_err-input.ensures.1 in rw (p.1, p.2) h

pub returns-clause-ok : goal.returns-clause-ok
returns-clause-ok g c =
    let r = c.in_ok-rules.rules in
    let l = c.in_ok-loaded.loaded in
    record {
      read = c.in_ok-input.ensures.ok (map file_in c.args.files.items) c.args.table.now c.in_ok-rules.ensures.ok c.in_ok-loaded.ensures.ok;
      uncovered = record {
        rules = table_of r;
        height = r.height;
        states = states l.table;
        spelled = c.in_ok-rules.ensures.ok;
        read = c.in_ok-loaded.ensures.ok.load.read;
        counted = c.count_without_row-without_row.ensures;
      };
    }
