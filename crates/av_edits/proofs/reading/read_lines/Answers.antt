use Rattle.std.proofs.Common.{◌∙◌, ap, sym, map, arith, ◌+◌, Some}
use Rattle.std.proofs.lemmas.Result.{err_from_is_err_and}
use Rattle.std.specs.Str.Lines.{strip_carriage_return}
use Rattle.av_state.specs.Table.{states}
use Rattle.av_edits.specs.Edits.{fault_of, table_of, edits_in}
use Rattle.av_edits.proofs.ReadOn.{drop_next, faults_next, faults_stop, tables_next, read_next, lines_next, grows_on}
use Rattle.av_edits.proofs.reading.read_lines.Goals as goal

pub returns-in_err-edit-clause-err : goal.returns-in_err-edit-clause-err
returns-in_err-edit-clause-err g c =
    let p = err_from_is_err_and c.from_residual.result c.from_residual.ensures.1 in
    let L = (g.C.Cells.world c.args.cells.now).loaded in
    let t = states c.loop-index.table in
    let next = drop_next (λ x. x.now) strip_carriage_return c.args.lines.now c.loop-index.index _ c.loop-index-test.true in
    rw (p.1, p.2) (λ n. faults_stop L c.args.ticks t (c.loop-index.index + 1) _ _ _ _ _ next (ap (fault_of L c.args.ticks t (c.loop-index.index + 1)) (sym c.without_return.ensures) ∙ c.in_err-edit.ensures.err n) c.loop-index.invariant.faults)

pub returns-in_err-push_some-clause-grows : goal.returns-in_err-push_some-clause-grows
returns-in_err-push_some-clause-grows g c = grows_on (states c.args.table.now) (states c.loop-index.table) (states c.read_line.new.table) c.loop-index.invariant.grows c.read_line.ensures.grows

pub loop-index-preserved : goal.loop-index-preserved
loop-index-preserved g c =
    let L = (g.C.Cells.world c.args.cells.now).loaded in
    let t = states c.loop-index.table in
    let u = states c.read_line.new.table in
    let next = drop_next (λ x. x.now) strip_carriage_return c.args.lines.now c.loop-index.index _ c.loop-index-test.true in
    record {
      faults = faults_next L c.args.ticks t u (c.loop-index.index + 1) (c.loop-index.index + 1 + 1) _ _ _ _ next (ap (fault_of L c.args.ticks t (c.loop-index.index + 1)) (sym c.without_return.ensures) ∙ c.in_ok-edit.ensures.none) (c.in_ok-edit.ensures.after ∙ ap (table_of t) c.without_return.ensures) (omega arith) c.loop-index.invariant.faults;
      tables = tables_next t u _ _ _ _ next (c.in_ok-edit.ensures.after ∙ ap (table_of t) c.without_return.ensures) c.loop-index.invariant.tables;
      read = read_next t u c.loop-index.edits.items c.push_some.new.edits.items c.in_ok-edit.edit _ _ _ _ next c.read_line.ensures.grows c.in_ok-push_some.ensures (c.in_ok-edit.ensures.ok ∙ ap (λ x. map Some (edits_in x)) c.without_return.ensures) c.loop-index.invariant.read;
      lines = lines_next c.loop-index.edits.items c.push_some.new.edits.items c.in_ok-edit.edit (c.loop-index.index + 1) (c.loop-index.index + 1 + 1) _ _ _ _ next c.in_ok-push_some.ensures (c.in_ok-edit.ensures.lines ∙ ap (λ x. map (λ e. c.loop-index.index + 1) (edits_in x)) c.without_return.ensures) (omega arith) c.loop-index.invariant.lines;
      grows = grows_on (states c.args.table.now) t u c.loop-index.invariant.grows c.read_line.ensures.grows;
    }
