use Rattle.std.proofs.Common.{◌≢◌, ℕ, List, map, subst, sym, ap, ◌∙◌}
use Rattle.std.proofs.lemmas.Result.{err_from_is_err_and}
use Rattle.av_types.specs.declared.fault.Fault.TheVariants.{OutOfMemory}
use Rattle.av_state.specs.BlockState.{BlockState}
use Rattle.av_state.specs.Table.{states}
use Rattle.av_rules.specs.Rows.{row_of, wet_in}
use Rattle.av_rules.specs.Tables.{table_of}
use Rattle.av_land.specs.Land.{is_loaded}
use Rattle.av_edits.specs.Numbered.{number_sets}
use Rattle.av_world.specs.Lands.{land_of}
use Rattle.av_files.specs.Layers.{AreEdits}
use Rattle.av_image.specs.Views.{rest_in}
use Rattle.av_files.specs.Files.{File}
use Rattle.av_files.specs.FirstFault.{IsTable}
use Rattle.av_run.specs.Input.{IsLoadedFrom, IsInputFault}
use Rattle.av_run.proofs.Inputs.{edits_fault}
use Rattle.av_run.proofs.input.with_edits.Goals as goal

pub returns-in_err-edits-clause-err : goal.returns-in_err-edits-clause-err
returns-in_err-edits-clause-err c =
    let e = c.in_err-edits.field-0.0 in
    let r = c.args.rules.now in
    let l = c.args.loaded in
    let h : e ≢ OutOfMemory → (files : List File) → (table : List ℕ) → IsTable table (table_of r) r.height → IsLoadedFrom r.height files l → IsInputFault files table c.args.edits.now c.args.ticks e =
    λ other files table spelled from. edits_fault files table c.args.edits.now c.args.ticks (table_of r) r.height (states l.table) (land_of l.world) (rest_in l.rest) e
    spelled from.load (c.in_err-edits.ensures.err other) in
    let p = err_from_is_err_and c.from_residual.result c.from_residual.ensures.1 in rw (p.1, p.2) h

pub returns-clause-ok : goal.returns-clause-ok
returns-clause-ok c =
    let r = c.args.rules.now in
    let l = c.args.loaded in
    let k = c.in_ok-kinds.ensures in
    λ files table spelled from.
    record {
      rules = table_of r;
      height = r.height;
      known = states l.table;
      spelled = spelled;
      kinds = record {
        rows = k.rows ∙ ap (map (row_of (table_of r))) (sym k.table);
        wets = k.wets ∙ ap (map (wet_in (table_of r))) (sym k.table);
      };
      load = from.load;
      read = subst (λ (new : List BlockState). AreEdits (is_loaded (land_of l.world)) c.args.ticks c.args.edits.now (states l.table) new (number_sets c.in_ok-edits.edits.items)) (sym k.table) c.in_ok-edits.ensures.ok;
      lines = c.in_ok-edits.ensures.lines;
      whole = from.whole;
      sound = from.sound;
      rest_of = from.rest_of;
    }
