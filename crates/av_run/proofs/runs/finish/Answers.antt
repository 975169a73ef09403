use Rattle.std.proofs.Common.{◌∙◌, ℕ, List, length, map, All, subst, sym, ap}
use Rattle.av_state.specs.Table.{states}
use Rattle.av_rules.specs.Kinds.{kind_count, table_in}
use Rattle.av_cells.specs.Kinds.{kinds_of}
use Rattle.av_land.specs.Land.{Land}
use Rattle.av_land.specs.Tick.{run, run_count}
use Rattle.av_land.specs.Good.{Good, IsTimely}
use Rattle.av_edits.specs.declared.edit.Edit.{Edit}
use Rattle.av_edits.specs.Numbered.{number_sets}
use Rattle.av_world.specs.Lands.{land_of}
use Rattle.av_serial.specs.Ready.{CanApply}
use Rattle.av_files.specs.Run.{stated}
use Rattle.av_image.specs.Views.{rest_in, file_in}
use Rattle.av_run.specs.Written.{AreFilesOf}
use Rattle.av_run.proofs.Inputs.{can_apply_all}
use Rattle.av_run.proofs.Answered.{good_after}
use Rattle.av_run.proofs.runs.finish.Goals as goal

pub run_ticks-requires-clause-edits : goal.run_ticks-requires-clause-edits
run_ticks-requires-clause-edits g c κs within =
    let i = c.args.input in
    λ sound. subst (λ (es : List Edit). All (CanApply (kind_count i.kinds) i.world) es) (sym c.as_slice.ensures.value) (can_apply_all (kind_count i.kinds) i.world i.edits.items c.requires.can.whole c.requires.can.edits)

pub written-requires-clause-good : goal.written-requires-clause-good
written-requires-clause-good g c κs within =
    let i = c.args.input in
    let n = c.args.ticks in
    let to = c.in_ok-turns.ensures.done ∙ ap (λ (es : List Edit). run (kinds_of i.kinds) (number_sets es) n (land_of i.world)) c.as_slice.ensures.value in
    subst (λ (w : Land ℕ). Good (kind_count i.kinds) (IsTimely n) w) (sym to) (good_after n i c.requires.can)

pub returns-clause-ok : goal.returns-clause-ok
returns-clause-ok g c =
    let i = c.args.input in
    let n = c.args.ticks in
    let k = kinds_of i.kinds in
    let w = land_of i.world in
    let to = c.in_ok-turns.ensures.done ∙ ap (λ (es : List Edit). run k (number_sets es) n w) c.as_slice.ensures.value in
    record {
      turns = c.in_ok-turns.ensures.count ∙ ap (λ (es : List Edit). run_count k (number_sets es) n w) c.as_slice.ensures.value;
      chunks = ap length c.positions.ensures.value;
      files = λ t made. subst (λ (v : Land ℕ). AreFilesOf t (stated (states (table_in i.kinds)) v) (rest_in i.rest) n (map file_in c.in_ok-files.files.items)) to (c.in_ok-files.ensures.ok t made);
    }
