use Rattle.std.proofs.Common.{List, All, subst, sym}
use Rattle.av_rules.specs.Kinds.{kind_count}
use Rattle.av_edits.specs.declared.edit.Edit.{Edit}
use Rattle.av_serial.specs.Ready.{CanApply}
use Rattle.av_run.proofs.Inputs.{can_apply_all}
use Rattle.av_bench.proofs.running.run_input.Goals as goal

pub run_ticks-requires-clause-edits : goal.run_ticks-requires-clause-edits
run_ticks-requires-clause-edits g c sound =
    let i = c.args.input in
    subst (λ (es : List Edit). All (CanApply (kind_count i.kinds) i.world) es) (sym c.as_slice-edits.ensures.value) (can_apply_all (kind_count i.kinds) i.world i.edits.items c.requires.whole c.requires.edits)

pub run_ticks-requires-else-workers-eq0-clause-edits : goal.run_ticks-requires-else-workers-eq0-clause-edits
run_ticks-requires-else-workers-eq0-clause-edits g c κs within =
    let i = c.args.input in
    λ sound. subst (λ (es : List Edit). All (CanApply (kind_count i.kinds) i.world) es) (sym c.as_slice-edits.ensures.value) (can_apply_all (kind_count i.kinds) i.world i.edits.items c.requires.whole c.requires.edits)
