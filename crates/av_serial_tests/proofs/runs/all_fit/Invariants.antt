use Rattle.std.proofs.Common.{ℕ, ◌<◌, get_or}
use Rattle.av_rules.specs.Kinds.{kind_count}
use Rattle.av_edits.specs.declared.edit.Edit.{Edit}
use Rattle.av_serial.specs.Ready.{CanApply}
use Rattle.av_serial_tests.proofs.runs.all_fit.Given as goal

abbrev pub invariant-loop-edit : goal.invariant-loop-edit
invariant-loop-edit l = (j : ℕ) (d : Edit) → j < l.edit-index → CanApply (kind_count l.kinds) l.world (get_or l.edits j d)
