use Rattle.std.proofs.Common.{◌∙◌, sym}
use Rattle.av_cells.specs.Kinds.{kinds_of}
use Rattle.av_world.specs.Lands.{land_of}
use Rattle.av_serial.proofs.RunSteps.{idle}
use Rattle.av_serial.proofs.runs.tick_from.Goals as goal

pub returns-then-idle-clause-done : goal.returns-then-idle-clause-done
returns-then-idle-clause-done g c = sym (idle (kinds_of c.args.kinds.now) c.args.now c.args.next.now c.args.edits.now (land_of c.args.world.now) (sym c.is_idle-idle.ensures ∙ c.if-idle.true) c.requires.next).world

pub returns-then-idle-clause-count : goal.returns-then-idle-clause-count
returns-then-idle-clause-count g c = sym (idle (kinds_of c.args.kinds.now) c.args.now c.args.next.now c.args.edits.now (land_of c.args.world.now) (sym c.is_idle-idle.ensures ∙ c.if-idle.true) c.requires.next).count
