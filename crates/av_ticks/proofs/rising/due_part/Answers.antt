-- Those that are due stand at the beginning.
use Rattle.av_ticks.specs.Entries.{is_due}
use Rattle.av_ticks.proofs.Times.{taken_again}
use Rattle.av_ticks.proofs.rising.due_part.Goals as goal

pub returns-clause-due : goal.returns-clause-due
returns-clause-due c = taken_again (is_due c.args.now) c.args.entries.now c.count_due.result c.count_due.ensures.due
