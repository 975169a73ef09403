use Rattle.std.proofs.Common.{refl}
use Rattle.av_program.proofs.program.run_command.Goals as goal

pub returns-in-Block-clause-ran : goal.returns-in-Block-clause-ran
returns-in-Block-clause-ran g c = rw c.in-Block.is (refl, c.run_block.ensures.ran)

pub returns-in-Run-clause-ran : goal.returns-in-Run-clause-ran
returns-in-Run-clause-ran g c = rw c.in-Run.is c.run_run.ensures.ran

pub returns-in-Check-clause-ran : goal.returns-in-Check-clause-ran
returns-in-Check-clause-ran g c = rw c.in-Check.is (refl, c.run_check.ensures.ran)

pub returns-in-Map-clause-ran : goal.returns-in-Map-clause-ran
returns-in-Map-clause-ran g c = rw c.in-Map.is (refl, c.run_map.ensures)

pub returns-in-States-clause-ran : goal.returns-in-States-clause-ran
returns-in-States-clause-ran g c = rw c.in-States.is (refl, c.run_states.ensures)
