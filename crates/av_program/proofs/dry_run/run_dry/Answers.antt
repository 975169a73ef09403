use Rattle.av_program.specs.DryRun.{foreseen}
use Rattle.av_program.proofs.dry_run.run_dry.Goals as goal

pub returns-in-Ok-clause-ran : goal.returns-in-Ok-clause-ran
returns-in-Ok-clause-ran g c = foreseen c.in-Ok.foreseen c.in-Ok.ensures c.tell.ensures
