use Rattle.av_program.specs.Running.{called}
use Rattle.av_program.proofs.program.run.Goals as goal

pub returns-in-Ok-as_texts-clause-ran : goal.returns-in-Ok-as_texts-clause-ran
returns-in-Ok-as_texts-clause-ran g c = called _ c.run_words.ensures.ran
