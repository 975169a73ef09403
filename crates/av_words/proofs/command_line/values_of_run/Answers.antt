use Rattle.av_words.proofs.Nones.{if_none_from}
use Rattle.av_words.proofs.command_line.values_of_run.Goals as goal

pub returns-in_err-ticks-clause-none : goal.returns-in_err-ticks-clause-none
returns-in_err-ticks-clause-none c = if_none_from c.from_residual-in_err-ticks.result _ (λ run h. c.in_err-ticks.ensures.none run.ticks h.ticks)
