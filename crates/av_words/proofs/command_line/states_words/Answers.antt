use Rattle.std.proofs.Common.{refl}
use Rattle.av_words.proofs.Nones.{if_none_from}
use Rattle.av_words.proofs.command_line.states_words.Goals as goal

pub returns-clause-values : goal.returns-clause-values
returns-clause-values c = (refl, (c.in_ok-input.ensures.value, c.text_of-table.ensures.either, c.is_given-explain.ensures))

pub returns-in_err-input-clause-none : goal.returns-in_err-input-clause-none
returns-in_err-input-clause-none c = if_none_from c.from_residual.result _ (λ input table explain h. c.in_err-input.ensures.none input h.0)
