use Rattle.std.proofs.Common.{refl}
use Rattle.av_words.proofs.Nones.{if_none_from}
use Rattle.av_words.proofs.command_line.map_words.Goals as goal

pub returns-clause-values : goal.returns-clause-values
returns-clause-values c = (
  refl,
  (
    c.in_ok-input.ensures.value,
    c.in_ok-picture.ensures.value,
    c.text_of-table.ensures.either,
    c.text_of-colours.ensures.either,
    c.is_given-light.ensures,
    c.is_given-explain.ensures,
  ),
)

pub returns-in_err-input-clause-none : goal.returns-in_err-input-clause-none
returns-in_err-input-clause-none c = if_none_from c.from_residual.result _ (λ i o t k l x h. c.in_err-input.ensures.none i h.0)

pub returns-in_err-picture-clause-none : goal.returns-in_err-picture-clause-none
returns-in_err-picture-clause-none c = if_none_from c.from_residual-in_err-picture.result _ (λ i o t k l x h. c.in_err-picture.ensures.none o h.1)
