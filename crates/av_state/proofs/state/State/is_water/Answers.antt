use Rattle.std.proofs.Common.{◌∙◌, ap}
use Rattle.std.specs.Str.{bytes_eq}
use Rattle.av_state.specs.BlockState.{water_name}
use Rattle.av_state.proofs.state.State.is_water.Goals as goal

pub returns : goal.returns
returns c = c.eq.ensures ∙ ap (λ name. bytes_eq name water_name) c.as_slice.ensures.value
