use Rattle.std.proofs.Common.{◌∙◌, ap}
use Rattle.std.specs.Str.{bytes_eq}
use Rattle.av_state.specs.BlockState.{air_name}
use Rattle.av_state.proofs.state.State.is_air.Goals as goal

pub returns : goal.returns
returns c = c.eq.ensures ∙ ap (λ name. bytes_eq name air_name) c.as_slice.ensures.value
