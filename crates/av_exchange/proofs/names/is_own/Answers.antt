use Rattle.std.proofs.Common.{◌∙◌, ap₂, nat_eq}
use Rattle.std.specs.List.{starts_with}
use Rattle.av_exchange.proofs.names.is_own.Goals as goal

pub returns : goal.returns
returns c = c.starts_with.ensures.value ∙ ap₂ (starts_with nat_eq) c.as_bytes.ensures.value c.as_bytes-2.ensures.value
