-- What holds where there is none.
use Rattle.std.proofs.Common.{Option, Some, None, IfNone}

pub if_none_from : {T : Type 0} (o : Option T) (P : Type 0) → P → IfNone o P
if_none_from None P p = p
if_none_from (Some x) P p = tt
