use Rattle.std.proofs.Common.{refl}
use Rattle.av_rules.specs.Document.{row_in}
use Rattle.av_rules.proofs.document.row_in.Goals as goal

pub returns-clause-value : goal.returns-clause-value
unfolding row_in
returns-clause-value c =
    rw (← c.in_ok-opens.ensures, ← c.in_ok-floor.ensures, ← c.in_ok-opacity.ensures.value, ← c.in_ok-emission.ensures.value, ← c.in_ok-wet.ensures) refl
