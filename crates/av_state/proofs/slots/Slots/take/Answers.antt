use Rattle.std.proofs.Common.{refl, arith}
use Rattle.av_state.specs.Index.{HasTaken}
use Rattle.av_state.proofs.slots.Slots.take.Goals as goal

pub returns-then-told-number-clause-slot : goal.returns-then-told-number-clause-slot
returns-then-told-number-clause-slot c = HasTaken.left (omega (arith, c.told.ensures, c.if-told-number.true)) refl

pub returns-clause-slot : goal.returns-clause-slot
returns-clause-slot c = HasTaken.taken (omega (arith, c.told.ensures, c.if-told-number.false)) refl
