use Rattle.std.proofs.Common.{List, ℕ, Option, is_some}
use mathlib.Core.Logic.{inl, inr}
use Rattle.av_exchange.specs.Names.{part_of}
use Rattle.av_exchange.specs.Outcomes.{name_of}
use Rattle.av_exchange.proofs.Taken.{told_true}
use Rattle.av_exchange.proofs.moving.move_one.Goals as goal

pub returns-then-there-clause-there : goal.returns-then-there-clause-there
returns-then-there-clause-there g c =
    told_true _ (λ h. is_some (h (part_of (name_of c.args.file.now)))) c.in_ok-there.there c.if-there.true c.in_ok-there.ensures.there

pub returns-clause-err : goal.returns-clause-err
returns-clause-err g c = inr c.in_ok-there.ensures.ok
