-- What threads hand to each other, of a tick in groups.
use Rattle.std.specs.Prelude.{◌+◌, IfOk}
use Rattle.av_lending.specs.declared.handed.Keeper.{Keeper}
use Rattle.av_lending.specs.declared.handed.Work.{Work}
use Rattle.av_lending.specs.declared.handed.Work.TheVariants.{Turn, End}
use Rattle.av_lending.specs.declared.lent.Turned.{Turned}
use Rattle.av_lending.specs.declared.plans.Plan.{Plan}
use Rattle.av_lending.specs.Plans.{IsLentAfter, IsUnderWay}

-- what is lent for a group is as the groups before it leave it
abbrev pub IsWorkOf : Plan → Work → Type 0
IsWorkOf p (Turn l) = IsLentAfter p l.number l.number l.world
IsWorkOf p End = Unit {0}

-- and what comes back is as the group itself then leaves it
abbrev pub IsTurnedOf : Plan → Turned → Type 0
IsTurnedOf p t = IfOk t.world (IsLentAfter p t.number (t.number + 1))

-- a tick under way: its world, and what of it is lent
abbrev pub IsKeeperOf : Plan → Keeper → Type 0
IsKeeperOf p k = IsUnderWay p k.world k.lender
