use Rattle.std.proofs.Common.{◌≡◌, true, Bool}
use Rattle.std.proofs.lemmas.Result.{IfOk-weaker}
use Rattle.av_exchange.specs.Names.{IsBeside, IsRegionName, part}
use Rattle.av_exchange.proofs.Own.{beside_begins}
use Rattle.av_exchange.proofs.names.is_beside.Goals as goal

pub returns-in-Some-clause-is : goal.returns-in-Some-clause-is
returns-in-Some-clause-is c =
    IfOk-weaker c.is_region_name.result (λ (r : Bool). r ≡ true → IsRegionName c.in-Some.rest.now) (λ (r : Bool). r ≡ true → IsBeside c.args.name.now)
    (λ r region is. part c.in-Some.rest.now (region is) (rw c.in-Some.is at c.behind_start.ensures)) c.is_region_name.ensures.is

pub returns-in-None-clause-other : goal.returns-in-None-clause-other
returns-in-None-clause-other c = λ beside. absurd (beside_begins c.args.name.now beside c.in-None.ensures)
