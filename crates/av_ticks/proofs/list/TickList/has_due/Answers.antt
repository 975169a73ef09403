-- The least time tells it.
use Rattle.std.proofs.Common.{◌<◌, ◌^◌, rules, w64, FitsSigned, ◌∙◌}
use Rattle.std.proofs.lemmas.Int.{to_z-of_z}
use Rattle.av_ticks.proofs.Least.{least_is_due}
use Rattle.av_ticks.proofs.list.TickList.has_due.Goals as goal

pub returns : goal.returns
returns c =
    let one : FitsSigned w64 c.args.self.now.soonest = search rules in
    let other : FitsSigned w64 c.from.result = search rules in
    let small : c.args.now < 2 ^ 32 = search rules in
    least_is_due c.args.now _ _ _ small (to_z-of_z w64 c.args.self.now.soonest one ∙ c.args.self.now.least) (to_z-of_z w64 c.from.result other ∙ c.from.ensures)
