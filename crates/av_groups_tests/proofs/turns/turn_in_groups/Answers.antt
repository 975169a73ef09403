use Rattle.std.proofs.Common.{◌∙◌, sym, ap}
use Rattle.av_land.specs.Tick.{without_due}
use Rattle.av_world.specs.Lands.{land_of}
use Rattle.av_groups.specs.declared.groups.Groups.{Groups}
use Rattle.av_lending.proofs.After.{all_turned}
use Rattle.av_lending.proofs.Planned.{plan_of}
use Rattle.av_groups_tests.proofs.turns.turn_in_groups.Goals as goal

pub turn_plan-requires-clause-plan : goal.turn_plan-requires-clause-plan
turn_plan-requires-clause-plan c = plan_of c.new-plan.result c.args.kinds.now c.in_ok-cut.cut c.args.world.now c.new-plan.ensures.kinds c.new-plan.ensures.start c.new-plan.ensures.groups c.in_ok-cut.ensures.groups c.requires

pub returns : goal.returns
returns c =
    let p = c.new-plan.result in
    c.leave_due.ensures.left ∙ ap (λ t. without_due t (land_of c.turn_plan.new.world)) (sym c.new-plan.ensures.tick) ∙ c.in_ok-told.ensures.land_is
    ∙ all_turned c.args.kinds.now c.args.now c.args.world.now c.args.entries.now p (plan_of p c.args.kinds.now c.in_ok-cut.cut c.args.world.now c.new-plan.ensures.kinds c.new-plan.ensures.start c.new-plan.ensures.groups c.in_ok-cut.ensures.groups c.requires).is_plan c.new-plan.ensures.tick c.new-plan.ensures.kinds c.new-plan.ensures.start
    (ap (λ (gs : Groups). gs.entries.items) c.new-plan.ensures.groups ∙ c.in_ok-cut.ensures.entries)
