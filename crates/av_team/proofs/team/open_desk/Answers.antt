use Rattle.std.proofs.Common.{◌∙◌, sym, ap}
use Rattle.av_line.specs.Shown.{PassShown}
use Rattle.av_lending.specs.declared.plans.Plan.{Plan}
use Rattle.av_lending.proofs.Planned.{plan_of}
use Rattle.av_team.proofs.Same.{pass_of}
use Rattle.av_team.proofs.team.open_desk.Goals as goal

pub returns-clause-passes : goal.returns-clause-passes
returns-clause-passes g c = record {
  of_works = pass_of _ c.new-plan.result c.new-works_plan.result _ (c.in_ok-works.ensures.line) (c.in_ok-works.ensures.plan) (c.new-plan.ensures.tick ∙ sym c.new-works_plan.ensures.tick) (c.new-plan.ensures.kinds ∙ sym c.new-works_plan.ensures.kinds)
      (c.new-plan.ensures.start ∙ sym c.new-works_plan.ensures.start) (c.new-plan.ensures.groups ∙ sym c.new-works_plan.ensures.groups);
  of_backs = pass_of _ c.new-plan.result c.new-backs_plan.result _ (c.in_ok-backs.ensures.line) (c.in_ok-backs.ensures.plan) (c.new-plan.ensures.tick ∙ sym c.new-backs_plan.ensures.tick) (c.new-plan.ensures.kinds ∙ sym c.new-backs_plan.ensures.kinds)
      (c.new-plan.ensures.start ∙ sym c.new-backs_plan.ensures.start) (c.new-plan.ensures.groups ∙ sym c.new-backs_plan.ensures.groups);
  of_keepers = pass_of _ c.new-plan.result c.new-keepers_plan.result _ (ap (λ (s : PassShown Plan). s.line) c.another-last_pass.ensures.0 ∙ c.in_ok-keepers.ensures.line) (ap (λ (s : PassShown Plan). s.plan) c.another-last_pass.ensures.0 ∙ c.in_ok-keepers.ensures.plan) (c.new-plan.ensures.tick ∙ sym c.new-keepers_plan.ensures.tick) (c.new-plan.ensures.kinds ∙ sym c.new-keepers_plan.ensures.kinds)
      (c.new-plan.ensures.start ∙ sym c.new-keepers_plan.ensures.start) (c.new-plan.ensures.groups ∙ sym c.new-keepers_plan.ensures.groups);
}

pub returns-clause-desk : goal.returns-clause-desk
returns-clause-desk g c = plan_of c.new-plan.result c.args.kinds.now c.args.groups c.args.world.now c.new-plan.ensures.kinds c.new-plan.ensures.start c.new-plan.ensures.groups c.requires.groups c.requires.ready

pub returns-clause-last : goal.returns-clause-last
returns-clause-last g c =
    pass_of _ c.new-plan.result c.new-keepers_plan.result _ (ap (λ (s : PassShown Plan). s.line) c.another-last_pass.ensures.1 ∙ c.in_ok-keepers.ensures.line) (ap (λ (s : PassShown Plan). s.plan) c.another-last_pass.ensures.1 ∙ c.in_ok-keepers.ensures.plan) (c.new-plan.ensures.tick ∙ sym c.new-keepers_plan.ensures.tick) (c.new-plan.ensures.kinds ∙ sym c.new-keepers_plan.ensures.kinds)
    (c.new-plan.ensures.start ∙ sym c.new-keepers_plan.ensures.start) (c.new-plan.ensures.groups ∙ sym c.new-keepers_plan.ensures.groups)
