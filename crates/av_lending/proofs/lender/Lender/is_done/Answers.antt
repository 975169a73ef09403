use Rattle.std.proofs.Common.{◌∙◌, map, sym, ap, Some}
use Rattle.av_groups.specs.declared.groups.Groups.{Groups}
use Rattle.av_lending.proofs.Ends.{finished}
use Rattle.av_lending.proofs.lender.Lender.is_done.Goals as goal

pub returns-then-self-eq0 : goal.returns-then-self-eq0
returns-then-self-eq0 c = λ done. finished c.args.plan.now c.requires.plan.is_plan c.args.world.now c.args.self.now c.requires.under_way
    (sym c.self.view_is ∙ sym c.as_slice.ensures.value ∙ c.are_at.ensures done ∙ ap (map Some) (c.as_slice-then-self-eq0.ensures.value ∙ ap (λ (gs : Groups). gs.last.items) c.requires.plan.groups_are))
