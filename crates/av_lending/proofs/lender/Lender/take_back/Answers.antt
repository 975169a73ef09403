use Rattle.std.proofs.Common.{◌∙◌, ◌+◌, List, All, length, map, slice_get, sym, ap, subst, Some}
use Rattle.av_world.specs.Views.{positions_of}
use Rattle.av_groups.specs.declared.groups.Group.{Group}
use Rattle.av_groups.specs.declared.groups.Groups.{Groups}
use Rattle.av_groups.specs.declared.groups.Touch.{Touch}
use Rattle.av_groups.specs.Groups.{HasOwnIndex}
use Rattle.av_lending.specs.Brought.{IsBringing}
use Rattle.av_lending.proofs.Chunks.{its_group}
use Rattle.av_lending.proofs.Ends.{back_there, goes_on}
use Rattle.av_lending.proofs.lender.Lender.take_back.Goals as goal

pub take_back-requires-clause-there : goal.take_back-requires-clause-there
take_back-requires-clause-there c = back_there c.args.plan.now c.requires.plan.is_plan c.args.number c.args.world.now c.args.world.now c.args.back c.args.self.now c.requires.under_way c.requires.turned

pub returns : goal.returns
returns c =
    let p = c.args.plan.now in
    let g = c.requires.turned.group in
    let same = its_group c.args.groups.now.groups.items c.args.number g c.index.result.now (ap (λ (gs : Groups). slice_get gs.groups.items c.args.number) c.requires.plan.groups_are ∙ c.requires.turned.is) c.index.ensures in
    let ps = positions_of p.start.value in
    let ts = c.as_slice-touches.ensures.value ∙ ap (λ (h : Group). h.touches.items) same in
    goes_on p c.requires.plan.is_plan c.args.number c.args.world.now c.take_back.new.self c.args.back c.args.self.now c.requires.under_way c.requires.turned c.take_back.ensures c.bring.new.stages.items
    (subst (λ (us : List Touch). IsBringing ps (map (λ t. t.chunk) us) (Some (c.args.number + 1)) c.args.self.now c.bring.new.stages.items) ts
    (subst (λ old. IsBringing ps (map (λ (t : Touch). t.chunk) c.as_slice-touches.result.now) (Some (c.args.number + 1)) old c.bring.new.stages.items) c.self.view_is
    (c.bring.ensures p.start.value (subst (All (HasOwnIndex ps)) (sym ts) (c.requires.plan.is_plan.groups.cut.each c.args.number g c.requires.turned.is).own_index) (ap length c.self.view_is ∙ c.requires.under_way.long))))
