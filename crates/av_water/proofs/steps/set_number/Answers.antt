use Rattle.std.proofs.Common.{rules}
use Rattle.av_water.specs.Ready.{CanBeWet}
use Rattle.av_water.proofs.Readiness.{room_around, water_has_kind}
use Rattle.av_water.proofs.StepByStep.{around_set, turned_set}
use Rattle.av_water.proofs.steps.set_number.Goals as goal

pub set_awake_onto-requires : goal.set_awake_onto-requires
set_awake_onto-requires g c =
    let r = c.requires.ready in
    let can = turned_set (CanBeWet (g.C.Cells.world c.args.cells.now) (g.C.Cells.can_set c.args.cells.now)) c.args.pos c.args.target c.requires.target r.prepared in
    let around = room_around _ _ _ _ _ c.args.pos c.args.target r (around_set c.args.pos c.args.target c.requires.target) in
    (search rules, (c.requires.there, (can c.requires.there c.args.number c.requires.water, (around, (r.kinds, (water_has_kind c.args.kinds.now c.args.number c.requires.water, r.capacity))))))
