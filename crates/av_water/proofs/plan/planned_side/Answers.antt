use Rattle.std.proofs.Common.{ap, ◌∙◌, IsTrue, sym, subst}
use Rattle.av_cells.specs.Kinds.{kinds_of}
use Rattle.av_cells.specs.Rule.{incoming_at}
use Rattle.av_cells.specs.Turn.{number_of_wet}
use Rattle.av_water.proofs.Plans.{chosen_is_loaded, plan_some}
use Rattle.av_water.proofs.plan.planned_side.Goals as goal

pub incoming-requires-clause-loaded : goal.incoming-requires-clause-loaded
incoming-requires-clause-loaded g c =
    subst (λ q. IsTrue ((g.C.Cells.world c.args.cells.now).loaded q)) (sym c.step-side.ensures) (chosen_is_loaded (kinds_of c.args.kinds.now) (g.C.Cells.world c.args.cells.now) c.args.pos c.args.direction (sym c.requires.chosen ∙ c.if-not-chosen.false))

pub returns : goal.returns
returns g c =
    plan_some _ _ _ _ _ (sym c.requires.chosen ∙ c.if-not-chosen.false)
    (c.number_of_wet.ensures.is ∙ ap number_of_wet (c.incoming.ensures.is ∙ ap (incoming_at (kinds_of c.args.kinds.now) (g.C.Cells.world c.args.cells.now)) c.step-side.ensures)) c.number_of_wet.ensures.bound
