use Rattle.std.proofs.Common.{◌∙◌, All, subst, arith}
use Rattle.std.proofs.lemmas.List.Elements.{All-weaker}
use Rattle.av_world.specs.Views.{positions_of}
use Rattle.av_groups.specs.Open.{IsTouched, IsCovered, chunks_in_reach}
use Rattle.av_groups.proofs.Touched.{noted_at, noted_more}
use Rattle.av_groups.proofs.cutting.touch_reach.Goals as goal

pub returns-then-is_noted-clause-covered : goal.returns-then-is_noted-clause-covered
returns-then-is_noted-clause-covered c = c.requires.noted c.slot_of-slot.result c.args.reach (noted_at c.args.noted.now c.slot_of-slot.result c.args.reach (c.is_noted.ensures c.if-is_noted.true))

pub returns-clause-covered : goal.returns-clause-covered
returns-clause-covered c =
    let ps = positions_of c.args.world.now in
    let old = c.args.touches.now.items in
    let new = c.touch_all.new.touches.items in
    All-weaker (IsTouched ps old new) (IsCovered ps new) (λ d t. t.touched) (chunks_in_reach c.args.reach) (subst (All (IsTouched ps old new)) (c.as_slice.ensures ∙ c.chunks_of-chunks.ensures) c.in_ok-touch_all.ensures.touched)

pub returns-clause-noted : goal.returns-clause-noted
returns-clause-noted c =
    let ps = positions_of c.args.world.now in
    let old = c.args.touches.now.items in
    let new = c.touch_all.new.touches.items in
    let touched = subst (All (IsTouched ps old new)) (c.as_slice.ensures ∙ c.chunks_of-chunks.ensures) c.in_ok-touch_all.ensures.touched in
    noted_more ps old new c.args.noted.now c.slot_of-slot.result c.args.reach (λ d h. (touched 0 c.args.reach.north_west (omega arith)).kept d h) (returns-clause-covered c) c.requires.noted
