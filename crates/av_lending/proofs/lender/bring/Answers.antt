use Rattle.std.proofs.Common.{map, take, sym, ap, subst, ◌∙◌}
use Rattle.std.proofs.lemmas.List.{take_more}
use Rattle.std.proofs.lemmas.List.{map-append}
use Rattle.av_world.specs.Views.{positions_of}
use Rattle.av_groups.specs.declared.groups.Touch.{Touch}
use Rattle.av_lending.specs.Brought.{IsBringing}
use Rattle.av_lending.proofs.lender.bring.Goals as goal

pub loop-touch-preserved : goal.loop-touch-preserved
loop-touch-preserved c = λ w own_index long.
    let ts = c.args.touches.now in
    let i = c.loop-touch.touch-index in
    subst (λ cs. IsBringing (positions_of w) cs c.args.stage c.args.stages.now.items c.bring_one.new.stages.items)
    (sym (ap (map (λ (t : Touch). t.chunk)) (take_more ts i _ c.loop-touch-test.true) ∙ map-append (λ (t : Touch). t.chunk) (take i ts) _))
    (c.bring_one.ensures w (map (λ t. t.chunk) (take i ts)) c.args.stages.now.items (own_index i _ c.loop-touch-test.true) (c.loop-touch.invariant w own_index long))
