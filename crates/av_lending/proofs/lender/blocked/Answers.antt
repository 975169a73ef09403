use Rattle.std.proofs.Common.{All, take, sym, subst}
use Rattle.std.proofs.lemmas.List.{take_more, take_all}
use Rattle.std.proofs.lemmas.List.Elements.{All-push}
use Rattle.av_lending.specs.Brought.{IsReadyAt}
use Rattle.av_lending.proofs.lender.blocked.Goals as goal

pub loop-touch-preserved : goal.loop-touch-preserved
loop-touch-preserved c =
    let ts = c.args.touches.now in
    let i = c.loop-touch.touch-index in
    let ready = IsReadyAt c.args.stages.now in
    subst (All ready) (sym (take_more ts i _ c.loop-touch-test.true)) (All-push ready (take i ts) _ c.loop-touch.invariant (c.is_ready.ensures c.if-not-is_ready.false))

pub returns : goal.returns
returns c = subst (All (IsReadyAt c.args.stages.now)) (take_all c.loop-touch.touch-index c.args.touches.now c.loop-touch-test.false) c.loop-touch.invariant
