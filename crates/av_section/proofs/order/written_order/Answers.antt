-- One more place finds its number.
use Rattle.av_section.proofs.FirstPlaces.{written_more}
use Rattle.av_section.proofs.order.written_order.Goals as goal

pub loop-index-preserved : goal.loop-index-preserved
loop-index-preserved c =
    let says = c.in_ok-written_index.ensures in
    written_more c.args.palette.now c.args.indices.now c.loop-index.seen.items c.loop-index.numbers.items c.loop-index.found.items _ _ _ c.loop-index.index-index c.in_ok-written_index.field-0 c.loop-index-test.true c.loop-index.invariant says.knows says.numbers says.bound says.found c.in_ok-push.ensures.items
