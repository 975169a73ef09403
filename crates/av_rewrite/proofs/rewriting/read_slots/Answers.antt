use Rattle.av_state.specs.Table.{states}
use Rattle.av_rewrite.proofs.Reading.{one_more_slot}
use Rattle.av_rewrite.proofs.rewriting.read_slots.Goals as goal

pub loop-index-preserved : goal.loop-index-preserved
loop-index-preserved c =
    one_more_slot c.args.height c.args.region.now.bytes.now (states c.loop-index.table) (states c.read_slot.new.table) c.loop-index.index c.loop-index.slots.items c.push.new.self.items c.in_ok-read_slot.field-0
    c.in_ok-push.ensures.items c.in_ok-read_slot.ensures.table c.loop-index.invariant c.in_ok-read_slot.ensures.slot
