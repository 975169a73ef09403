use Rattle.av_state.specs.Table.{states}
use Rattle.av_rewrite.specs.Rewriting.{AreSlots}
use Rattle.av_rewrite.proofs.rewriting.read_slots.Given as goal

abbrev pub invariant-loop-index : goal.invariant-loop-index
invariant-loop-index l = AreSlots l.height l.region.bytes.now (states l.table) l.index l.slots.items
