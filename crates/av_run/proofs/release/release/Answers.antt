-- Slots may be given back by other threads.
use Rattle.std.proofs.Crossing.{crosses}
use denote.Param.Send.{sendable}
use Rattle.av_run.proofs.Crossings.{slot_send}
use Rattle.av_run.proofs.release.release.Goals as goal

pub with_min_len-requires-in-loop-region-send-Self : goal.with_min_len-requires-in-loop-region-send-Self
with_min_len-requires-in-loop-region-send-Self g c κs = search (sendable, crosses, slot_send) depth 60 fits 20000

pub with_min_len-requires-in-loop-region-send-Self-Item : goal.with_min_len-requires-in-loop-region-send-Self-Item
with_min_len-requires-in-loop-region-send-Self-Item g c κs = search (sendable, crosses, slot_send) depth 60 fits 20000

pub for_each-requires-in-loop-region-send-Self : goal.for_each-requires-in-loop-region-send-Self
for_each-requires-in-loop-region-send-Self g c κs = search (sendable, crosses, slot_send) depth 60 fits 20000

pub for_each-requires-in-loop-region-send-Self-Item : goal.for_each-requires-in-loop-region-send-Self-Item
for_each-requires-in-loop-region-send-Self-Item g c κs = search (sendable, crosses, slot_send) depth 60 fits 20000
