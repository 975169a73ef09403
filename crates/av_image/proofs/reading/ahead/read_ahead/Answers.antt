use Rattle.std.proofs.Common.{sym, subst}
use Rattle.std.specs.List.{All}
use Rattle.std.proofs.Crossing.{crosses}
use denote.Param.Send.{sendable}
use Rattle.av_state.specs.Table.{states}
use Rattle.av_image.proofs.Crossings.{table_sync, reading_send}
use Rattle.av_dealt.specs.Dealt.{IsTaken}
use Rattle.av_dealt.proofs.Given.{all_given}
use Rattle.av_image.specs.Ahead.{IsMadeBy}
use Rattle.av_image.proofs.reading.ahead.read_ahead.Goals as goal

pub map-requires-send-F : goal.map-requires-send-F
map-requires-send-F g c κs within = search (sendable, crosses, table_sync) depth 60 fits 20000

pub map-requires-sync-F : goal.map-requires-sync-F
map-requires-sync-F g c κs within = search (sendable, crosses, table_sync) depth 60 fits 20000

pub collect-requires-send-Self : goal.collect-requires-send-Self
collect-requires-send-Self g c κs within = search (sendable, crosses, table_sync) depth 60 fits 20000

pub map-requires-send-U : goal.map-requires-send-U
map-requires-send-U g c κs within = search (sendable, crosses, reading_send) depth 60 fits 20000

pub collect-requires-send-Self-Item : goal.collect-requires-send-Self-Item
collect-requires-send-Self-Item g c κs within = search (sendable, crosses, reading_send) depth 60 fits 20000

pub collect-requires-send-C : goal.collect-requires-send-C
collect-requires-send-C g c κs within = search (sendable, crosses, reading_send) depth 60 fits 20000

pub gathered-requires : goal.gathered-requires
gathered-requires g c =
    let b = c.args.batch.now in
    let made = IsTaken b.extent.count (IsMadeBy b (states c.args.table.now)) in
    let h = c.in_ok-all.ensures {u = tt} in
    subst (All made) (sym h.2) (all_given _ made (λ x y a. rw c.map.ensures.f at a) h.1.0 h.0 h.1.2)
