use Rattle.std.proofs.Common.{sym}
use Rattle.std.proofs.lemmas.Option.{slice_get_within}
use Rattle.av_world.specs.Views.{positions_of}
use Rattle.av_world.proofs.ChunkReads.{slot_of_index}
use Rattle.av_light.proofs.finding.slot.Goals as goal

pub returns-in-Some : goal.returns-in-Some
returns-in-Some c =
    let w = c.args.world.now in let found = c.in-Some.ensures.found in
    sym (slot_of_index (positions_of w) c.args.at c.in-Some.index w.lawful.rising (slice_get_within (positions_of w) c.in-Some.index c.args.at found) found)
