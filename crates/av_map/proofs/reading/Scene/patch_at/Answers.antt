use Rattle.av_types.specs.Positions.{chunk_at}
use Rattle.av_region.specs.Region.{Holds}
use Rattle.av_codec.proofs.Found.{if_ok_then}
use Rattle.av_survey.specs.Survey.{sectors}
use Rattle.av_map.specs.Patches.{unread}
use Rattle.av_map.specs.Views.{colours_of}
use Rattle.av_map.proofs.Denoted.{patch_from}
use Rattle.av_map.proofs.reading.Scene.patch_at.Goals as goal

pub returns-in-Err : goal.returns-in-Err
returns-in-Err c = if_ok_then c.unread.result c.unread.ensures (λ patch is. unread c.in-Err.fault (sectors c.in-Err.ensures.err) is.1)

pub returns-in-Ok-Some : goal.returns-in-Ok-Some
returns-in-Ok-Some c =
    let s = c.args.self.now in
    let holds : Holds c.args.region.now.bytes.now c.args.index c.in-Ok-Some.payload.now = rw c.in-Ok-Some.field-0-is at c.in-Ok-Some.ensures.ok in
    if_ok_then c.read_patch.result (rw c.chunk_at.ensures at c.read_patch.ensures)
    (λ patch is. patch_from s.view (colours_of s.colours.now) s.height c.args.region.now.bytes.now c.in-Ok-Some.payload.now (chunk_at c.args.pos c.args.index) c.args.index patch holds is)
