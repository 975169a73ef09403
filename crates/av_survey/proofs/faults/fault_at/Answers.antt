use Rattle.av_types.specs.Positions.{chunk_at}
use Rattle.av_region.specs.Region.{Holds}
use Rattle.av_codec.proofs.Found.{if_ok_then}
use Rattle.av_survey.proofs.Gathering.{first_at}
use Rattle.av_survey.proofs.faults.fault_at.Goals as goal

pub returns-in-Ok-Some : goal.returns-in-Ok-Some
returns-in-Ok-Some c =
    let holds : Holds c.args.region.now.bytes.now c.args.index c.in-Ok-Some.payload.now = rw c.in-Ok-Some.field-0-is at c.in-Ok-Some.ensures.ok in
    if_ok_then c.fault_in.result (rw c.chunk_at.ensures at c.fault_in.ensures)
    (λ o first. first_at c.args.height c.args.region.now.bytes.now c.in-Ok-Some.payload.now (chunk_at c.args.pos c.args.index) c.args.index o holds first)
