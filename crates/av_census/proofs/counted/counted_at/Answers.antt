use Rattle.av_types.specs.Positions.{chunk_at}
use Rattle.av_region.specs.Region.{Holds}
use Rattle.av_codec.proofs.Found.{if_ok_then}
use Rattle.av_census.proofs.Chunks.{counted_there, broken_there}
use Rattle.av_census.proofs.counted.counted_at.Goals as goal

pub returns-in_default : goal.returns-in_default
returns-in_default c = broken_there c.args.height c.args.region.now.bytes.now (chunk_at c.args.pos c.args.index) c.args.index c.in_default.field-0 c.in_default.ensures.err

pub returns : goal.returns
returns c =
    let holds : Holds c.args.region.now.bytes.now c.args.index c.in-Some.payload.now = rw c.in-Some.is at c.in-Ok.ensures.ok in
    if_ok_then c.counted_in.result (rw c.chunk_at.ensures at c.counted_in.ensures)
    (λ counted i. counted_there c.args.height c.args.region.now.bytes.now c.in-Some.payload.now (chunk_at c.args.pos c.args.index) c.args.index counted holds i)
