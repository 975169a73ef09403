use Rattle.std.proofs.Common.{subst}
use Rattle.std.proofs.lemmas.Option.{IfSome_then}
use Rattle.av_state.specs.Table.{states}
use Rattle.av_codec.specs.Payload.{IsPayloadReading}
use Rattle.av_image.proofs.reading.ahead.BatchReaderMaker.make.Goals as goal

pub returns : goal.returns
returns c =
    let b = c.args.self.now.batch.now in
    let t = states c.args.self.now.table.now in
    let payload = c.in-Some.payload.now in
    IfSome_then c.known.result c.known.ensures (λ r made. record {
      payload = payload;
      holds = c.in-Some.ensures.holds;
      made = subst (λ at. IsPayloadReading at b.height payload t t r) c.chunk_at-at.ensures made;
    })
