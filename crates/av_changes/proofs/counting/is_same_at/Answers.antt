use Rattle.std.proofs.Common.{◌∙◌, sym}
use Rattle.av_changes.proofs.Indices.{IsRead, read_is, same_reads, shared}
use Rattle.av_changes.proofs.counting.is_same_at.Goals as goal

pub returns : goal.returns
returns c =
    let index = c.args.index in
    let a = c.args.old.now.bytes.now in
    let b = c.args.new.now.bytes.now in
    let read_a : IsRead a index c.payload.result = record { absent = c.payload.ensures.absent; held = c.payload.ensures.held } in
    let read_b : IsRead b index c.payload-2.result = record { absent = c.payload-2.ensures.absent; held = c.payload-2.ensures.held } in (
      λ is. same_reads a b index c.in-Ok.old c.in-Ok-payload.new c.in-Ok.ensures.ok c.in-Ok-payload.ensures.ok (c.is_same_payload.ensures.0 is),
      λ same.
          let one = shared a b index same in
          c.is_same_payload.ensures.1
          (read_is a index c.payload.result c.in-Ok.old one.0 read_a c.in-Ok.is one.1
          ∙ sym (read_is b index c.payload-2.result c.in-Ok-payload.new one.0 read_b c.in-Ok-payload.is one.2)),
    )
