use Rattle.std.proofs.Common.{◌∙◌, ◌++◌, option_map, sym, ap, arith}
use Rattle.std.proofs.lemmas.List.Folds.{flat_map-map}
use Rattle.av_region.specs.Layout.{chunk_bytes}
use Rattle.av_region.proofs.Positions.{fails_everywhere}
use Rattle.av_region.proofs.Steps.{pieces_end}
use Rattle.av_region.proofs.writing.write_chunks.Goals as goal

pub write_chunk-requires : goal.write_chunk-requires
write_chunk-requires g c = fails_everywhere _ _ c.args.payloads.now c.loop-payload.payload-index c.payload-item.result c.requires (omega arith) c.payload-item.is

pub returns : goal.returns
returns g c =
    pieces_end (λ payload. chunk_bytes (option_map g.P.AsSlice.items payload)) c.args.payloads.now c.loop-payload.payload-index _ _ (omega arith) c.loop-payload.invariant
    ∙ ap (λ bytes. c.args.file.now.items ++ bytes) (sym (flat_map-map chunk_bytes (option_map g.P.AsSlice.items) c.args.payloads.now))
