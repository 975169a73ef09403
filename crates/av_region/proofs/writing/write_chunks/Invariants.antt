use Rattle.std.proofs.Common.{◌≡◌, ◌++◌, drop, option_map}
use Rattle.std.specs.List.{flat_map}
use Rattle.av_region.specs.Layout.{chunk_bytes}
use Rattle.av_region.proofs.writing.write_chunks.Given as goal

abbrev pub invariant-loop-payload : goal.invariant-loop-payload
invariant-loop-payload g l =
    l.file.items ++ flat_map (λ payload. chunk_bytes (option_map g.P.AsSlice.items payload)) (drop l.payload-index l.payloads)
    ≡ l.initial.file.items ++ flat_map (λ payload. chunk_bytes (option_map g.P.AsSlice.items payload)) l.payloads
