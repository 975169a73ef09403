-- What payloads of a region are read as before its indices are read. Working definitions: no public clause cites them.
use Rattle.std.specs.Prelude.{◌+◌, ℕ, List}
use Rattle.av_types.specs.Positions.{chunk_at}
use Rattle.av_types.specs.declared.position.ChunkPos.{ChunkPos}
use Rattle.av_types.specs.declared.position.Height.{Height}
use Rattle.av_region.specs.Region.{Holds}
use Rattle.av_state.specs.BlockState.{BlockState}
use Rattle.av_codec.specs.Payload.{IsPayloadReading}
use Rattle.av_image.specs.declared.reading.batch.Batch.{Batch}
use Rattle.av_chunk.specs.declared.chunk.Reading.{Reading}

-- what the payload at an index of a file is read as, as the chunk of a position, by a table that gains no state
pub record IsMadeAt (h : Height) (table : List BlockState) (file : List ℕ) (c : ChunkPos) (i : ℕ) (r : Reading) : Type 0 where
  pub payload : List ℕ
  pub holds : Holds file i payload
  pub made : IsPayloadReading c h payload table table r

-- the same at an offset of a batch
abbrev pub IsMadeBy : Batch → List BlockState → ℕ → Reading → Type 0
IsMadeBy b table offset r = IsMadeAt b.height table b.region.bytes.now (chunk_at b.pos (b.first + offset)) (b.first + offset) r
