-- Documents of a region file, and the rests that were read from them.
use Rattle.std.specs.Prelude.{ℕ, ◌≤◌, List, length}
use Rattle.av_types.specs.declared.position.Pos.{Pos}
use Rattle.av_types.specs.declared.position.ChunkPos.{ChunkPos}
use Rattle.av_types.specs.declared.position.Height.{Height}
use Rattle.av_types.specs.declared.tick.Entry.{Entry}
use Rattle.av_tags.specs.Nbt.{Document}
use Rattle.av_nbt.specs.Spelling.{SpellsDocument}
use Rattle.av_state.specs.BlockState.{BlockState}
use Rattle.av_document.specs.Chunk.{RestOfChunk, DenotesChunk}

-- a document that a region file's sectors can hold
pub record IsStored (d : Document) : Type 0 where
  pub bytes : List ℕ
  pub spelled : SpellsDocument d bytes
  pub few : length bytes ≤ 1044475

-- some such document is that of a loaded chunk with this rest
pub record WasRead (c : ChunkPos) (h : Height) (rest : RestOfChunk) : Type 0 where
  pub read : Document
  pub stored : IsStored read
  pub cells : Pos → BlockState
  pub water : List Entry
  pub denotes : DenotesChunk c h read cells water rest
