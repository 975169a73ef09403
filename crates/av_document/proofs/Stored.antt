-- What is written for a rest of which no more is known than that it was read from a stored document.
use Rattle.std.proofs.Common.{◌≡◌, ℕ, List, ℤ, Bool, true, length, map}
use Rattle.std.specs.List.{AllByRecursion}
use Rattle.std.proofs.Math.Logic.{∥∥₁_elim, ∥∥₁_map}
use Rattle.std.proofs.Props.{props}
use Rattle.av_types.specs.Positions.{is_section_of}
use Rattle.av_types.specs.declared.position.Pos.{Pos}
use Rattle.av_types.specs.declared.position.ChunkPos.{ChunkPos}
use Rattle.av_types.specs.declared.position.Height.{Height}
use Rattle.av_types.specs.declared.tick.Entry.{Entry}
use Rattle.av_tags.specs.Nbt.{Document}
use Rattle.av_nbt.specs.Writing.{IsWellFormed}
use Rattle.av_state.specs.BlockState.{BlockState}
use Rattle.av_document.specs.Chunk.{RestOfChunk, DenotesChunk}
use Rattle.av_document.specs.Layout.{chunk_layout}
use Rattle.av_document.specs.Law.{sooner, IsLawful, HasInts}
use Rattle.av_document.specs.Stored.{WasRead}
use Rattle.av_document.proofs.NbtSet.{Nbt-set, NamedTag-set}
use Rattle.av_document.proofs.Merely.{merely_well_formed}
use Rattle.av_document.proofs.Written.{written_is_denoted}
use Rattle.av_document.proofs.WellFormed.{written_is_well_formed}

-- it is well formed
pub was_read-well_formed : (c : ChunkPos) (h : Height) (now : Pos → BlockState) (then : List Entry) (sources : Pos → Bool) (rest : RestOfChunk) (light : ℤ → List ℕ) (n : ℕ)
    → ∥ WasRead c h rest ∥₁ → IsLawful c h now then → AllByRecursion (HasInts n) then → ((y : ℤ) → is_section_of h y ≡ true → length (light y) ≡ 2048)
    → IsWellFormed (chunk_layout c h now then sources rest light n)
was_read-well_formed c h now then sources rest light n read lawful ints lit =
    merely_well_formed (chunk_layout c h now then sources rest light n)
    (∥∥₁_map read (λ r. written_is_well_formed c h r.read r.stored.bytes r.cells now r.water then sources rest light n r.stored.spelled r.stored.few r.denotes lawful ints lit))

denotes-prop : (c : ChunkPos) (h : Height) (d : Document) (cells : Pos → BlockState) (water : List Entry) (rest : RestOfChunk) → IsProp (DenotesChunk c h d cells water rest)
denotes-prop c h d cells water rest = Prim.hlevel (props, Nbt-set, NamedTag-set)

-- and denotes the same rest
pub was_read-denotes : (c : ChunkPos) (h : Height) (now : Pos → BlockState) (then : List Entry) (sources : Pos → Bool) (rest : RestOfChunk) (light : ℤ → List ℕ) (n : ℕ)
    → ∥ WasRead c h rest ∥₁ → IsLawful c h now then → DenotesChunk c h (chunk_layout c h now then sources rest light n) now (map (sooner n) then) rest
was_read-denotes c h now then sources rest light n read lawful =
    ∥∥₁_elim read (denotes-prop c h (chunk_layout c h now then sources rest light n) now (map (sooner n) then) rest)
    (λ r. written_is_denoted c h r.read r.cells now r.water then sources rest light n (record { bytes = r.stored.bytes; spelled = r.stored.spelled }) r.denotes lawful)
