-- Loaded blocks of a world lie in its height and within the limits of regions. Working lemmas: no public clause cites them.
use Rattle.std.specs.Prelude.{ℕ, ℤ, ◌*◌, ◌<◌, pos, negsuc, ◌+ℤ◌, ◌*ℤ◌, ◌≤ℤ◌, ◌<ℤ◌, List, length, IsTrue}
use Rattle.std.proofs.Common.{arith, subst}
use Rattle.std.proofs.lemmas.Int.{ints}
use Rattle.av_types.specs.Division.{divided}
use Rattle.av_types.specs.Positions.{chunk_of, section_of, region_of, IsInLimits}
use Rattle.av_types.specs.declared.position.Pos.{Pos}
use Rattle.av_types.specs.declared.position.ChunkPos.{ChunkPos}
use Rattle.av_types.specs.declared.position.Height.{Height}
use Rattle.av_chunk.specs.declared.chunk.Chunk.{Chunk}
use Rattle.av_cells.specs.Grid.{cells_of}
use Rattle.av_flood.specs.Blocks.{IsNear}
use Rattle.av_world.specs.Index.{slot}
use Rattle.av_world.specs.Lawful.{IsWorld}
use Rattle.av_world.specs.Near.{is_world_section, slot_at, low_end, high_end, le_and_lt}
use Rattle.av_world.specs.Sections.{grid_of}

lowest : (m y : ℤ) → m ≤ℤ divided y 16 → (pos 16 *ℤ m) ≤ℤ y
lowest m (pos n) h = omega (arith, ints)
lowest m (negsuc n) h = omega (arith, ints)

highest : (m y : ℤ) (count : ℕ) → divided y 16 <ℤ (m +ℤ pos count) → y <ℤ (pos 16 *ℤ m +ℤ pos (16 * count))
highest m (pos n) count h = omega (arith, ints)
highest m (negsuc n) count h = omega (arith, ints)

pub blocks_near : (h : Height) (ps : List ChunkPos) (cs : List Chunk) → IsWorld h ps cs → (p : Pos) → IsTrue ((cells_of (grid_of h ps cs)).loaded p) → IsNear h p
blocks_near h ps cs w p t =
    let of_world = is_world_section h ps cs w.parallel (section_of p) t in
    let within : slot ps (chunk_of p) < length ps = of_world.chunk in
    let near : IsInLimits (region_of (chunk_of p)) =
    subst (λ c. IsInLimits (region_of c)) (slot_at ps (chunk_of p) (chunk_of p) within) (w.limits (slot ps (chunk_of p)) (chunk_of p) within) in
    let high = le_and_lt h.min_section (divided p.y 16) (divided p.y 16) (h.min_section +ℤ pos h.sections) of_world.high in
    record {
      west = low_end p.x near.west;
      east = high_end p.x near.east;
      north = low_end p.z near.north;
      south = high_end p.z near.south;
      low = lowest h.min_section p.y high.0;
      high = highest h.min_section p.y h.sections high.1;
    }
