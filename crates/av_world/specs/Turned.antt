-- Where a turn reaches. Working definitions: no public clause cites them.
use Rattle.std.specs.Prelude.{ℕ, ◌<◌, ◌≤◌, length, ◌+ℤ◌, ◌-ℤ◌, pos, List, [], ◌∷◌, All, IsTrue}
use Rattle.av_types.specs.Positions.{chunk_of, section_of}
use Rattle.av_types.specs.declared.position.Pos.{Pos}
use Rattle.av_types.specs.declared.water.Direction.TheVariants.{North, South, West, East}
use Rattle.av_cells.specs.Positions.{step, below}
use Rattle.av_world.specs.Index.{slot}
use Rattle.av_world.specs.Views.{blocks, positions_of, room, CanSetAt}
use Rattle.av_world.specs.declared.worlds.World.{World}

-- the blocks at the corners of a block's reach
abbrev pub corners : Pos → List Pos
corners p =
    record { x = p.x -ℤ pos 5; y = p.y -ℤ pos 2; z = p.z -ℤ pos 5 }
    ∷ record { x = p.x +ℤ pos 5; y = p.y -ℤ pos 2; z = p.z -ℤ pos 5 }
    ∷ record { x = p.x -ℤ pos 5; y = p.y -ℤ pos 2; z = p.z +ℤ pos 5 }
    ∷ record { x = p.x +ℤ pos 5; y = p.y -ℤ pos 2; z = p.z +ℤ pos 5 }
    ∷ record { x = p.x -ℤ pos 5; y = p.y +ℤ pos 1; z = p.z -ℤ pos 5 }
    ∷ record { x = p.x +ℤ pos 5; y = p.y +ℤ pos 1; z = p.z -ℤ pos 5 }
    ∷ record { x = p.x -ℤ pos 5; y = p.y +ℤ pos 1; z = p.z +ℤ pos 5 }
    ∷ record { x = p.x +ℤ pos 5; y = p.y +ℤ pos 1; z = p.z +ℤ pos 5 }
    ∷ []

-- the blocks that a turn may set
abbrev pub turned : Pos → List Pos
turned p = p ∷ below p ∷ step p North ∷ step p South ∷ step p West ∷ step p East ∷ []

-- where a block is loaded, so many entries more of its chunk take no memory
abbrev pub HasRoomAt : World → ℕ → Pos → Type 0
HasRoomAt w n p = IsTrue ((blocks w).loaded p) → n ≤ room w (chunk_of p)

-- where a block's chunk is there, so many entries more of it take no memory
abbrev pub HasChunkRoom : World → ℕ → Pos → Type 0
HasChunkRoom w n p = slot (positions_of w) (chunk_of p) < length (positions_of w) → n ≤ room w (chunk_of p)

-- where a block is loaded, it can be set to these numbers without memory
abbrev pub CanSetAll : World → List ℕ → Pos → Type 0
CanSetAll w ns p = IsTrue ((blocks w).loaded p) → All (CanSetAt w (section_of p)) ns
