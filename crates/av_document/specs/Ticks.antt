-- The scheduled fluid ticks of a chunk, its `fluid_ticks` (minecraft.wiki, "Chunk format" and "Tick").
use Rattle.std.specs.Prelude.{ℕ, ℤ, List, [], ◌∷◌, ◌++◌, Option, Some, None, Bool, false, not, if◌then◌else◌, codes, length, ◌==◌, ◌&&◌, ◌||◌}
use Rattle.std.specs.Ordering.{int_eq}
use Rattle.std.specs.Str.{bytes_eq}
use Rattle.av_types.specs.Division.{divided}
use Rattle.av_types.specs.Positions.{is_block_of}
use Rattle.av_types.specs.declared.position.Pos.{Pos}
use Rattle.av_types.specs.declared.position.ChunkPos.{ChunkPos}
use Rattle.av_types.specs.declared.position.Height.{Height}
use Rattle.av_types.specs.declared.tick.Entry.{Entry}
use Rattle.av_tags.specs.Nbt.{NamedTag}
use Rattle.av_tags.specs.ByName.{tag_of}
use Rattle.av_types.specs.Options.{◌>>=◌}
use Rattle.av_tags.specs.Shape.{text_of, int_of, lacks, or_else}
use Rattle.av_ticks.specs.Entries.{is_pending}

-- a block of the chunk
abbrev pub lies_in : ChunkPos → Height → Pos → Bool
lies_in c h p = int_eq (divided p.x 16) c.x && int_eq (divided p.z 16) c.z && is_block_of h p.y

-- the Int of a name
abbrev pub int_at : List ℕ → List NamedTag → Option ℤ
int_at n ms = tag_of n ms >>= int_of

-- the fluid that a tick names
abbrev pub fluid_of : List NamedTag → Option (List ℕ)
fluid_of ms = tag_of (codes "i") ms >>= text_of

abbrev pub is_water_name : List ℕ → Bool
is_water_name s = bytes_eq s (codes "minecraft:water") || bytes_eq s (codes "minecraft:flowing_water")

-- besides the fluid just five numbers: the position, the ticks until it is due, and the priority
abbrev pub numbers_of : List NamedTag → Option Entry
numbers_of ms = do
  x ← int_at (codes "x") ms
  y ← int_at (codes "y") ms
  z ← int_at (codes "z") ms
  t ← int_at (codes "t") ms
  p ← int_at (codes "p") ms
  if length ms == 6 then Some (record { pos = record { x = x; y = y; z = z }; due = t; priority = p }) else None

-- the water entry that a tick is; all others are foreign
abbrev pub water_entry : List NamedTag → Option Entry
water_entry ms = if is_water_name (or_else [] (fluid_of ms)) then numbers_of ms else None

-- a water entry out of its chunk or of the height
abbrev pub is_outside : ChunkPos → Height → Option Entry → Bool
is_outside c h None = false
is_outside c h (Some e) = not (lies_in c h e.pos)

-- a tick without a fluid, or a water entry out of its chunk or of the height
abbrev pub is_bad_tick : ChunkPos → Height → List NamedTag → Bool
is_bad_tick c h ms = lacks (fluid_of ms) || is_outside c h (water_entry ms)

-- the first entry of a position stays
abbrev pub with_entry : List Entry → Option Entry → List Entry
with_entry found None = found
with_entry found (Some e) = if is_pending e.pos found then found else found ++ e ∷ []

-- the water entries, after those found before
abbrev pub with_water : List Entry → List (List NamedTag) → List Entry
with_water found [] = found
with_water found (ms ∷ ticks) = with_water (with_entry found (water_entry ms)) ticks

-- the ticks that are no water, as they are
abbrev pub foreign : List (List NamedTag) → List (List NamedTag)
foreign [] = []
foreign (ms ∷ ticks) = if lacks (water_entry ms) then ms ∷ foreign ticks else foreign ticks
