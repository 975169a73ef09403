-- The board of a flood: a chunk and 14 blocks on each horizontal side, over the whole height.
use Rattle.std.specs.Prelude.{◌-◌, ◌/◌, ◌%◌, ◌≡◌, ◌<◌, List, length, true, false, ℕ, ◌+◌, ◌*◌, pos, ◌+ℤ◌, ◌-ℤ◌, ◌*ℤ◌, Bool, ◌&&◌, if◌then◌else◌, slice_index, nat_le}
use Rattle.av_types.specs.Positions.{same_pos}
use Rattle.av_types.specs.declared.position.Pos.{Pos}
use Rattle.av_pack.specs.Nibbles.{nibble_at}
use Rattle.av_types.specs.declared.position.ChunkPos.{ChunkPos}
use Rattle.av_types.specs.declared.position.Height.{Height}
use Rattle.av_flood.specs.Offsets.{is_within, offset}
use Rattle.av_flood.specs.declared.board.Flood.{Flood}

-- the first block of the board
abbrev pub corner : ChunkPos → Height → Pos
corner c h = record { x = pos 16 *ℤ c.x -ℤ pos 14; y = pos 16 *ℤ h.min_section; z = pos 16 *ℤ c.z -ℤ pos 14 }

-- a block of the board
abbrev pub is_on : ChunkPos → Height → Pos → Bool
is_on c h p = is_within (corner c h).x 44 p.x && is_within (corner c h).z 44 p.z && is_within (corner c h).y (16 * h.sections) p.y

-- where its light stands, behind a layer of no blocks
abbrev pub index_of : ChunkPos → Height → Pos → ℕ
index_of c h p = 44 * (44 * (offset (p.y -ℤ (corner c h).y) + 1) + offset (p.z -ℤ (corner c h).z)) + offset (p.x -ℤ (corner c h).x)

-- it is none of the board
pub record IsOff (c : ChunkPos) (h : Height) (p : Pos) : Type 0 where
  pub off : is_on c h p ≡ false

-- its light stands there
pub record IsOnBoard (c : ChunkPos) (h : Height) (p : Pos) (i : ℕ) : Type 0 where
  pub on : is_on c h p ≡ true
  pub is : i ≡ index_of c h p
  pub less : i < 30976 * h.sections + 1936

-- what stands there, 0 beyond the board: from 128 on its light and 128, and below no light of so much or less is of use
abbrev pub raw_of : Flood → Pos → ℕ
raw_of f p = if is_on f.chunk f.height p then slice_index f.light.items (index_of f.chunk f.height p) else 0

-- the byte of a block: from 128 on its light, and 0 where it has none
abbrev pub byte_of : Flood → Pos → ℕ
byte_of f p = if nat_le 128 (raw_of f p) then raw_of f p else 0

-- a block was given this byte, and the others have theirs
abbrev pub IsSettled : (Pos → ℕ) → (Pos → ℕ) → Pos → ℕ → Type 0
IsSettled old new p n = (q : Pos) → new q ≡ (if same_pos q p then n else old q)

-- the light of a block: 0 beyond the board, and where none was settled
abbrev pub light_of : Flood → Pos → ℕ
light_of f p = byte_of f p - 128

-- whether a block has its light
abbrev pub is_settled : Flood → Pos → Bool
is_settled f p = nat_le 128 (byte_of f p)

-- how many have
abbrev pub settled_count : Flood → ℕ
settled_count f = f.count

-- the blocks of the chunk, x within z within y, the lowest layer first
abbrev pub own_block : ChunkPos → Height → ℕ → Pos
own_block c h j = record { x = pos 16 *ℤ c.x +ℤ pos (j % 16); y = pos 16 *ℤ h.min_section +ℤ pos (j / 256); z = pos 16 *ℤ c.z +ℤ pos (j / 16 % 16) }

-- and their light
abbrev pub light_at : Flood → ℕ → ℕ
light_at f j = light_of f (own_block f.chunk f.height j)

-- each half byte that is there is the light of its number
pub record HasLightSoFar (light : ℕ → ℕ) (bytes : List ℕ) : Type 0 where
  pub halves : (j : ℕ) → j < 2 * length bytes → nibble_at bytes j ≡ light j
