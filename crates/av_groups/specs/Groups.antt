-- The entries of a tick in groups, each with the chunks that its turns may touch.
use Rattle.std.specs.Prelude.{◌≡◌, ℕ, ◌<◌, ◌≤◌, ◌-◌, true, false, List, map, length, take, drop, slice_get, Some}
use Rattle.std.specs.List.{All, AllPairs, flat_map}
use Rattle.av_types.specs.declared.position.ChunkPos.{ChunkPos}
use Rattle.av_types.specs.declared.tick.Entry.{Entry}
use Rattle.av_cells.specs.Positions.{same_chunk}
use Rattle.av_land.specs.Land.{Land, has_chunk, is_loaded}
use Rattle.av_world.specs.Index.{slot}
use Rattle.av_groups.specs.declared.groups.Group.{Group}
use Rattle.av_groups.specs.declared.groups.Groups.{Groups}
use Rattle.av_groups.specs.declared.groups.Touch.{Touch}
use Rattle.av_groups.specs.Parts.{StaysIn}

-- the entries of a group, of all entries of its tick
abbrev pub entries_in : List Entry → Group → List Entry
entries_in es g = take (g.to - g.from) (drop g.from es)

-- the chunks that a group touches
abbrev pub touched : Group → List ChunkPos
touched g = map (λ t. t.chunk) g.touches.items

-- none of the groups numbered from a to b, without b, touches the chunk
abbrev pub NoneTouches : List Group → ℕ → ℕ → ChunkPos → Type 0
NoneTouches gs a b c = (j : ℕ) (g : Group) → a ≤ j → j < b → slice_get gs j ≡ Some g → has_chunk (touched g) c ≡ false

-- the chunk stands at its index
abbrev pub HasOwnIndex : List ChunkPos → Touch → Type 0
HasOwnIndex ps t = slice_get ps t.index ≡ Some t.chunk

-- The turns of group i stay in the chunks that it touches. Each of these was touched last before it by the group before `before`.
pub record IsGroup (w : Land ℕ) (es : List Entry) (gs : List Group) (i : ℕ) (g : Group) : Type 0 where
  pub within : (g.from ≤ g.to) × (g.to ≤ length es)
  pub distinct : AllPairs (λ c d. same_chunk c d ≡ false) (touched g)
  pub there : All (λ c. has_chunk w.chunks c ≡ true) (touched g)
  pub own_index : All (HasOwnIndex w.chunks) g.touches.items
  pub loaded : All (λ e. is_loaded w e.pos ≡ true) (entries_in es g)
  pub stay : All (StaysIn w (has_chunk (touched g))) (entries_in es g)
  pub behind : All (λ t. (t.before ≤ i) × NoneTouches gs t.before i t.chunk) g.touches.items

-- Each is a group of the entries. `last` has for each chunk, as the land lists them, a number from which on no group touches it.
pub record AreCut (w : Land ℕ) (es : List Entry) (gs : List Group) (last : List ℕ) : Type 0 where
  pub each : (i : ℕ) (g : Group) → slice_get gs i ≡ Some g → IsGroup w es gs i g
  pub long : length last ≡ length w.chunks
  pub behind : (c : ChunkPos) (m : ℕ) → slice_get last (slot w.chunks c) ≡ Some m → (m ≤ length gs) × NoneTouches gs m (length gs) c

-- the entries of a tick in their order, cut into groups
pub record AreGroups (w : Land ℕ) (gs : Groups) : Type 0 where
  pub entries_are : flat_map (entries_in gs.entries.items) gs.groups.items ≡ gs.entries.items
  pub cut : AreCut w gs.entries.items gs.groups.items gs.last.items
