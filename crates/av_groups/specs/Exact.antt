-- The numbers of groups by chunk are those of groups that touch the chunk.
use Rattle.std.specs.Prelude.{◌≡◌, ℕ, ◌+◌, true, List, slice_get, Some}
use Rattle.std.specs.List.{All}
use Rattle.av_types.specs.declared.position.ChunkPos.{ChunkPos}
use Rattle.av_land.specs.Land.{Land, has_chunk}
use Rattle.av_world.specs.Index.{slot}
use Rattle.av_groups.specs.declared.groups.Group.{Group}
use Rattle.av_groups.specs.Groups.{touched}

-- group j touches the chunk
pub record IsTouchedBy (gs : List Group) (c : ChunkPos) (j : ℕ) : Type 0 where
  pub group : Group
  pub found : slice_get gs j ≡ Some group
  pub touches : has_chunk (touched group) c ≡ true

-- m is 0, or one more than the number of a group that touches the chunk
abbrev pub IsExact : List Group → ChunkPos → ℕ → Type 0
IsExact gs c m = (j : ℕ) → m ≡ j + 1 → IsTouchedBy gs c j

-- So are the numbers in groups and those in `last`. With AreGroups they are those of the last groups that touch the chunks.
pub record AreExact (w : Land ℕ) (gs : List Group) (last : List ℕ) : Type 0 where
  pub before : (i : ℕ) (g : Group) → slice_get gs i ≡ Some g → All (λ t. IsExact gs t.chunk t.before) g.touches.items
  pub after : (c : ChunkPos) (m : ℕ) → slice_get last (slot w.chunks c) ≡ Some m → IsExact gs c m
