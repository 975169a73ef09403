-- Stages of chunks, and how they change. Working definitions: no public clause cites them.
use Rattle.std.specs.Prelude.{◌≡◌, ℕ, true, false, ◌⊎◌, List, length, map, slice_index_or, Option, Some, None}
use Rattle.std.specs.List.{All}
use Rattle.av_types.specs.declared.position.ChunkPos.{ChunkPos}
use Rattle.av_land.specs.Land.{has_chunk}
use Rattle.av_world.specs.Views.{positions_of}
use Rattle.av_world.specs.declared.worlds.World.{World}
use Rattle.av_groups.specs.declared.groups.Group.{Group}
use Rattle.av_groups.specs.declared.groups.Touch.{Touch}
use Rattle.av_groups.specs.Groups.{HasOwnIndex}
use Rattle.av_lending.specs.Plans.{stage_of}

-- the chunk is as the groups before the touching one leave it
abbrev pub IsReadyAt : List (Option ℕ) → Touch → Type 0
IsReadyAt stages t = slice_index_or stages t.index None ≡ Some t.before

-- so is each chunk that the group touches
abbrev pub IsNext : List (Option ℕ) → Group → Type 0
IsNext stages g = All (IsReadyAt stages) g.touches.items

-- The chunks cs came to a stage, and all others are where they were. It tells of chunks of which a stage is known then.
abbrev pub CameTo : List ChunkPos → List ChunkPos → Option ℕ → List (Option ℕ) → List (Option ℕ) → Type 0
CameTo ps cs stage old new = (c : ChunkPos) (m : ℕ) → stage_of ps new c ≡ Some m
    → ((has_chunk cs c ≡ true) × (stage ≡ Some m)) ⊎ ((has_chunk cs c ≡ false) × (stage_of ps old c ≡ Some m))

-- they did, and there are as many stages as chunks
pub record IsBringing (ps cs : List ChunkPos) (stage : Option ℕ) (old new : List (Option ℕ)) : Type 0 where
  pub long : length new ≡ length ps
  pub came : CameTo ps cs stage old new

-- so brought are the chunks of some touches, in a world where they stand at their indices
abbrev pub AreBrought : List Touch → Option ℕ → List (Option ℕ) → List (Option ℕ) → Type 0
AreBrought ts stage old new = (w : World) → All (HasOwnIndex (positions_of w)) ts → length old ≡ length (positions_of w) → IsBringing (positions_of w) (map (λ t. t.chunk) ts) stage old new
