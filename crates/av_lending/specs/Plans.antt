-- A tick in groups, and the worlds that are lent for them.
use Rattle.std.specs.Prelude.{◌≡◌, ℕ, false, List, length, take, slice_get, slice_index_or, Option, Some, None}
use Rattle.std.specs.List.{flat_map}
use Rattle.av_types.specs.Positions.{chunk_of}
use Rattle.av_types.specs.declared.position.Pos.{Pos}
use Rattle.av_types.specs.declared.position.ChunkPos.{ChunkPos}
use Rattle.av_rules.specs.Kinds.{kind_count}
use Rattle.av_rules.specs.declared.kinds.Kinds.{Kinds}
use Rattle.av_cells.specs.Kinds.{kinds_of}
use Rattle.av_cells.specs.Rule.{HasKinds}
use Rattle.av_land.specs.Land.{Land, has_chunk, is_loaded}
use Rattle.av_land.specs.Tick.{turned_all, without_due}
use Rattle.av_world.specs.Index.{slot}
use Rattle.av_world.specs.Lands.{land_of}
use Rattle.av_world.specs.Views.{blocks, height_of, positions_of, is_broken}
use Rattle.av_world.specs.declared.worlds.World.{World}
use Rattle.av_serial.specs.Ready.{IsReady, HasSameChunks}
use Rattle.av_types.specs.declared.tick.Entry.{Entry}
use Rattle.av_groups.specs.declared.groups.Group.{Group}
use Rattle.av_groups.specs.declared.groups.Groups.{Groups}
use Rattle.av_groups.specs.Groups.{entries_in, touched, AreGroups}
use Rattle.av_groups.specs.Parts.{IsPart}
use Rattle.av_lending.specs.declared.plans.Plan.{Plan}

abbrev pub groups_of : Plan → List Group
groups_of p = p.groups.value.groups.items

-- all entries of the tick
abbrev pub entries_of : Plan → List Entry
entries_of p = p.groups.value.entries.items

abbrev pub kinds_in : Plan → Kinds
kinds_in p = p.kinds.value

-- the land with which the turns begin: entries that are due are still in their lists
abbrev pub start_of : Plan → Land ℕ
start_of p = land_of p.start.value

-- the land after what is due left its lists, and the first m groups were turned
abbrev pub after : Plan → ℕ → Land ℕ
after p m = turned_all (kinds_of (kinds_in p)) p.tick (flat_map (entries_in (entries_of p)) (take m (groups_of p))) (without_due p.tick (start_of p))

-- the world is ready, and the groups are those of a tick's entries
pub record IsPlan (p : Plan) : Type 0 where
  pub ready : IsReady (kind_count (kinds_in p)) p.start.value
  pub groups : AreGroups (start_of p) p.groups.value

-- the plan is one of these kinds and groups
pub record IsPlanOf (p : Plan) (k : Kinds) (gs : Groups) : Type 0 where
  pub kinds_are : k ≡ kinds_in p
  pub groups_are : gs ≡ p.groups.value
  pub is_plan : IsPlan p

-- The world u has of the chunks that group i touches what the land has after the first m groups, and no other chunk. Entries that are
-- due may still be in their lists.
pub record IsLentAfter (p : Plan) (i m : ℕ) (u : World) : Type 0 where
  pub group : Group
  pub is : slice_get (groups_of p) i ≡ Some group
  pub chunks : (c : ChunkPos) → has_chunk (positions_of u) c ≡ has_chunk (touched group) c
  pub part : IsPart (has_chunk (touched group)) (after p m) (without_due p.tick (land_of u))
  pub height_is : height_of u ≡ height_of p.start.value
  pub ready : IsReady (kind_count (kinds_in p)) u

-- chunk c of the world w is as it is after the first m groups, but entries that are due may still be in its list
pub record IsAtStage (p : Plan) (m : ℕ) (w : World) (c : ChunkPos) : Type 0 where
  pub at : (q : Pos) → chunk_of q ≡ c → (blocks w).number q ≡ (after p m).at q
  pub loaded : (q : Pos) → chunk_of q ≡ c → (blocks w).loaded q ≡ is_loaded (start_of p) q
  pub list : (without_due p.tick (land_of w)).lists c ≡ (after p m).lists c

-- after how many groups a chunk is, as `stages` tells it of the chunks ps
abbrev pub stage_of : List ChunkPos → List (Option ℕ) → ChunkPos → Option ℕ
stage_of ps stages c = slice_index_or stages (slot ps c) None

-- `stages` has for each chunk of the world after how many groups it is, and None where it may be lent
pub record IsUnderWay (p : Plan) (w : World) (stages : List (Option ℕ)) : Type 0 where
  pub height_is : height_of w ≡ height_of p.start.value
  pub positions_are : positions_of w ≡ positions_of p.start.value
  pub broken_is : is_broken w ≡ is_broken p.start.value
  pub long : length stages ≡ length (positions_of p.start.value)
  pub numbers : HasKinds (kind_count (kinds_in p)) (blocks w)
  pub absent : (c : ChunkPos) → has_chunk (positions_of p.start.value) c ≡ false → IsAtStage p 0 w c
  pub known : (c : ChunkPos) (m : ℕ) → stage_of (positions_of p.start.value) stages c ≡ Some m → IsAtStage p m w c

-- the world w is what all groups leave of the one with which they began, but entries that are due may still be in their lists
pub record IsFinished (p : Plan) (w : World) : Type 0 where
  pub land_is : without_due p.tick (land_of w) ≡ after p (length (groups_of p))
  pub ready : IsReady (kind_count (kinds_in p)) w
  pub chunks : HasSameChunks p.start.value w
