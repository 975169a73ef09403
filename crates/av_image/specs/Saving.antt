-- What a world is written as, and what the caller of `save` sees to.
use Rattle.std.specs.Int.{w32}
use Rattle.std.specs.Int.RustNames.{FitsSigned}
use Rattle.std.specs.Prelude.{◌≡◌, ◌<◌, ℕ, ℤ, pos, ◌-ℤ◌, List, length, Option, Some, None, Bool, true, false, map, slice_get, replicate}
use Rattle.std.specs.List.{All}
use Rattle.av_types.specs.Water.{is_source}
use Rattle.av_types.specs.Positions.{IsInLimits, chunk_at}
use Rattle.av_types.specs.declared.position.Pos.{Pos}
use Rattle.av_types.specs.declared.position.Height.{Height}
use Rattle.av_types.specs.declared.position.ChunkPos.{ChunkPos}
use Rattle.av_types.specs.declared.fault.Fault.{Fault}
use Rattle.av_types.specs.declared.fault.Fault.TheVariants.{Broken, ChunkTooLarge}
use Rattle.av_state.specs.BlockState.{BlockState}
use Rattle.av_state.specs.Table.{states}
use Rattle.av_rules.specs.Kinds.{table_in, wet_at, kind_count}
use Rattle.av_rules.specs.declared.kinds.Kinds.{Kinds}
use Rattle.av_chunk.specs.Light.{section_count}
use Rattle.av_codec.specs.Writing.{light_of}
use Rattle.av_chunk.specs.declared.light.ChunkLight.{ChunkLight}
use Rattle.av_land.specs.Land.{Land, is_loaded, has_chunk}
use Rattle.av_world.specs.Index.{slot}
use Rattle.av_world.specs.Lands.{land_of, IsUncarved}
use Rattle.av_world.specs.Views.{height_of, positions_of, lists, is_broken}
use Rattle.av_world.specs.declared.worlds.World.{World}
use Rattle.av_files.specs.Files.{File, regions_rise}
use Rattle.av_files.specs.Layout.{Lights, layout_by, too_large_by}
use Rattle.av_files.specs.Run.{stated}
use Rattle.av_image.specs.declared.rest.Slot.{Slot}
use Rattle.av_image.specs.declared.rest.Slot.TheVariants.{Absent, Kept, Loaded}
use Rattle.av_image.specs.declared.rest.RegionRest.{RegionRest}
use Rattle.av_image.specs.declared.rest.Rest.{Rest}
use Rattle.av_image.specs.Views.{rest_in}

-- ---- the world and its light, as files have them

-- the world of the states that a table of kinds numbers
abbrev pub states_in : Kinds → World → Land BlockState
states_in k w = stated (states (table_in k)) (land_of w)

-- which of its blocks hold a source
abbrev pub sources_in : Kinds → World → Pos → Bool
sources_in k w p = is_source (wet_at k ((land_of w).at p))

-- a section without light
unfoldable pub dark : List ℕ
dark = replicate 2048 0

abbrev pub section_light : Height → Option ChunkLight → ℤ → List ℕ
section_light h None y = dark
section_light h (Some l) y = light_of l h y

-- the light of each chunk, from lights in the order of a world's chunks; dark where there is none
abbrev pub lights_in : World → List ChunkLight → Lights
lights_in w ls c y = section_light (height_of w) (slice_get ls (slot (positions_of w) c)) y

-- The files that are written.
abbrev pub saved : World → Rest → Kinds → List ChunkLight → ℕ → List File
saved w r k ls n = layout_by (sources_in k w) (states_in k w) (rest_in r) (lights_in w ls) n

-- The first chunk that is too large for them.
abbrev pub unsaved : World → Rest → Kinds → List ChunkLight → ℕ → Option ChunkPos
unsaved w r k ls n = too_large_by (sources_in k w) (states_in k w) (rest_in r) (lights_in w ls) n

-- why nothing is written, but for want of memory
pub data IsSaveFault (w : World) (r : Rest) (k : Kinds) (ls : List ChunkLight) (n : ℕ) (e : Fault) : Type 0 where
  broken : is_broken w ≡ true → e ≡ Broken → IsSaveFault w r k ls n e
  large : is_broken w ≡ false → (c : ChunkPos) → unsaved w r k ls n ≡ Some c → e ≡ ChunkTooLarge c → IsSaveFault w r k ls n e

-- ---- what the caller sees to

-- a slot at a position, of a world of this height with these chunks
abbrev pub IsSlotOf : Height → List ChunkPos → ChunkPos → Slot → Type 0
IsSlotOf h cs c Absent = has_chunk cs c ≡ false
IsSlotOf h cs c (Kept p) = has_chunk cs c ≡ false
IsSlotOf h cs c (Loaded r) = (has_chunk cs c ≡ true) × (r.pos ≡ c) × (r.height ≡ h)

pub record IsRegionOf (h : Height) (cs : List ChunkPos) (r : RegionRest) : Type 0 where
  pub limits : IsInLimits r.pos
  pub stamps : length r.stamps.items ≡ 1024
  pub slots : length r.slots.items ≡ 1024
  pub each : (i : ℕ) (s : Slot) → slice_get r.slots.items i ≡ Some s → IsSlotOf h cs (chunk_at r.pos i) s

-- A rest of a world of this height with these chunks: what is loaded in the one is so in the other. It is so of what `load`
-- answers, and stays so while chunks stay loaded.
pub record IsRestOf (h : Height) (cs : List ChunkPos) (r : Rest) : Type 0 where
  pub rise : regions_rise (map (λ x. x.pos) r.regions.items) ≡ true
  pub each : All (IsRegionOf h cs) r.regions.items

-- A world that can be written: no section is out, each number is in the table, each entry's time fits an Int after the ticks, and there
-- is a light of all sections for each chunk.
pub record CanSave (w : World) (k : Kinds) (ls : List ChunkLight) (n : ℕ) : Type 0 where
  pub whole : IsUncarved w
  pub numbered : (p : Pos) → is_loaded (land_of w) p ≡ true → (land_of w).at p < kind_count k
  pub due : (c : ChunkPos) → All (λ e. FitsSigned w32 (e.due -ℤ pos n)) (lists w c)
  pub lights : length ls ≡ length (positions_of w)
  pub lit : All (λ l. section_count l ≡ (height_of w).sections) ls
