-- The laws of reading and writing whole files.
use Rattle.std.specs.Prelude.{◌≡◌, ℕ, ◌<◌, ◌^◌, List, None, true}
use Rattle.std.specs.List.{list_any}
use Rattle.av_types.specs.Positions.{region_of}
use Rattle.av_types.specs.declared.position.ChunkPos.{ChunkPos}
use Rattle.av_document.specs.Law.{IsSameChunk}
use Rattle.av_types.specs.declared.position.Height.{Height}
use Rattle.av_state.specs.BlockState.{BlockState}
use Rattle.av_rules.specs.Rows.{BlockTable}
use Rattle.av_land.specs.Land.{Land, has_chunk}
use Rattle.av_files.specs.Files.{File}
use Rattle.av_region_files.specs.Regions.{same_region}
use Rattle.av_files.specs.Denotes.{Rest, Denotes}
use Rattle.av_files.specs.Layout.{Lights, layout, too_large}
use Rattle.av_files.specs.Lawful.{IsLawfulLand, AreLights}
use Rattle.av_land.specs.Resumed.{shifted}
use Rattle.av_types.specs.declared.position.RegionPos.{RegionPos}

abbrev pub StampsFit : Rest → Type 0
StampsFit r = (region : RegionPos) (i : ℕ) → r.stamp region i < 2 ^ 32

-- What is written of a world whose rest was read from files, denotes the world sooner by the ticks that were run, and the same rest.
abbrev pub LayoutDenotes : Type 0
LayoutDenotes = (t : BlockTable) (h : Height) (files : List File) (w v : Land BlockState) (r : Rest) (light : Lights) (n : ℕ)
    → Denotes h files w r → StampsFit r
    → v.height ≡ w.height → v.chunks ≡ w.chunks → IsLawfulLand v n → AreLights h light
    → too_large t v r light n ≡ None
    → Denotes h (layout t v r light n) (shifted n v) r

-- the same rest of chunks of these files, as far as it is written
pub record SameRest (h : Height) (w : Land BlockState) (r s : Rest) : Type 0 where
  pub regions : r.regions ≡ s.regions
  pub stamps : (region : RegionPos) → list_any (same_region region) r.regions ≡ true → (i : ℕ) → i < 1024 → r.stamp region i ≡ s.stamp region i
  pub kept : (c : ChunkPos) → list_any (same_region (region_of c)) r.regions ≡ true → r.kept c ≡ s.kept c
  pub chunks : (c : ChunkPos) → has_chunk w.chunks c ≡ true → IsSameChunk c h w.at w.at (w.lists c) (w.lists c) (r.chunk c) (s.chunk c)

-- Files denote one world at most, and one rest.
abbrev pub DenoteOne : Type 0
DenoteOne = (h : Height) (files : List File) (w v : Land BlockState) (r s : Rest) → Denotes h files w r → Denotes h files v s → (w ≡ v) × SameRest h w r s
