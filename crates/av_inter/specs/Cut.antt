-- Parts carved out of a world, one after the other.
use Rattle.std.specs.Prelude.{◌≡◌, ℕ, ◌<◌, List, [], Option, Some, None, true, false, length}
use Rattle.std.specs.List.{slice_get, All, AllPairs}
use Rattle.av_types.specs.declared.position.SectionPos.{SectionPos}
use Rattle.av_cells.specs.Grid.{Grid, among, only, over, is_here}
use Rattle.av_cells.specs.Positions.{same_section}
use Rattle.av_cluster.specs.Clusters.{sections_at}
use Rattle.av_world.specs.OutOf.{IsPartOf, mended}
use Rattle.av_cells.specs.World as cells
use Rattle.av_cells.specs.World.{Lists}
use Rattle.av_inter.specs.Out.{Out}
use Rattle.av_world.specs.Views.{grid, lists, height_of, positions_of}
use Rattle.av_world.specs.ParcelViews.{kept_grid, aside, blocks as parcel_blocks, lists as parcel_lists}
use Rattle.av_world.specs.declared.worlds.World.{World}
use Rattle.av_world.specs.declared.parcels.Parcel.{Parcel}

-- lists of sections that are there, no section in two of them or twice in one
pub record CanCut (g : Grid) (sections : List (List SectionPos)) : Type 0 where
  pub here : (n : ℕ) (s : SectionPos) → among (sections_at sections n) s ≡ true → is_here (g s) ≡ true
  pub apart : (m n : ℕ) (s : SectionPos) → among (sections_at sections m) s ≡ true → among (sections_at sections n) s ≡ true → m ≡ n
  pub once : (n : ℕ) → AllPairs (λ s t. same_section t s ≡ false) (sections_at sections n)

-- a parcel of the n-th list's sections, as they were in g
pub record IsCutOut (g : Grid) (w : World) (sections : List SectionPos) (c : Parcel) : Type 0 where
  pub kept : kept_grid c ≡ only (among sections) g
  pub nothing_aside : aside c ≡ []
  pub part : IsPartOf (height_of w) (positions_of w) (lists w) (parcel_blocks c) (parcel_lists c)

-- the sections of the first so many lists are in parcels, and all others are where they were
pub record AreCut (g : Grid) (sections : List (List SectionPos)) (w : World) (parcels : List (Option Parcel)) : Type 0 where
  pub out : (n : ℕ) → n < length parcels → (c : Parcel) × (slice_get parcels n ≡ Some (Some c)) × IsCutOut g w (sections_at sections n) c
  pub gone : (n : ℕ) (s : SectionPos) → n < length parcels → among (sections_at sections n) s ≡ true → grid w s ≡ None
  pub others : (s : SectionPos) → ((n : ℕ) → n < length parcels → among (sections_at sections n) s ≡ false) → grid w s ≡ g s

-- a slot whose parcel, if it is there, is a part of the world
abbrev pub HoldsPartOf : World → Option Parcel → Type 0
HoldsPartOf w None = Unit {0}
HoldsPartOf w (Some c) = IsPartOf (height_of w) (positions_of w) (lists w) (parcel_blocks c) (parcel_lists c)

abbrev pub ArePartsOf : World → List (Option Parcel) → Type 0
ArePartsOf w cs = All (HoldsPartOf w) cs

-- a grid with the sections of a slot's parcel put over its own
abbrev pub put_grid : Option Parcel → Grid → Grid
put_grid None g = g
put_grid (Some c) g = over (kept_grid c) g

-- a world with the blocks of a slot's parcel put over its own
abbrev pub put_blocks : Lists → Option Out → cells.World → cells.World
put_blocks l None w = w
put_blocks l (Some o) w = mended l o.blocks w
