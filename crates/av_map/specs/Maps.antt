-- The picture of a world from above.
use Rattle.std.specs.Prelude.{◌≡◌, ◌≢◌, ℕ, ◌+◌, ◌*◌, ◌/◌, ◌%◌, ◌<◌, ◌≤◌, ℤ, pos, ◌+ℤ◌, ◌-ℤ◌, List, [], ◌∷◌, length, Option, Some, None, Bool, get_or, if◌then◌else◌, nat_abs, nat_le, ◌&&◌, int_lt, fold}
use Rattle.std.specs.List.{sum_by}
use Rattle.av_types.specs.Positions.{chunk_at}
use Rattle.av_types.specs.declared.fault.Fault.TheVariants.{OutOfMemory}
use Rattle.av_types.specs.declared.position.Height.{Height}
use Rattle.av_types.specs.declared.position.RegionPos.{RegionPos}
use Rattle.av_region.specs.Region.{IsShort}
use Rattle.av_region_files.specs.Regions.{same_region}
use Rattle.av_region_files.specs.declared.files.RegionFile.{RegionFile}
use Rattle.av_survey.specs.Listing.{IsList, IsListFault, in_order}
use Rattle.av_png.specs.Pictures.{rows_of, width_of}
use Rattle.av_map.specs.Colours.{NamedColour}
use Rattle.av_map.specs.Patches.{IsPatch}
use Rattle.av_map.specs.Pixels.{pixel_rows, count_unread}
use Rattle.av_map.specs.declared.bounds.Bounds.{Bounds}
use Rattle.av_map.specs.declared.drawing.Map.{Map}
use Rattle.av_map.specs.declared.patch.Patch.{Patch}
use Rattle.av_map.specs.declared.patch.Patch.TheVariants.{Clear}
use Rattle.av_map.specs.declared.refusal.Refusal.{Refusal}
use Rattle.av_map.specs.declared.refusal.Refusal.TheVariants.{Fault, Empty, TooWide}
use Rattle.av_map.specs.declared.view.View.{View}

-- ---- the rectangle that files fill, in regions

abbrev pub lesser : ℤ → ℤ → ℤ
lesser a b = if int_lt b a then b else a

abbrev pub greater : ℤ → ℤ → ℤ
greater a b = if int_lt a b then b else a

abbrev pub bounds_with : Bounds → RegionFile → Bounds
bounds_with b f = record { west = lesser b.west f.pos.x; east = greater b.east f.pos.x; north = lesser b.north f.pos.z; south = greater b.south f.pos.z }

-- those of one region
abbrev pub bounds_at : RegionPos → Bounds
bounds_at r = record { west = r.x; east = r.x; north = r.z; south = r.z }

abbrev pub bounds_of : RegionFile → List RegionFile → Bounds
bounds_of first more = fold bounds_with (bounds_at first.pos) more

-- how many regions from one coordinate to the other, both counted
abbrev pub span : ℤ → ℤ → ℕ
span low high = nat_abs (high -ℤ low) + 1

-- ---- the chunks of the rectangle, each by where it stands in it

-- the first of the files that is of this region
abbrev pub file_of : RegionPos → List RegionFile → Option RegionFile
file_of r [] = None
file_of r (f ∷ fs) = if same_region r f.pos then Some f else file_of r fs

-- the region of the chunk that stands x chunks east and z chunks south of the first, and its index there
abbrev pub region_at : Bounds → ℕ → ℕ → RegionPos
region_at b x z = record { x = b.west +ℤ pos (x / 32); z = b.north +ℤ pos (z / 32) }

abbrev pub index_at : ℕ → ℕ → ℕ
index_at x z = x % 32 + 32 * (z % 32)

-- What a chunk shows: nothing where no file has its region, or that is cut short, and else what stands at its index.
pub data Shows (view : View) (named : List NamedColour) (h : Height) (files : List RegionFile) (r : RegionPos) (index : ℕ) (patch : Patch) : Type 0 where
  no_file : file_of r files ≡ None → patch ≡ Clear → Shows view named h files r index patch
  short : (f : RegionFile) → file_of r files ≡ Some f → IsShort f.bytes.items → patch ≡ Clear → Shows view named h files r index patch
  whole : (f : RegionFile) → file_of r files ≡ Some f → ¬ IsShort f.bytes.items → IsPatch view named h f.bytes.items (chunk_at f.pos index) index patch → Shows view named h files r index patch

-- a row of so many chunks, of which each shows what it should
pub record IsPatchRow (view : View) (named : List NamedColour) (h : Height) (files : List RegionFile) (b : Bounds) (z count : ℕ) (row : List Patch) : Type 0 where
  pub count_is : length row ≡ count
  pub each : (x : ℕ) → x < count → Shows view named h files (region_at b x z) (index_at x z) (get_or row x Clear)

-- so many rows
pub record ArePatches (view : View) (named : List NamedColour) (h : Height) (files : List RegionFile) (b : Bounds) (width height : ℕ) (rows : List (List Patch)) : Type 0 where
  pub count_is : length rows ≡ height
  pub each_row : (z : ℕ) → z < height → IsPatchRow view named h files b z width (get_or rows z [])

-- ---- the map

-- a file cut short
abbrev pub is_short : RegionFile → Bool
is_short f = nat_le 1 (length f.bytes.items) && nat_le (length f.bytes.items) 8191

abbrev pub short_in : RegionFile → ℕ
short_in f = if is_short f then 1 else 0

abbrev pub width_of_bounds : Bounds → ℕ
width_of_bounds b = span b.west b.east

abbrev pub height_of_bounds : Bounds → ℕ
height_of_bounds b = span b.north b.south

-- The map of files in the rectangle of these bounds: a pixel for each column, 512 by 512 for a region.
pub record IsMapOf (view : View) (named : List NamedColour) (h : Height) (files : List RegionFile) (b : Bounds) (m : Map) : Type 0 where
  pub patches : List (List Patch)
  pub are_patches : ArePatches view named h files b (32 * width_of_bounds b) (32 * height_of_bounds b) patches
  pub width : width_of m.picture ≡ 512 * width_of_bounds b
  pub pixels : rows_of m.picture ≡ pixel_rows patches (512 * width_of_bounds b) (512 * height_of_bounds b)
  pub unread : m.unread_chunks ≡ count_unread patches
  pub short : m.short_files ≡ sum_by short_in files

-- a picture of these bounds has at most 16,384 pixels a side
pub record IsDrawable (b : Bounds) : Type 0 where
  pub narrow : width_of_bounds b ≤ 32
  pub low : height_of_bounds b ≤ 32

-- The map of a list without a fault: of the rectangle that the files fill.
pub record IsMap (view : View) (named : List NamedColour) (h : Height) (files : List RegionFile) (m : Map) : Type 0 where
  pub good : IsList files
  pub first : RegionFile
  pub more : List RegionFile
  pub split : in_order files ≡ first ∷ more
  pub drawable : IsDrawable (bounds_of first more)
  pub map_of : IsMapOf view named h (first ∷ more) (bounds_of first more) m

-- why there is no map, of a list without a fault
pub record IsTooWide (files : List RegionFile) : Type 0 where
  pub good : IsList files
  pub first : RegionFile
  pub more : List RegionFile
  pub split : in_order files ≡ first ∷ more
  pub wide : ¬ IsDrawable (bounds_of first more)

abbrev pub IsRefused : List RegionFile → Refusal → Type 0
IsRefused files (Fault e) = e ≢ OutOfMemory → IsListFault files e
IsRefused files Empty = IsList files × (in_order files ≡ [])
IsRefused files TooWide = IsTooWide files
