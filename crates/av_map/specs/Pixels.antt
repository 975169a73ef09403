-- The pixels that columns give, from the patches of chunks that stand side by side.
use Rattle.std.specs.Prelude.{ℕ, ◌+◌, ◌-◌, ◌*◌, ◌/◌, ◌%◌, ◌==◌, List, [], map, Option, Some, None, nat_lt, get_or, if◌then◌else◌}
use Rattle.std.specs.List.{range_with_len, sum_by}
use Rattle.av_png.specs.declared.picture.Pixel.{Pixel}
use Rattle.av_map.specs.declared.colour.Colour.{Colour}
use Rattle.av_map.specs.declared.patch.Patch.{Patch}
use Rattle.av_map.specs.declared.patch.Patch.TheVariants.{Clear, Unread, Shown}
use Rattle.av_map.specs.declared.sight.Sight.{Sight}

-- ---- one pixel

-- a quarter of the way to white, and a quarter of the way to black
abbrev pub brighter : Colour → Colour
brighter c = record { red = c.red + (255 - c.red) / 4; green = c.green + (255 - c.green) / 4; blue = c.blue + (255 - c.blue) / 4 }

abbrev pub darker : Colour → Colour
darker c = record { red = c.red - c.red / 4; green = c.green - c.green / 4; blue = c.blue - c.blue / 4 }

-- a slope by the height of the column to the north: brighter where that is lower, darker where it is higher
abbrev pub on_slope : ℕ → ℕ → Colour → Colour
on_slope top north c = if nat_lt north top then brighter c else if nat_lt top north then darker c else c

-- plain where nothing is seen to the north
abbrev pub shaded : Sight → Option Sight → Colour
shaded s None = s.colour
shaded s (Some north) = if s.is_sloped then on_slope s.top north.top s.colour else s.colour

abbrev pub opaque : Colour → Pixel
opaque c = record { red = c.red; green = c.green; blue = c.blue; alpha = 255 }

abbrev pub clear : Pixel
clear = record { red = 0; green = 0; blue = 0; alpha = 0 }

-- a column's pixel, from what it and the one to the north show
abbrev pub painted : Option Sight → Option Sight → Pixel
painted None north = clear
painted (Some s) north = opaque (shaded s north)

-- ---- all pixels

-- what a column of a chunk shows
abbrev pub column_of : Patch → ℕ → Option Sight
column_of Clear i = None
column_of Unread i = None
column_of (Shown sights) i = get_or sights.items i None

-- what the column at pixel (x, z) shows, from rows of patches, 16 by 16 pixels each
abbrev pub column_at : List (List Patch) → ℕ → ℕ → Option Sight
column_at patches x z = column_of (get_or (get_or patches (z / 16) []) (x / 16) Clear) (16 * (z % 16) + x % 16)

-- nothing is seen north of the picture
abbrev pub north_of : List (List Patch) → ℕ → ℕ → Option Sight
north_of patches x z = if z == 0 then None else column_at patches x (z - 1)

abbrev pub pixel_at : List (List Patch) → ℕ → ℕ → Pixel
pixel_at patches x z = painted (column_at patches x z) (north_of patches x z)

abbrev pub pixel_row : List (List Patch) → ℕ → ℕ → List Pixel
pixel_row patches width z = map (λ x. pixel_at patches x z) (range_with_len 0 width)

-- the picture of that width and height, row by row from the north, each row from the west
abbrev pub pixel_rows : List (List Patch) → ℕ → ℕ → List (List Pixel)
pixel_rows patches width height = map (pixel_row patches width) (range_with_len 0 height)

-- ---- chunks that are not read

abbrev pub unread_in : Patch → ℕ
unread_in Clear = 0
unread_in Unread = 1
unread_in (Shown sights) = 0

abbrev pub count_unread : List (List Patch) → ℕ
count_unread patches = sum_by (λ row. sum_by unread_in row) patches
