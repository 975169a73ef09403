-- The block light that a chunk's document has.
use Rattle.std.specs.Prelude.{ℕ, ◌+◌, ◌*◌, ◌/◌, ◌%◌, ◌==◌, ℤ, pos, ◌+ℤ◌, List, [], Option, Some, None, codes, length, nat_lt, if◌then◌else◌}
use Rattle.av_types.specs.declared.position.Height.{Height}
use Rattle.av_tags.specs.Nbt.{Nbt, NamedTag, byte_array}
use Rattle.av_tags.specs.ByName.{tag_of}
use Rattle.av_types.specs.Options.{◌>>=◌}
use Rattle.av_tags.specs.Shape.{items_of_list, or_else}
use Rattle.av_pack.specs.Nibbles.{nibble_at}
use Rattle.av_document.specs.Chunk.{numbered}
use Rattle.av_chunk.specs.Rest.{opened}

abbrev pub bytes_of : Nbt → Option (List ℕ)
bytes_of (byte_array s) = Some s
bytes_of _ = None

abbrev pub array_of : List NamedTag → Option (List ℕ)
array_of ms = tag_of (codes "BlockLight") ms >>= bytes_of

-- the List `sections`
abbrev pub sections_in : List NamedTag → List Nbt
sections_in root = or_else [] (tag_of (codes "sections") root >>= items_of_list)

-- the array `BlockLight` of the section of a number
abbrev pub array_at : List Nbt → ℤ → Option (List ℕ)
array_at sections y = numbered y (opened sections) >>= array_of

abbrev pub light_array : List NamedTag → ℤ → Option (List ℕ)
light_array root y = array_at (sections_in root) y

-- the level at a place; an array of another length than 2,048 bytes holds no light
abbrev pub level_in : Option (List ℕ) → ℕ → ℕ
level_in None place = 0
level_in (Some bytes) place = if length bytes == 2048 then nibble_at bytes place else 0

-- The light of a column's block, 0 where there is none and above the height. Columns of a chunk are counted from the north-west, row by row.
abbrev pub level_of : List NamedTag → Height → ℕ → ℕ → ℕ
level_of root h column k =
    if nat_lt k (16 * h.sections) then level_in (light_array root (h.min_section +ℤ pos (k / 16))) (256 * (k % 16) + column) else 0
