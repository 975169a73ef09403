-- The numbers of the types (minecraft.wiki, "NBT format").
use Rattle.std.specs.Prelude.{ℕ, List, [], ◌∷◌, Option, slice_get, Bool, true, false}
use Rattle.av_tags.specs.declared.tag.TagType.{TagType}
use Rattle.av_tags.specs.declared.tag.TagType.TheVariants as tag_type

abbrev pub type_number : TagType → ℕ
type_number tag_type.End = 0
type_number tag_type.Byte = 1
type_number tag_type.Short = 2
type_number tag_type.Int = 3
type_number tag_type.Long = 4
type_number tag_type.Float = 5
type_number tag_type.Double = 6
type_number tag_type.ByteArray = 7
type_number tag_type.Text = 8
type_number tag_type.List = 9
type_number tag_type.Compound = 10
type_number tag_type.IntArray = 11
type_number tag_type.LongArray = 12

-- the types by their numbers
abbrev pub tag_types : List TagType
tag_types = tag_type.End ∷ tag_type.Byte ∷ tag_type.Short ∷ tag_type.Int ∷ tag_type.Long ∷ tag_type.Float ∷ tag_type.Double ∷ tag_type.ByteArray ∷ tag_type.Text ∷ tag_type.List ∷ tag_type.Compound ∷ tag_type.IntArray ∷ tag_type.LongArray ∷ []

abbrev pub type_from : ℕ → Option TagType
type_from n = slice_get tag_types n

abbrev pub is_end : TagType → Bool
is_end tag_type.End = true
is_end _ = false

abbrev pub is_compound : TagType → Bool
is_compound tag_type.Compound = true
is_compound _ = false
