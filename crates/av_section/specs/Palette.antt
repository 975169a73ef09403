-- The palette of a section: a List of Compounds, each a `Name` and perhaps `Properties` (minecraft.wiki, "Chunk format").
use Rattle.std.specs.Prelude.{ℕ, nat_lt, length, List, [], ◌∷◌, Option, Some, None, Bool, ◌&&◌, ◌||◌, if◌then◌else◌, option_map, codes, map}
use Rattle.std.specs.List.{list_all}
use Rattle.std.specs.Str.{bytes_eq}
use Rattle.av_tags.specs.declared.tag.TagType.TheVariants as tag_type
use Rattle.av_tags.specs.Nbt.{Nbt, text, list, compound, NamedTag, members_of, items_of}
use Rattle.av_tags.specs.ByName.{tag_of}
use Rattle.av_types.specs.Options.{◌>>=◌}
use Rattle.av_tags.specs.Shape.{text_of, compound_of, items_of_list, each}
use Rattle.av_state.specs.BlockState.{BlockState, Property, in_order, storable}

abbrev pub name_key : List ℕ
name_key = codes "Name"

abbrev pub properties_key : List ℕ
properties_key = codes "Properties"

-- a property is a tag with a text
abbrev pub property_in : NamedTag → Option Property
property_in m = option_map (λ value. record { key = m.name; value = value }) (text_of m.tag)

-- no tag is no properties
abbrev pub properties_in : Option Nbt → Option (List Property)
properties_in None = Some []
properties_in (Some t) = do
  tags ← compound_of t
  properties ← each property_in tags
  Some (in_order properties)

abbrev pub is_of_entry : NamedTag → Bool
is_of_entry m = bytes_eq name_key m.name || bytes_eq properties_key m.name

-- what an entry's tags describe: a `Name`, perhaps `Properties`, and nothing else
abbrev pub described_state : List NamedTag → Option BlockState
described_state tags = do
  t ← tag_of name_key tags
  name ← text_of t
  properties ← properties_in (tag_of properties_key tags)
  if list_all is_of_entry tags then Some (record { name = name; properties = properties }) else None

-- the state of an entry's tags: what they describe, with texts of at most 65,535 bytes and no key twice, as in every tag that has a spelling
abbrev pub written_state : List NamedTag → Option BlockState
written_state tags = described_state tags >>= storable

-- the state of an entry, which is a Compound
abbrev pub state_in : Nbt → Option BlockState
state_in t = compound_of t >>= λ tags. written_state tags

abbrev pub states_if : Bool → List Nbt → Option (List BlockState)
states_if fits entries = if fits then each state_in entries else None

-- the 1 to 4,096 states of a palette, as they stand
abbrev pub palette_of : Option Nbt → Option (List BlockState)
palette_of None = None
palette_of (Some t) = items_of_list t >>= λ entries. states_if (nat_lt 0 (length entries) && nat_lt (length entries) 4097) entries

-- ---- written

abbrev pub property_tag : Property → NamedTag
property_tag p = record { name = p.key; tag = text p.value }

-- no tag where there is no property
abbrev pub properties_tags : List Property → List NamedTag
properties_tags [] = []
properties_tags (p ∷ ps) = record { name = properties_key; tag = compound (members_of (map property_tag (p ∷ ps))) } ∷ []

-- the entry of a state
abbrev pub state_tag : BlockState → Nbt
state_tag s = compound (members_of (record { name = name_key; tag = text s.name } ∷ properties_tags s.properties))

abbrev pub states_tag : List BlockState → Nbt
states_tag palette = list tag_type.Compound (items_of (map state_tag palette))
