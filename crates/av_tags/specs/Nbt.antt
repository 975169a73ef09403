-- What a tag is (minecraft.wiki, "NBT format"), apart from where it lies in memory.
-- Texts are bytes, a Float is a number of 32 bits and a Double one of 64.
use Rattle.std.specs.Prelude.{◌≡◌, ◌≢◌, ℕ, suc, max, ℤ, List, [], ◌∷◌}
use Rattle.av_tags.specs.declared.tag.TagType.{TagType}
use Rattle.av_tags.specs.declared.tag.TagType.TheVariants as tag_type

mutual
  pub data Nbt : Type 0 where
    byte : ℤ → Nbt
    int16 : ℤ → Nbt
    int : ℤ → Nbt
    int64 : ℤ → Nbt
    bits32 : ℕ → Nbt
    bits64 : ℕ → Nbt
    byte_array : List ℕ → Nbt
    text : List ℕ → Nbt
    list : TagType → Items → Nbt
    compound : Members → Nbt
    int_array : List ℤ → Nbt
    long_array : List ℤ → Nbt

  pub data Items : Type 0 where
    no_items : Items
    item : Nbt → Items → Items

  pub data Members : Type 0 where
    no_members : Members
    member : List ℕ → Nbt → Members → Members

-- a tag under a name
pub record NamedTag : Type 0 where
  pub name : List ℕ
  pub tag : Nbt

-- a whole document
pub record Document : Type 0 where
  pub name : List ℕ
  pub members : Members

abbrev pub tag_type_of : Nbt → TagType
tag_type_of (byte z) = tag_type.Byte
tag_type_of (int16 z) = tag_type.Short
tag_type_of (int z) = tag_type.Int
tag_type_of (int64 z) = tag_type.Long
tag_type_of (bits32 n) = tag_type.Float
tag_type_of (bits64 n) = tag_type.Double
tag_type_of (byte_array s) = tag_type.ByteArray
tag_type_of (text s) = tag_type.Text
tag_type_of (list e ts) = tag_type.List
tag_type_of (compound ms) = tag_type.Compound
tag_type_of (int_array zs) = tag_type.IntArray
tag_type_of (long_array zs) = tag_type.LongArray

-- a list's items and a compound's members, as lists
abbrev pub items_of : List Nbt → Items
items_of [] = no_items
items_of (t ∷ ts) = item t (items_of ts)

abbrev pub members_of : List NamedTag → Members
members_of [] = no_members
members_of (m ∷ ms) = member m.name m.tag (members_of ms)

abbrev pub item_count : Items → ℕ
item_count no_items = 0
item_count (item t ts) = suc (item_count ts)

abbrev pub names : Members → List (List ℕ)
names no_members = []
names (member n t ms) = n ∷ names ms

-- each item is of the type
abbrev pub AreOf : TagType → Items → Type 0
AreOf e no_items = Unit {0}
AreOf e (item t ts) = (tag_type_of t ≡ e) × AreOf e ts

-- no name is there twice
abbrev pub LacksMember : List ℕ → Members → Type 0
LacksMember n no_members = Unit {0}
LacksMember n (member m t ms) = (n ≢ m) × LacksMember n ms

abbrev pub HaveDistinctNames : Members → Type 0
HaveDistinctNames no_members = Unit {0}
HaveDistinctNames (member n t ms) = LacksMember n ms × HaveDistinctNames ms

-- how deep lists and compounds nest
abbrev mutual
  pub depth : Nbt → ℕ
  depth (list e ts) = suc (items_depth ts)
  depth (compound ms) = suc (members_depth ms)
  depth _ = 0

  pub items_depth : Items → ℕ
  items_depth no_items = 0
  items_depth (item t ts) = max (depth t) (items_depth ts)

  pub members_depth : Members → ℕ
  members_depth no_members = 0
  members_depth (member n t ms) = max (depth t) (members_depth ms)
