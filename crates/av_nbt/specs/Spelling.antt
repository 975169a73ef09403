-- The bytes that a tag is spelled by (minecraft.wiki, "NBT format").
-- An empty List has several spellings: its length may be 0 or negative, and its type any.
use Rattle.std.specs.Prelude.{◌≡◌, ℕ, ◌<◌, ◌≤◌, ◌^◌, ℤ, pos, negsuc, List, [], ◌∷◌, ◌++◌, length}
use Rattle.std.specs.Int.{Width, w8, w16, w32, w64, to_be_bytes, cast_unsigned}
use mir.Val.{bits}
use Rattle.std.specs.Int.RustNames.{FitsSigned}
use Rattle.av_tags.specs.declared.tag.TagType.TheVariants as tag_type
use Rattle.av_tags.specs.TagTypes.{type_number}
use Rattle.av_tags.specs.Nbt.{Nbt, byte, int16, int, int64, bits32, bits64, byte_array, text, list, compound, int_array, long_array, Items, no_items, item, Members, no_members, member, Document, tag_type_of, item_count, AreOf, HaveDistinctNames, depth}

-- a signed number, the highest byte first
pub record SpellsNumber (w : Width) (z : ℤ) (bytes : List ℕ) : Type 0 where
  pub fits : FitsSigned w z
  pub is : bytes ≡ to_be_bytes w (cast_unsigned w z)

-- numbers one after the other
abbrev pub SpellsNumbers : Width → List ℤ → List ℕ → Type 0
SpellsNumbers w [] bytes = bytes ≡ []
SpellsNumbers w (z ∷ zs) bytes = (front rest : List ℕ) × (bytes ≡ front ++ rest) × SpellsNumber w z front × SpellsNumbers w zs rest

-- a length below 2 ^ 16, and that many bytes
pub record SpellsText (s : List ℕ) (bytes : List ℕ) : Type 0 where
  pub short : length s < 2 ^ 16
  pub is : bytes ≡ to_be_bytes w16 (length s) ++ s

-- a number without a sign
abbrev pub SpellsBits : Width → ℕ → List ℕ → Type 0
SpellsBits w n bytes = (n < 2 ^ bits w) × (bytes ≡ to_be_bytes w n)

-- how many items a list of this length has
abbrev pub count_of : ℤ → ℕ
count_of (pos n) = n
count_of (negsuc n) = 0

-- A payload by cases on its tag.
abbrev mutual
  pub Spells : Nbt → List ℕ → Type 0
  Spells (byte z) bytes = SpellsNumber w8 z bytes
  Spells (int16 z) bytes = SpellsNumber w16 z bytes
  Spells (int z) bytes = SpellsNumber w32 z bytes
  Spells (int64 z) bytes = SpellsNumber w64 z bytes
  Spells (bits32 n) bytes = SpellsBits w32 n bytes
  Spells (bits64 n) bytes = SpellsBits w64 n bytes
  Spells (byte_array s) bytes = (len : List ℕ) × (bytes ≡ len ++ s) × SpellsNumber w32 (pos (length s)) len
  Spells (text s) bytes = SpellsText s bytes
  Spells (list e ts) bytes = (size : ℤ) × (len rest : List ℕ) × (bytes ≡ type_number e ∷ (len ++ rest)) × SpellsNumber w32 size len × (count_of size ≡ item_count ts) × AreOf e ts × SpellsItems ts rest
  Spells (compound ms) bytes = HaveDistinctNames ms × SpellsMembers ms bytes
  Spells (int_array zs) bytes = (len rest : List ℕ) × (bytes ≡ len ++ rest) × SpellsNumber w32 (pos (length zs)) len × SpellsNumbers w32 zs rest
  Spells (long_array zs) bytes = (len rest : List ℕ) × (bytes ≡ len ++ rest) × SpellsNumber w32 (pos (length zs)) len × SpellsNumbers w64 zs rest

  pub SpellsItems : Items → List ℕ → Type 0
  SpellsItems no_items bytes = bytes ≡ []
  SpellsItems (item t ts) bytes = (front rest : List ℕ) × (bytes ≡ front ++ rest) × Spells t front × SpellsItems ts rest

  -- named tags, and a 0 byte
  pub SpellsMembers : Members → List ℕ → Type 0
  SpellsMembers no_members bytes = bytes ≡ 0 ∷ []
  SpellsMembers (member n t ms) bytes = (name front rest : List ℕ) × (bytes ≡ type_number (tag_type_of t) ∷ (name ++ (front ++ rest))) × SpellsText n name × Spells t front × SpellsMembers ms rest

-- a whole file: one named Compound within the limit of depth
pub record SpellsDocument (d : Document) (bytes : List ℕ) : Type 0 where
  pub name : List ℕ
  pub body : List ℕ
  pub parts : bytes ≡ type_number tag_type.Compound ∷ (name ++ body)
  pub named : SpellsText d.name name
  pub tags : Spells (compound d.members) body
  pub shallow : depth (compound d.members) ≤ 512
