-- The bytes that a tag is written as (minecraft.wiki, "NBT format"): of its spellings, the one whose empty Lists have length 0.
use Rattle.std.specs.Prelude.{ℕ, ◌<◌, ◌^◌, ℤ, List, [], ◌∷◌, ◌++◌, length}
use Rattle.std.specs.List.{flat_map}
use Rattle.std.specs.Int.{Width, w8, w16, w32, w64, to_be_bytes, cast_unsigned}
use Rattle.av_tags.specs.declared.tag.TagType.TheVariants as tag_type
use Rattle.av_tags.specs.TagTypes.{type_number}
use Rattle.av_tags.specs.Nbt.{Nbt, byte, int16, int, int64, bits32, bits64, byte_array, text, list, compound, int_array, long_array, Items, no_items, item, Members, no_members, member, NamedTag, Document, tag_type_of, item_count}
use Rattle.av_nbt.specs.Spelling.{SpellsDocument}

abbrev pub signed_bytes : Width → ℤ → List ℕ
signed_bytes w z = to_be_bytes w (cast_unsigned w z)

abbrev pub text_bytes : List ℕ → List ℕ
text_bytes s = to_be_bytes w16 (length s) ++ s

abbrev mutual
  pub written : Nbt → List ℕ
  written (byte z) = signed_bytes w8 z
  written (int16 z) = signed_bytes w16 z
  written (int z) = signed_bytes w32 z
  written (int64 z) = signed_bytes w64 z
  written (bits32 n) = to_be_bytes w32 n
  written (bits64 n) = to_be_bytes w64 n
  written (byte_array s) = to_be_bytes w32 (length s) ++ s
  written (text s) = text_bytes s
  written (list e ts) = type_number e ∷ (to_be_bytes w32 (item_count ts) ++ written_items ts)
  written (compound ms) = written_members ms
  written (int_array zs) = to_be_bytes w32 (length zs) ++ flat_map (signed_bytes w32) zs
  written (long_array zs) = to_be_bytes w32 (length zs) ++ flat_map (signed_bytes w64) zs

  pub written_items : Items → List ℕ
  written_items no_items = []
  written_items (item t ts) = written t ++ written_items ts

  pub written_members : Members → List ℕ
  written_members no_members = 0 ∷ []
  written_members (member n t ms) = type_number (tag_type_of t) ∷ (text_bytes n ++ (written t ++ written_members ms))

-- a tag under a name
abbrev pub written_named : NamedTag → List ℕ
written_named m = type_number (tag_type_of m.tag) ∷ (text_bytes m.name ++ written m.tag)

abbrev pub written_document : Document → List ℕ
written_document d = type_number tag_type.Compound ∷ (text_bytes d.name ++ written_members d.members)

-- it has a spelling
pub record IsWellFormed (d : Document) : Type 0 where
  pub bytes : List ℕ
  pub spelled : SpellsDocument d bytes

-- each length fits its place
abbrev mutual
  pub Fits : Nbt → Type 0
  Fits (byte_array s) = length s < 2 ^ 31
  Fits (text s) = length s < 2 ^ 16
  Fits (list e ts) = (item_count ts < 2 ^ 31) × FitItems ts
  Fits (compound ms) = FitMembers ms
  Fits (int_array zs) = length zs < 2 ^ 31
  Fits (long_array zs) = length zs < 2 ^ 31
  Fits _ = Unit {0}

  pub FitItems : Items → Type 0
  FitItems no_items = Unit {0}
  FitItems (item t ts) = Fits t × FitItems ts

  pub FitMembers : Members → Type 0
  FitMembers no_members = Unit {0}
  FitMembers (member n t ms) = (length n < 2 ^ 16) × Fits t × FitMembers ms
