-- What has a spelling fits, and what is written of it is a spelling.
use Rattle.std.proofs.Common.{◌≡◌, ℕ, ℤ, pos, negsuc, suc, ◌<◌, ◌^◌, List, [], ◌∷◌, length, refl, ap, subst, arith}
use Rattle.std.specs.List.{flat_map}
use Rattle.std.specs.Int.{Width, w32, w64, to_be_bytes}
use Rattle.std.specs.Int.RustNames.{FitsSigned}
use Rattle.av_tags.specs.Nbt.{Nbt, byte, int16, int, int64, bits32, bits64, byte_array, text, list, compound, int_array, long_array, Items, no_items, item, Members, no_members, member, Document, items_of, item_count}
use Rattle.av_nbt.specs.Spelling.{Spells, SpellsItems, SpellsMembers, SpellsNumber, SpellsNumbers, SpellsText, count_of}
use Rattle.av_nbt.specs.Writing.{written_document, signed_bytes, text_bytes, written, written_items, written_members, IsWellFormed, Fits, FitItems, FitMembers}
use Rattle.av_nbt.specs.Laws.{WrittenSpells, WrittenReadsBack}
use Rattle.av_nbt.proofs.LawProofs.{one_document}
use Rattle.av_tags.specs.View.{views}
use Rattle.av_tags.specs.declared.tag.Tag.{Tag}

-- as many tags in the tree as in the list
pub item_count_views : (ts : List Tag) → item_count (items_of (views ts)) ≡ length ts
item_count_views [] = refl
item_count_views (t ∷ ts) = ap suc (item_count_views ts)

-- a length that has a spelling
length_fits : (n : ℕ) (bytes : List ℕ) → SpellsNumber w32 (pos n) bytes → n < 2 ^ 31
length_fits n bytes h = h.fits.sfits

count_fits : (size : ℤ) → FitsSigned w32 size → FitsSigned w32 (pos (count_of size))
count_fits (pos n) h = h
count_fits (negsuc n) h = record { sfits = omega arith }

mutual
  pub spelled_fits : (t : Nbt) (bytes : List ℕ) → Spells t bytes → Fits t
  spelled_fits (byte z) bytes h = tt
  spelled_fits (int16 z) bytes h = tt
  spelled_fits (int z) bytes h = tt
  spelled_fits (int64 z) bytes h = tt
  spelled_fits (bits32 n) bytes h = tt
  spelled_fits (bits64 n) bytes h = tt
  spelled_fits (byte_array s) bytes (len, parts, h) = length_fits (length s) len h
  spelled_fits (text s) bytes h = h.short
  spelled_fits (list e ts) bytes (size, len, rest, parts, h, count, tag_types, items) = (subst (λ n. n < 2 ^ 31) count (count_fits size h.fits).sfits, items_fit ts rest items)
  spelled_fits (compound ms) bytes (distinct, members) = members_fit ms bytes members
  spelled_fits (int_array zs) bytes (len, rest, parts, h, numbers) = length_fits (length zs) len h
  spelled_fits (long_array zs) bytes (len, rest, parts, h, numbers) = length_fits (length zs) len h

  items_fit : (ts : Items) (bytes : List ℕ) → SpellsItems ts bytes → FitItems ts
  items_fit no_items bytes h = tt
  items_fit (item t ts) bytes (front, rest, parts, first, h) = (spelled_fits t front first, items_fit ts rest h)

  pub members_fit : (ms : Members) (bytes : List ℕ) → SpellsMembers ms bytes → FitMembers ms
  members_fit no_members bytes h = tt
  members_fit (member n t ms) bytes (name, front, rest, parts, named, tag, h) = (named.short, spelled_fits t front tag, members_fit ms rest h)

-- the two conditions of writing a document
pub name_fits : (d : Document) → IsWellFormed d → length d.name < 2 ^ 16
name_fits d h = h.spelled.named.short

pub tags_fit : (d : Document) → IsWellFormed d → FitMembers d.members
tags_fit d h = members_fit d.members h.spelled.body h.spelled.tags.1

-- a length as it is written
written_length : (n : ℕ) → FitsSigned w32 (pos n) → SpellsNumber w32 (pos n) (to_be_bytes w32 n)
written_length n h = record { fits = h; is = refl }

written_numbers : (w : Width) (zs : List ℤ) (bytes : List ℕ) → SpellsNumbers w zs bytes → SpellsNumbers w zs (flat_map (signed_bytes w) zs)
written_numbers w [] bytes h = refl
written_numbers w (z ∷ zs) bytes (front, rest, parts, first, h) = (signed_bytes w z, flat_map (signed_bytes w) zs, refl, record { fits = first.fits; is = refl }, written_numbers w zs rest h)

written_text : (s bytes : List ℕ) → SpellsText s bytes → SpellsText s (text_bytes s)
written_text s bytes h = record { short = h.short; is = refl }

mutual
  pub written_spells : (t : Nbt) (bytes : List ℕ) → Spells t bytes → Spells t (written t)
  written_spells (byte z) bytes h = record { fits = h.fits; is = refl }
  written_spells (int16 z) bytes h = record { fits = h.fits; is = refl }
  written_spells (int z) bytes h = record { fits = h.fits; is = refl }
  written_spells (int64 z) bytes h = record { fits = h.fits; is = refl }
  written_spells (bits32 n) bytes h = (h.0, refl)
  written_spells (bits64 n) bytes h = (h.0, refl)
  written_spells (byte_array s) bytes (len, parts, h) = (to_be_bytes w32 (length s), refl, written_length (length s) h.fits)
  written_spells (text s) bytes h = written_text s bytes h
  written_spells (list e ts) bytes (size, len, rest, parts, h, count, tag_types, items) =
      (pos (item_count ts), to_be_bytes w32 (item_count ts), written_items ts, refl, written_length (item_count ts) (subst (λ n. FitsSigned w32 (pos n)) count (count_fits size h.fits)), refl, tag_types, written_items_spell ts rest items)
  written_spells (compound ms) bytes (distinct, members) = (distinct, written_members_spell ms bytes members)
  written_spells (int_array zs) bytes (len, rest, parts, h, numbers) = (to_be_bytes w32 (length zs), flat_map (signed_bytes w32) zs, refl, written_length (length zs) h.fits, written_numbers w32 zs rest numbers)
  written_spells (long_array zs) bytes (len, rest, parts, h, numbers) = (to_be_bytes w32 (length zs), flat_map (signed_bytes w64) zs, refl, written_length (length zs) h.fits, written_numbers w64 zs rest numbers)

  written_items_spell : (ts : Items) (bytes : List ℕ) → SpellsItems ts bytes → SpellsItems ts (written_items ts)
  written_items_spell no_items bytes h = refl
  written_items_spell (item t ts) bytes (front, rest, parts, first, h) = (written t, written_items ts, refl, written_spells t front first, written_items_spell ts rest h)

  written_members_spell : (ms : Members) (bytes : List ℕ) → SpellsMembers ms bytes → SpellsMembers ms (written_members ms)
  written_members_spell no_members bytes h = refl
  written_members_spell (member n t ms) bytes (name, front, rest, parts, named, tag, h) =
      (text_bytes n, written t, written_members ms, refl, written_text n name named, written_spells t front tag, written_members_spell ms rest h)

pub written_document_spells : WrittenSpells
written_document_spells d h = record {
  name = text_bytes d.name;
  body = written_members d.members;
  parts = refl;
  named = written_text d.name h.spelled.name h.spelled.named;
  tags = (h.spelled.tags.0, written_members_spell d.members h.spelled.body h.spelled.tags.1);
  shallow = h.spelled.shallow;
}

pub written_reads_back : WrittenReadsBack
written_reads_back d e h spelled = (one_document e d (written_document d) (written_document d) [] [] spelled (written_document_spells d h) refl).0
