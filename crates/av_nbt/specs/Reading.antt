-- Working definitions. No public clause cites them.
-- Tags read from left to right, in the steps of the decoder, which proofs/ ties to the spelling.
use Rattle.std.specs.Prelude.{◌≡◌, ℕ, zero, suc, ◌*◌, ◌/◌, ℤ, pos, negsuc, List, [], ◌∷◌, ◌++◌, length, map, take, drop, Option, Some, None, Result, Ok, Err, Bool, true, false, nat_lt, ◌==◌, if◌then◌else◌}
use Rattle.std.specs.Simd.{first_chunks}
use Rattle.std.specs.Str.{bytes_eq}
use Rattle.std.specs.Int.{Width, w8, w16, w32, w64, byte_len, from_be_bytes, cast_signed}
use Rattle.av_types.specs.declared.fault.Fault.{Fault}
use Rattle.av_types.specs.declared.fault.Fault.TheVariants.{OutOfMemory, BadNbt}
use Rattle.av_tags.specs.declared.tag.TagType.{TagType}
use Rattle.av_tags.specs.declared.tag.TagType.TheVariants as tag_type
use Rattle.av_tags.specs.TagTypes.{type_from, is_end, is_compound}
use Rattle.av_tags.specs.Nbt.{Nbt, byte, int16, int, int64, bits32, bits64, byte_array, text, list, compound, int_array, long_array, NamedTag, Document, items_of, members_of}
use Rattle.av_types.specs.Options.{◌>>=◌}
use Rattle.av_nbt.specs.Spelling.{count_of}

-- What a function returned, seen by view, is what reading gives, unless memory ran out.
abbrev pub Fails : {Y : Type 0} → Fault → Option Y → Type 0
Fails OutOfMemory read = Unit {0}
Fails BadNbt read = read ≡ None
Fails _ read = ⊥

abbrev pub Gives : {X Y : Type 0} → (X → Y) → Result X Fault → Option Y → Type 0
Gives view (Ok x) read = read ≡ Some (view x)
Gives view (Err e) read = Fails e read

-- A field is a value and the bytes after it.
abbrev pub Field : Type 0 → Type 0
Field X = Option (X × List ℕ)

abbrev pub as_field : {X Y : Type 0} → (X → Y) → Field X → Field Y
as_field f field = field >>= λ x. Some (f x.0, x.1)

-- so many bytes
unfoldable pub front_at : ℕ → List ℕ → Field (List ℕ)
front_at n bytes = if nat_lt (length bytes) n then None else Some (take n bytes, drop n bytes)

unfoldable pub number_at : Width → List ℕ → Field ℕ
number_at w bytes = do
  front ← front_at (byte_len w) bytes
  Some (from_be_bytes w front.0, front.1)

unfoldable pub signed_at : Width → List ℕ → Field ℤ
signed_at w bytes = do
  n ← number_at w bytes
  Some (cast_signed w n.0, n.1)

unfoldable pub type_at : List ℕ → Field TagType
type_at [] = None
type_at (b ∷ rest) = do
  k ← type_from b
  Some (k, rest)

unfoldable pub text_at : List ℕ → Field (List ℕ)
text_at bytes = do
  n ← number_at w16 bytes
  front_at n.0 n.1

-- an array's length, which is not negative
abbrev pub length_from : ℤ → Option ℕ
length_from (pos n) = Some n
length_from (negsuc n) = None

unfoldable pub length_at : List ℕ → Field ℕ
length_at bytes = do
  z ← signed_at w32 bytes
  n ← length_from z.0
  Some (n, z.1)

unfoldable pub list_length_at : List ℕ → Field ℕ
list_length_at bytes = as_field count_of (signed_at w32 bytes)

unfoldable pub bytes_at : List ℕ → Field (List ℕ)
bytes_at bytes = do
  n ← length_at bytes
  front_at n.0 n.1

-- the signed numbers that stand one after the other
abbrev pub signed_in : Width → List ℕ → List ℤ
signed_in w bytes = map (λ b. cast_signed w (from_be_bytes w b)) (first_chunks (byte_len w) (length bytes / byte_len w) bytes)

unfoldable pub numbers_at : Width → List ℕ → Field (List ℤ)
numbers_at w bytes = do
  n ← length_at bytes
  front ← front_at (n.0 * byte_len w) n.1
  Some (signed_in w front.0, front.1)

-- a tag that holds no tag
unfoldable pub leaf_at : TagType → List ℕ → Field Nbt
leaf_at tag_type.Byte bytes = as_field byte (signed_at w8 bytes)
leaf_at tag_type.Short bytes = as_field int16 (signed_at w16 bytes)
leaf_at tag_type.Int bytes = as_field int (signed_at w32 bytes)
leaf_at tag_type.Long bytes = as_field int64 (signed_at w64 bytes)
leaf_at tag_type.Float bytes = as_field bits32 (number_at w32 bytes)
leaf_at tag_type.Double bytes = as_field bits64 (number_at w64 bytes)
leaf_at tag_type.ByteArray bytes = as_field byte_array (bytes_at bytes)
leaf_at tag_type.Text bytes = as_field text (text_at bytes)
leaf_at tag_type.IntArray bytes = as_field int_array (numbers_at w32 bytes)
leaf_at tag_type.LongArray bytes = as_field long_array (numbers_at w64 bytes)
leaf_at _ bytes = None

-- so many fields, one after the other
abbrev pub repeat_at : {X : Type 0} → (List ℕ → Field X) → ℕ → List ℕ → Field (List X)
repeat_at read zero bytes = Some ([], bytes)
repeat_at read (suc n) bytes = do
  first ← read bytes
  others ← repeat_at read n first.1
  Some (first.0 ∷ others.0, others.1)

-- fields, after those that were read before them
abbrev pub with_front : {X : Type 0} → List X → Field (List X) → Field (List X)
with_front xs None = None
with_front xs (Some field) = Some (xs ++ field.0, field.1)

abbrev pub Reader : Type 0
Reader = TagType → List ℕ → Field Nbt

unfoldable pub list_at : Reader → List ℕ → Field Nbt
list_at read bytes = do
  e ← type_at bytes
  n ← list_length_at e.1
  ts ← repeat_at (read e.0) n.0 n.1
  Some (list e.0 (items_of ts.0), ts.1)

-- a named tag of a type
unfoldable pub named_at : Reader → TagType → List ℕ → Field NamedTag
named_at read k bytes = do
  name ← text_at bytes
  tag ← read k name.1
  Some (record { name = name.0; tag = tag.0 }, tag.1)

-- named tags up to the end, of which there are fewer than n
abbrev pub until_end : Reader → ℕ → List ℕ → Field (List NamedTag)
until_end read zero bytes = None
until_end read (suc n) bytes = do
  k ← type_at bytes
  if is_end k.0 then Some ([], k.1) else (named_at read k.0 k.1 >>= λ first. until_end read n first.1 >>= λ others. Some (first.0 ∷ others.0, others.1))

abbrev pub has_name : List ℕ → List NamedTag → Bool
has_name n [] = false
has_name n (m ∷ ms) = if bytes_eq n m.name then true else has_name n ms

-- no name is there twice
abbrev pub are_distinct : List NamedTag → Bool
are_distinct [] = true
are_distinct (m ∷ ms) = if has_name m.name ms then false else are_distinct ms

-- the tags of a compound
unfoldable pub members_at : Reader → List ℕ → Field (List NamedTag)
members_at read bytes = do
  ms ← until_end read (length bytes) bytes
  if are_distinct ms.0 then Some ms else None

unfoldable pub compound_at : Reader → List ℕ → Field Nbt
compound_at read bytes = as_field (λ ms. compound (members_of ms)) (members_at read bytes)

-- a tag in which lists and compounds nest at most so deep
abbrev pub payload_at : ℕ → Reader
payload_at zero k bytes = leaf_at k bytes
payload_at (suc depth) tag_type.List bytes = list_at (payload_at depth) bytes
payload_at (suc depth) tag_type.Compound bytes = compound_at (payload_at depth) bytes
payload_at (suc depth) k bytes = leaf_at k bytes

-- all of the bytes
unfoldable pub document_at : List ℕ → Option Document
document_at bytes = do
  k ← type_at bytes
  if is_compound k.0 then (text_at k.1 >>= λ name. members_at (payload_at 511) name.1 >>= λ ms. if length ms.1 == 0 then Some (record { name = name.0; members = members_of ms.0 }) else None) else None
