-- Two tags are equal in at most one way, so that a fact of tags that is known to hold somehow may be used.
use Rattle.std.proofs.Common.{◌≡◌, ℕ, ℤ, List, [], ◌∷◌, refl, sym, ap, ◌∙◌}
use Rattle.std.specs.Prelude.{slice_index_or}
use Rattle.std.proofs.Props.{props}
use Rattle.std.proofs.Math.Nat.{ℕ_set}
use Rattle.std.proofs.Math.IntN.{ℤ_set}
use mathlib.Core.HLevel.{collapsible→set}
use mathlib.Core.List.{is_set}
use Rattle.av_tags.specs.declared.tag.TagType.{TagType}
use Rattle.av_tags.specs.declared.tag.TagType.TheVariants as tag_type
use Rattle.av_tags.specs.TagTypes.{type_number, tag_types}
use Rattle.av_tags.specs.Nbt.{Nbt, byte, int16, int, int64, bits32, bits64, byte_array, text, list, compound, int_array, long_array, Items, no_items, item, Members, no_members, member, NamedTag}

retract_set : {A B : Type 0} (to : A → B) (from : B → A) → ((x : A) → from (to x) ≡ x) → IsSet B → IsSet A
retract_set to from back set = collapsible→set (λ x y p. sym (back x) ∙ ap from (ap to p) ∙ back y)
    (λ x y p q. ap (λ z. sym (back x) ∙ ap from z ∙ back y) (set (to x) (to y) (ap to p) (ap to q)))

-- a copy of a tag, of its items and of its members, in one type
data Copy : Type 0 where
  numeral : ℕ → ℤ → Copy
  word : ℕ → ℕ → Copy
  octets : ℕ → List ℕ → Copy
  series : ℕ → List ℤ → Copy
  items : ℕ → Copy → Copy
  members : Copy → Copy
  end : Copy
  next : Copy → Copy → Copy
  named : List ℕ → Copy → Copy → Copy
  deriving IsSet as Copy-set

abbrev type_of_number : ℕ → TagType
type_of_number n = slice_index_or tag_types n tag_type.End

type_back : (k : TagType) → type_of_number (type_number k) ≡ k
type_back tag_type.End = refl
type_back tag_type.Byte = refl
type_back tag_type.Short = refl
type_back tag_type.Int = refl
type_back tag_type.Long = refl
type_back tag_type.Float = refl
type_back tag_type.Double = refl
type_back tag_type.ByteArray = refl
type_back tag_type.Text = refl
type_back tag_type.List = refl
type_back tag_type.Compound = refl
type_back tag_type.IntArray = refl
type_back tag_type.LongArray = refl

abbrev mutual
  tag_copy : Nbt → Copy
  tag_copy (byte z) = numeral 0 z
  tag_copy (int16 z) = numeral 1 z
  tag_copy (int z) = numeral 2 z
  tag_copy (int64 z) = numeral 3 z
  tag_copy (bits32 n) = word 0 n
  tag_copy (bits64 n) = word 1 n
  tag_copy (byte_array s) = octets 0 s
  tag_copy (text s) = octets 1 s
  tag_copy (list e ts) = items (type_number e) (items_copy ts)
  tag_copy (compound ms) = members (members_copy ms)
  tag_copy (int_array zs) = series 0 zs
  tag_copy (long_array zs) = series 1 zs

  items_copy : Items → Copy
  items_copy no_items = end
  items_copy (item t ts) = next (tag_copy t) (items_copy ts)

  members_copy : Members → Copy
  members_copy no_members = end
  members_copy (member n t ms) = named n (tag_copy t) (members_copy ms)

abbrev of_numeral : ℕ → ℤ → Nbt
of_numeral k z = slice_index_or (byte z ∷ int16 z ∷ int z ∷ int64 z ∷ []) k (byte z)

abbrev of_word : ℕ → ℕ → Nbt
of_word k n = slice_index_or (bits32 n ∷ bits64 n ∷ []) k (bits32 n)

abbrev of_octets : ℕ → List ℕ → Nbt
of_octets k s = slice_index_or (byte_array s ∷ text s ∷ []) k (text s)

abbrev of_series : ℕ → List ℤ → Nbt
of_series k zs = slice_index_or (int_array zs ∷ long_array zs ∷ []) k (int_array zs)

-- the tag, the items and the members that it is a copy of, with junk for the others
abbrev originals : Copy → Nbt × Items × Members
originals (numeral k z) = (of_numeral k z, no_items, no_members)
originals (word k n) = (of_word k n, no_items, no_members)
originals (octets k s) = (of_octets k s, no_items, no_members)
originals (series k zs) = (of_series k zs, no_items, no_members)
originals (items e c) = (list (type_of_number e) (originals c).1, no_items, no_members)
originals (members c) = (compound (originals c).2, no_items, no_members)
originals end = (compound no_members, no_items, no_members)
originals (next c d) = (compound no_members, item (originals c).0 (originals d).1, no_members)
originals (named n c d) = (compound no_members, no_items, member n (originals c).0 (originals d).2)

abbrev mutual
  tag_back : (t : Nbt) → (originals (tag_copy t)).0 ≡ t
  tag_back (byte z) = refl
  tag_back (int16 z) = refl
  tag_back (int z) = refl
  tag_back (int64 z) = refl
  tag_back (bits32 n) = refl
  tag_back (bits64 n) = refl
  tag_back (byte_array s) = refl
  tag_back (text s) = refl
  tag_back (list e ts) = λ i. list (type_back e i) (items_back ts i)
  tag_back (compound ms) = λ i. compound (members_back ms i)
  tag_back (int_array zs) = refl
  tag_back (long_array zs) = refl

  items_back : (ts : Items) → (originals (items_copy ts)).1 ≡ ts
  items_back no_items = refl
  items_back (item t ts) = λ i. item (tag_back t i) (items_back ts i)

  members_back : (ms : Members) → (originals (members_copy ms)).2 ≡ ms
  members_back no_members = refl
  members_back (member n t ms) = λ i. member n (tag_back t i) (members_back ms i)

pub Nbt-set : IsSet Nbt
Nbt-set = retract_set tag_copy (λ c. (originals c).0) tag_back (Copy-set ℕ_set ℤ_set (is_set ℕ_set) (is_set ℤ_set))

pub Items-set : IsSet Items
Items-set = retract_set items_copy (λ c. (originals c).1) items_back (Copy-set ℕ_set ℤ_set (is_set ℕ_set) (is_set ℤ_set))

pub Members-set : IsSet Members
Members-set = retract_set members_copy (λ c. (originals c).2) members_back (Copy-set ℕ_set ℤ_set (is_set ℕ_set) (is_set ℤ_set))

pub NamedTag-set : IsSet NamedTag
NamedTag-set = Prim.hlevel (props, Nbt-set)
