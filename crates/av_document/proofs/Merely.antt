-- A document of which no more is known than that some bytes spell it is well formed: what is written of it spells it.
use Rattle.std.proofs.Common.{ℕ, ◌<◌, ◌≤◌, ◌^◌, List, [], ◌∷◌, ℤ, pos, negsuc, length, refl, arith, subst}
use Rattle.std.specs.Prelude.{FitsSigned}
use Rattle.std.specs.Int.{Width, w8, w16, w32, w64, to_be_bytes}
use mir.Val.{bits}
use Rattle.std.specs.List.{AllByRecursion, flat_map}
use Rattle.std.proofs.Math.Logic.{∥∥₁_elim, ∥∥₁_map}
use Rattle.std.proofs.Props.{props}
use Rattle.av_tags.specs.declared.tag.TagType.{TagType}
use Rattle.av_tags.specs.Nbt.{Nbt, byte, int16, int, int64, bits32, bits64, byte_array, text, list, compound, int_array, long_array, Items, no_items, item, Members, no_members, member, Document, item_count, LacksMember, HaveDistinctNames, AreOf, depth}
use Rattle.av_nbt.specs.Spelling.{Spells, SpellsItems, SpellsMembers, SpellsNumbers, count_of}
use Rattle.av_nbt.specs.Writing.{signed_bytes, text_bytes, written, written_items, written_members, written_document, IsWellFormed}
use Rattle.av_document.proofs.Spelled.{IsSpelled}
use Rattle.av_document.proofs.Good.{HaveItemBytes, HaveBytes}

-- ---- what has one proof at most

lt-prop : (a b : ℕ) → IsProp (a < b)
lt-prop a b = Prim.hlevel props

le-prop : (a b : ℕ) → IsProp (a ≤ b)
le-prop a b = Prim.hlevel props

fits-prop : (w : Width) (z : ℤ) → IsProp (FitsSigned w z)
fits-prop w z = Prim.hlevel props

all_fit-prop : (w : Width) (zs : List ℤ) → IsProp (AllByRecursion (FitsSigned w) zs)
all_fit-prop w [] = Prim.hlevel props
all_fit-prop w (z ∷ zs) = Prim.hlevel (props, all_fit-prop w zs)

are_of-prop : (k : TagType) (ts : Items) → IsProp (AreOf k ts)
are_of-prop k no_items = Prim.hlevel props
are_of-prop k (item t ts) = Prim.hlevel (props, are_of-prop k ts)

absent-prop : (n : List ℕ) (ms : Members) → IsProp (LacksMember n ms)
absent-prop n no_members = Prim.hlevel props
absent-prop n (member m t ms) = Prim.hlevel (props, absent-prop n ms)

distinct-prop : (ms : Members) → IsProp (HaveDistinctNames ms)
distinct-prop no_members = Prim.hlevel props
distinct-prop (member n t ms) = Prim.hlevel (props, absent-prop n ms, distinct-prop ms)

-- ---- parts of spellings

byte_count : (s bytes : List ℕ) → Spells (byte_array s) bytes → FitsSigned w32 (pos (length s))
byte_count s bytes (len, parts, h) = h.fits

numbers_fit : (w : Width) (zs : List ℤ) (bytes : List ℕ) → SpellsNumbers w zs bytes → AllByRecursion (FitsSigned w) zs
numbers_fit w [] bytes h = tt
numbers_fit w (z ∷ zs) bytes (front, rest, parts, h, more) = (h.fits, numbers_fit w zs rest more)

fit_numbers : (w : Width) (zs : List ℤ) → AllByRecursion (FitsSigned w) zs → SpellsNumbers w zs (flat_map (signed_bytes w) zs)
fit_numbers w [] h = refl
fit_numbers w (z ∷ zs) h = (signed_bytes w z, flat_map (signed_bytes w) zs, refl, record { fits = h.0; is = refl }, fit_numbers w zs h.1)

int_array_parts : (zs : List ℤ) (bytes : List ℕ) → Spells (int_array zs) bytes → FitsSigned w32 (pos (length zs)) × AllByRecursion (FitsSigned w32) zs
int_array_parts zs bytes (len, rest, parts, h, numbers) = (h.fits, numbers_fit w32 zs rest numbers)

long_array_parts : (zs : List ℤ) (bytes : List ℕ) → Spells (long_array zs) bytes → FitsSigned w32 (pos (length zs)) × AllByRecursion (FitsSigned w64) zs
long_array_parts zs bytes (len, rest, parts, h, numbers) = (h.fits, numbers_fit w64 zs rest numbers)

count_fits : (size : ℤ) → FitsSigned w32 size → FitsSigned w32 (pos (count_of size))
count_fits (pos n) h = h
count_fits (negsuc n) h = record { sfits = omega arith }

-- what is known of a List
record ListParts (k : TagType) (ts : Items) : Type 0 where
  pub count : FitsSigned w32 (pos (item_count ts))
  pub tag_types : AreOf k ts
  pub inside : HaveItemBytes ts

list_parts : (k : TagType) (ts : Items) (bytes : List ℕ) → Spells (list k ts) bytes → ListParts k ts
list_parts k ts bytes (size, len, rest, parts, h, count, tag_types, inside) =
    record { count = subst (λ n. FitsSigned w32 (pos n)) count (count_fits size h.fits); tag_types = tag_types; inside = record { bytes = rest; spelled = inside } }

first_item : (t : Nbt) (ts : Items) (bytes : List ℕ) → SpellsItems (item t ts) bytes → IsSpelled t
first_item t ts bytes (front, rest, parts, here, more) = record { bytes = front; spelled = here }

later_items : (t : Nbt) (ts : Items) (bytes : List ℕ) → SpellsItems (item t ts) bytes → HaveItemBytes ts
later_items t ts bytes (front, rest, parts, here, more) = record { bytes = rest; spelled = more }

first_name : (n : List ℕ) (t : Nbt) (ms : Members) (bytes : List ℕ) → SpellsMembers (member n t ms) bytes → length n < 2 ^ 16
first_name n t ms bytes (name, front, rest, parts, named, here, more) = named.short

first_member : (n : List ℕ) (t : Nbt) (ms : Members) (bytes : List ℕ) → SpellsMembers (member n t ms) bytes → IsSpelled t
first_member n t ms bytes (name, front, rest, parts, named, here, more) = record { bytes = front; spelled = here }

later_members : (n : List ℕ) (t : Nbt) (ms : Members) (bytes : List ℕ) → SpellsMembers (member n t ms) bytes → HaveBytes ms
later_members n t ms bytes (name, front, rest, parts, named, here, more) = record { bytes = rest; spelled = more }

-- ---- what is written spells it

mutual
  merely_spells : (t : Nbt) → ∥ IsSpelled t ∥₁ → Spells t (written t)
  merely_spells (byte z) h = record { fits = ∥∥₁_elim h (fits-prop w8 z) (λ s. s.spelled.fits); is = refl }
  merely_spells (int16 z) h = record { fits = ∥∥₁_elim h (fits-prop w16 z) (λ s. s.spelled.fits); is = refl }
  merely_spells (int z) h = record { fits = ∥∥₁_elim h (fits-prop w32 z) (λ s. s.spelled.fits); is = refl }
  merely_spells (int64 z) h = record { fits = ∥∥₁_elim h (fits-prop w64 z) (λ s. s.spelled.fits); is = refl }
  merely_spells (bits32 n) h = (∥∥₁_elim h (lt-prop n (2 ^ bits w32)) (λ s. s.spelled.0), refl)
  merely_spells (bits64 n) h = (∥∥₁_elim h (lt-prop n (2 ^ bits w64)) (λ s. s.spelled.0), refl)
  merely_spells (byte_array s) h =
      (to_be_bytes w32 (length s), refl, record { fits = ∥∥₁_elim h (fits-prop w32 (pos (length s))) (λ x. byte_count s x.bytes x.spelled); is = refl })
  merely_spells (text s) h = record { short = ∥∥₁_elim h (lt-prop (length s) (2 ^ 16)) (λ x. x.spelled.short); is = refl }
  merely_spells (list k ts) h =
      let parts : ∥ ListParts k ts ∥₁ = ∥∥₁_map h (λ x. list_parts k ts x.bytes x.spelled) in (
        pos (item_count ts),
        to_be_bytes w32 (item_count ts),
        written_items ts,
        refl,
        record { fits = ∥∥₁_elim parts (fits-prop w32 (pos (item_count ts))) (λ x. x.count); is = refl },
        refl,
        ∥∥₁_elim parts (are_of-prop k ts) (λ x. x.tag_types),
        merely_spells_items ts (∥∥₁_map parts (λ x. x.inside)),
      )
  merely_spells (compound ms) h =
      (∥∥₁_elim h (distinct-prop ms) (λ x. x.spelled.0), merely_spells_members ms (∥∥₁_map h (λ x. record { bytes = x.bytes; spelled = x.spelled.1 })))
  merely_spells (int_array zs) h = (
    to_be_bytes w32 (length zs),
    flat_map (signed_bytes w32) zs,
    refl,
    record { fits = ∥∥₁_elim h (fits-prop w32 (pos (length zs))) (λ x. (int_array_parts zs x.bytes x.spelled).0); is = refl },
    fit_numbers w32 zs (∥∥₁_elim h (all_fit-prop w32 zs) (λ x. (int_array_parts zs x.bytes x.spelled).1)),
  )
  merely_spells (long_array zs) h = (
    to_be_bytes w32 (length zs),
    flat_map (signed_bytes w64) zs,
    refl,
    record { fits = ∥∥₁_elim h (fits-prop w32 (pos (length zs))) (λ x. (long_array_parts zs x.bytes x.spelled).0); is = refl },
    fit_numbers w64 zs (∥∥₁_elim h (all_fit-prop w64 zs) (λ x. (long_array_parts zs x.bytes x.spelled).1)),
  )

  merely_spells_items : (ts : Items) → ∥ HaveItemBytes ts ∥₁ → SpellsItems ts (written_items ts)
  merely_spells_items no_items h = refl
  merely_spells_items (item t ts) h = (
    written t,
    written_items ts,
    refl,
    merely_spells t (∥∥₁_map h (λ x. first_item t ts x.bytes x.spelled)),
    merely_spells_items ts (∥∥₁_map h (λ x. later_items t ts x.bytes x.spelled)),
  )

  merely_spells_members : (ms : Members) → ∥ HaveBytes ms ∥₁ → SpellsMembers ms (written_members ms)
  merely_spells_members no_members h = refl
  merely_spells_members (member n t ms) h = (
    text_bytes n,
    written t,
    written_members ms,
    refl,
    record { short = ∥∥₁_elim h (lt-prop (length n) (2 ^ 16)) (λ x. first_name n t ms x.bytes x.spelled); is = refl },
    merely_spells t (∥∥₁_map h (λ x. first_member n t ms x.bytes x.spelled)),
    merely_spells_members ms (∥∥₁_map h (λ x. later_members n t ms x.bytes x.spelled)),
  )

pub merely_well_formed : (d : Document) → ∥ IsWellFormed d ∥₁ → IsWellFormed d
merely_well_formed d h = record {
  bytes = written_document d;
  spelled = record {
    name = text_bytes d.name;
    body = written_members d.members;
    parts = refl;
    named = record { short = ∥∥₁_elim h (lt-prop (length d.name) (2 ^ 16)) (λ x. x.spelled.named.short); is = refl };
    tags = (
      ∥∥₁_elim h (distinct-prop d.members) (λ x. x.spelled.tags.0),
      merely_spells_members d.members (∥∥₁_map h (λ x. record { bytes = x.spelled.body; spelled = x.spelled.tags.1 })),
    );
    shallow = ∥∥₁_elim h (le-prop (depth (compound d.members)) 512) (λ x. x.spelled.shallow);
  };
}
