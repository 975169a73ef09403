-- The numbers of the sections of a document that has a spelling are each one byte.
use Rattle.std.proofs.Common.{◌≡◌, ℕ, List, [], ◌∷◌, ℤ, Bool, true, false, Some, None, Option, cond, refl, ap, ◌∙◌, subst}
use Rattle.std.specs.Prelude.{codes, FitsSigned}
use Rattle.std.specs.Int.{w8}
use Rattle.std.specs.List.{AllByRecursion}
use Rattle.std.specs.Str.{bytes_eq}
use Rattle.std.proofs.lemmas.Option.{none-some, same_Some}
use Rattle.av_tags.specs.Nbt.{Nbt, byte, list, compound, Items, no_items, item, Members, no_members, member, NamedTag, Document}
use Rattle.av_tags.specs.ByName.{tag_of}
use Rattle.av_types.specs.Options.{◌>>=◌}
use Rattle.av_tags.specs.Shape.{members_in, items_in, byte_of, compound_of, compounds_of, each, or_else}
use Rattle.av_nbt.specs.Spelling.{Spells, SpellsItems, SpellsMembers}
use Rattle.av_nbt.specs.Writing.{IsWellFormed}
use Rattle.av_document.specs.Chunk.{root_tags, sections, section_number, numbered, is_number}
use Rattle.av_document.proofs.Rows.{numbered-number}

-- some bytes spell it
pub record IsSpelled (t : Nbt) : Type 0 where
  pub bytes : List ℕ
  pub spelled : Spells t bytes

-- these are the tags of a Compound that some bytes spell
pub record AreSpelled (ms : List NamedTag) : Type 0 where
  pub members : Members
  pub bytes : List ℕ
  pub same : members_in members ≡ ms
  pub spelled : SpellsMembers members bytes

-- each tag of them is spelled
pub member_spelled : (n : List ℕ) (ms : Members) (bytes : List ℕ) (t : Nbt) → SpellsMembers ms bytes → tag_of n (members_in ms) ≡ Some t → IsSpelled t
member_spelled n no_members bytes t h e = absurd (none-some t e)
member_spelled n (member m u ms) bytes t (name, front, rest, is, named, here, more) e = by (bytes_eq n m) e (member_spelled n ms rest t more) where
  by : (b : Bool) → cond b (Some u) (tag_of n (members_in ms)) ≡ Some t → (tag_of n (members_in ms) ≡ Some t → IsSpelled t) → IsSpelled t
  by true e later = let same : u ≡ t = same_Some u t e in subst IsSpelled same (record { bytes = front; spelled = here })
  by false e later = later e

compound_spelled : (t : Nbt) (ms : List NamedTag) → IsSpelled t → compound_of t ≡ Some ms → AreSpelled ms
compound_spelled (compound mem) ms h e = record { members = mem; bytes = h.bytes; same = same_Some (members_in mem) ms e; spelled = h.spelled.1 }
compound_spelled _ ms h e = absurd (none-some ms e)

rows_spelled : (ts : Items) (bytes : List ℕ) (rows : List (List NamedTag)) → SpellsItems ts bytes → each compound_of (items_in ts) ≡ Some rows → AllByRecursion AreSpelled rows
rows_spelled no_items bytes rows h e = let none : [] ≡ rows = same_Some [] rows e in subst (AllByRecursion AreSpelled) none tt
rows_spelled (item t ts) bytes rows (front, rest, is, here, more) e = by (compound_of t) refl (each compound_of (items_in ts)) refl e (λ later. rows_spelled ts rest later more) where
  by : (o : Option (List NamedTag)) → compound_of t ≡ o → (os : Option (List (List NamedTag))) → each compound_of (items_in ts) ≡ os → (o >>= λ y. (os >>= λ ys. Some (y ∷ ys))) ≡ Some rows
      → ((later : List (List NamedTag)) → each compound_of (items_in ts) ≡ Some later → AllByRecursion AreSpelled later) → AllByRecursion AreSpelled rows
  by None f os g k more = absurd (none-some rows k)
  by (Some ms) f None g k more = absurd (none-some rows k)
  by (Some ms) f (Some later) g k more =
      let same : ms ∷ later ≡ rows = same_Some (ms ∷ later) rows k in
      subst (AllByRecursion AreSpelled) same (compound_spelled t ms (record { bytes = front; spelled = here }) f, more later g)

pub list_spelled : (t : Nbt) (rows : List (List NamedTag)) → IsSpelled t → compounds_of t ≡ Some rows → AllByRecursion AreSpelled rows
list_spelled (list k ts) rows h e = items h.spelled where
  items : Spells (list k ts) h.bytes → AllByRecursion AreSpelled rows
  items (size, len, rest, is, sized, count, are, inside) = rows_spelled ts rest rows inside e
list_spelled _ rows h e = absurd (none-some rows e)

byte_spelled : (t : Nbt) (y : ℤ) → IsSpelled t → byte_of t ≡ Some y → FitsSigned w8 y
byte_spelled (byte z) y h e = subst (FitsSigned w8) (same_Some z y e) h.spelled.fits
byte_spelled _ y h e = absurd (none-some y e)

numbered_spelled : (y : ℤ) (rows : List (List NamedTag)) (ms : List NamedTag) → AllByRecursion AreSpelled rows → numbered y rows ≡ Some ms → AreSpelled ms
numbered_spelled y [] ms h e = absurd (none-some ms e)
numbered_spelled y (r ∷ rows) ms h e = by (is_number y (section_number r)) e (numbered_spelled y rows ms h.1) where
  by : (b : Bool) → cond b (Some r) (numbered y rows) ≡ Some ms → (numbered y rows ≡ Some ms → AreSpelled ms) → AreSpelled ms
  by true k more = subst AreSpelled (same_Some r ms k) h.0
  by false k more = more k

row_fits : (y : ℤ) (ms : List NamedTag) → AreSpelled ms → section_number ms ≡ Some y → FitsSigned w8 y
row_fits y ms h e = by (tag_of (codes "Y") ms) refl e where
  by : (o : Option Nbt) → tag_of (codes "Y") ms ≡ o → (o >>= byte_of) ≡ Some y → FitsSigned w8 y
  by None f k = absurd (none-some y k)
  by (Some t) f k = byte_spelled t y (member_spelled (codes "Y") h.members h.bytes t h.spelled (ap (tag_of (codes "Y")) h.same ∙ f)) k

pub number_fits : (d : Document) (y : ℤ) (ms : List NamedTag) → IsWellFormed d → numbered y (sections (root_tags d)) ≡ Some ms → FitsSigned w8 y
number_fits d y ms well e = by (tag_of (codes "sections") (root_tags d)) refl e where
  by : (o : Option Nbt) → tag_of (codes "sections") (root_tags d) ≡ o → numbered y (or_else [] (o >>= compounds_of)) ≡ Some ms → FitsSigned w8 y
  by None f k = absurd (none-some ms k)
  by (Some t) f k = rows (compounds_of t) refl k where
    rows : (os : Option (List (List NamedTag))) → compounds_of t ≡ os → numbered y (or_else [] os) ≡ Some ms → FitsSigned w8 y
    rows None g l = absurd (none-some ms l)
    rows (Some all) g l =
        let found : IsSpelled t = member_spelled (codes "sections") d.members well.spelled.body t well.spelled.tags.1 f in
        row_fits y ms (numbered_spelled y all ms (list_spelled t all found g) l) (numbered-number y all ms l)
