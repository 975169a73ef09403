-- Tags that have a spelling, and how deep they nest.
use Rattle.std.proofs.Common.{◌≡◌, ℕ, suc, ◌<◌, ◌≤◌, ◌^◌, List, [], ◌∷◌, ◌++◌, ℤ, pos, Some, None, Option, map, length, refl, sym, ap, subst, arith}
use Rattle.std.specs.Prelude.{FitsSigned}
use Rattle.std.specs.Int.{w8, w16, w32, w64, to_be_bytes, cast_unsigned}
use Rattle.std.specs.List.{AllByRecursion}
use Rattle.std.proofs.lemmas.Option.{none-some, same_Some}
use Rattle.av_tags.specs.declared.tag.TagType.TheVariants as tag_type
use Rattle.av_tags.specs.TagTypes.{type_number}
use Rattle.av_tags.specs.Nbt.{Nbt, byte, int, byte_array, text, list, compound, long_array, Items, no_items, item, Members, no_members, member, NamedTag, tag_type_of, items_of, members_of, item_count, HaveDistinctNames, AreOf, depth, items_depth, members_depth}
use Rattle.av_types.specs.Options.{◌>>=◌}
use Rattle.av_tags.specs.Shape.{members_in, items_in, compound_of, compounds_of, each}
use Rattle.av_nbt.specs.Spelling.{Spells, SpellsItems, SpellsMembers, SpellsNumber, SpellsNumbers}
use Rattle.av_document.specs.Layout.{compound_with, compounds}

-- a tag that some bytes spell, nested at most k deep
pub record IsGood (k : ℕ) (t : Nbt) : Type 0 where
  pub bytes : List ℕ
  pub spelled : Spells t bytes
  pub shallow : depth t ≤ k

pub record IsGoodNamed (k : ℕ) (m : NamedTag) : Type 0 where
  pub short : length m.name < 2 ^ 16
  pub good : IsGood k m.tag

-- the tags of a Compound
pub record AreGood (k : ℕ) (ms : List NamedTag) : Type 0 where
  pub each_good : AllByRecursion (IsGoodNamed k) ms
  pub distinct : HaveDistinctNames (members_of ms)

-- ---- leaves

pub int_good : (k : ℕ) (z : ℤ) → FitsSigned w32 z → IsGood k (int z)
int_good k z fits = record { bytes = to_be_bytes w32 (cast_unsigned w32 z); spelled = record { fits = fits; is = refl }; shallow = omega arith }

pub byte_good : (k : ℕ) (z : ℤ) → FitsSigned w8 z → IsGood k (byte z)
byte_good k z fits = record { bytes = to_be_bytes w8 (cast_unsigned w8 z); spelled = record { fits = fits; is = refl }; shallow = omega arith }

pub text_good : (k : ℕ) (s : List ℕ) → length s < 2 ^ 16 → IsGood k (text s)
text_good k s short = record { bytes = to_be_bytes w16 (length s) ++ s; spelled = record { short = short; is = refl }; shallow = omega arith }

count_fits : (n : ℕ) → n < 2 ^ 31 → FitsSigned w32 (pos n)
count_fits n few = record { sfits = few }

count_spelled : (n : ℕ) → n < 2 ^ 31 → SpellsNumber w32 (pos n) (to_be_bytes w32 n)
count_spelled n few = record { fits = count_fits n few; is = refl }

pub byte_array_good : (k : ℕ) (s : List ℕ) → length s < 2 ^ 31 → IsGood k (byte_array s)
byte_array_good k s few = record { bytes = to_be_bytes w32 (length s) ++ s; spelled = (to_be_bytes w32 (length s), refl, count_spelled (length s) few); shallow = omega arith }

pub record AreNumbers (zs : List ℤ) : Type 0 where
  pub bytes : List ℕ
  pub spelled : SpellsNumbers w64 zs bytes

numbers_spelled : (zs : List ℤ) → AllByRecursion (FitsSigned w64) zs → AreNumbers zs
numbers_spelled [] h = record { bytes = []; spelled = refl }
numbers_spelled (z ∷ zs) h =
    let more = numbers_spelled zs h.1 in
    record { bytes = to_be_bytes w64 (cast_unsigned w64 z) ++ more.bytes; spelled = (to_be_bytes w64 (cast_unsigned w64 z), more.bytes, refl, record { fits = h.0; is = refl }, more.spelled) }

pub long_array_good : (k : ℕ) (zs : List ℤ) → length zs < 2 ^ 31 → AllByRecursion (FitsSigned w64) zs → IsGood k (long_array zs)
long_array_good k zs few fit =
    let more = numbers_spelled zs fit in
    record { bytes = to_be_bytes w32 (length zs) ++ more.bytes; spelled = (to_be_bytes w32 (length zs), more.bytes, refl, count_spelled (length zs) few, more.spelled); shallow = omega arith }

-- ---- Compounds

pub record HaveBytes (ms : Members) : Type 0 where
  pub bytes : List ℕ
  pub spelled : SpellsMembers ms bytes

members_spelled : (k : ℕ) (ms : List NamedTag) → AllByRecursion (IsGoodNamed k) ms → HaveBytes (members_of ms)
members_spelled k [] h = record { bytes = 0 ∷ []; spelled = refl }
members_spelled k (m ∷ ms) h =
    let more = members_spelled k ms h.1 in
    let name : List ℕ = to_be_bytes w16 (length m.name) ++ m.name in
    record {
      bytes = type_number (tag_type_of m.tag) ∷ (name ++ (h.0.good.bytes ++ more.bytes));
      spelled = (name, h.0.good.bytes, more.bytes, refl, record { short = h.0.short; is = refl }, h.0.good.spelled, more.spelled);
    }

members_shallow : (k : ℕ) (ms : List NamedTag) → AllByRecursion (IsGoodNamed k) ms → members_depth (members_of ms) ≤ k
members_shallow k [] h = omega arith
members_shallow k (m ∷ ms) h = omega (arith, h.0.good.shallow, members_shallow k ms h.1)

pub compound_good : (k : ℕ) (ms : List NamedTag) → AreGood k ms → IsGood (suc k) (compound_with ms)
compound_good k ms h =
    let all = members_spelled k ms h.each_good in
    record { bytes = all.bytes; spelled = (h.distinct, all.spelled); shallow = omega (arith, members_shallow k ms h.each_good) }

-- ---- Lists of Compounds

pub record HaveItemBytes (ts : Items) : Type 0 where
  pub bytes : List ℕ
  pub spelled : SpellsItems ts bytes

rows_spelled : (k : ℕ) (rows : List (List NamedTag)) → AllByRecursion (AreGood k) rows → HaveItemBytes (items_of (map compound_with rows))
rows_spelled k [] h = record { bytes = []; spelled = refl }
rows_spelled k (ms ∷ rows) h =
    let first = compound_good k ms h.0 in
    let more = rows_spelled k rows h.1 in
    record { bytes = first.bytes ++ more.bytes; spelled = (first.bytes, more.bytes, refl, first.spelled, more.spelled) }

rows_shallow : (k : ℕ) (rows : List (List NamedTag)) → AllByRecursion (AreGood k) rows → items_depth (items_of (map compound_with rows)) ≤ suc k
rows_shallow k [] h = omega arith
rows_shallow k (ms ∷ rows) h = omega (arith, (compound_good k ms h.0).shallow, rows_shallow k rows h.1)

are_compounds : (rows : List (List NamedTag)) → AreOf tag_type.Compound (items_of (map compound_with rows))
are_compounds [] = tt
are_compounds (ms ∷ rows) = (refl, are_compounds rows)

row_count : (rows : List (List NamedTag)) → item_count (items_of (map compound_with rows)) ≡ length rows
row_count [] = refl
row_count (ms ∷ rows) = ap suc (row_count rows)

pub compounds_good : (k : ℕ) (rows : List (List NamedTag)) → length rows < 2 ^ 31 → AllByRecursion (AreGood k) rows → IsGood (suc (suc k)) (compounds rows)
compounds_good k rows few h =
    let all = rows_spelled k rows h in
    record {
      bytes = type_number tag_type.Compound ∷ (to_be_bytes w32 (length rows) ++ all.bytes);
      spelled = (pos (length rows), to_be_bytes w32 (length rows), all.bytes, refl, count_spelled (length rows) few, sym (row_count rows), are_compounds rows, all.spelled);
      shallow = omega (arith, rows_shallow k rows h);
    }

-- ---- parts of good tags

pub members_are_good : (k : ℕ) (ms : Members) (bytes : List ℕ) → SpellsMembers ms bytes → members_depth ms ≤ k → AllByRecursion (IsGoodNamed k) (members_in ms)
members_are_good k no_members bytes h low = tt
members_are_good k (member n t ms) bytes (name, front, rest, is, named, here, more) low =
    (record { short = named.short; good = record { bytes = front; spelled = here; shallow = omega arith } }, members_are_good k ms rest more (omega arith))

members_back : (ms : Members) → members_of (members_in ms) ≡ ms
members_back no_members = refl
members_back (member n t ms) = ap (member n t) (members_back ms)

pub compound_parts : (k : ℕ) (t : Nbt) (ms : List NamedTag) → IsGood (suc k) t → compound_of t ≡ Some ms → AreGood k ms
compound_parts k (compound mem) ms h e =
    let same : members_in mem ≡ ms = same_Some (members_in mem) ms e in
    let parts : AreGood k (members_in mem) = record {
      each_good = members_are_good k mem h.bytes h.spelled.1 (omega (arith, h.shallow));
      distinct = subst HaveDistinctNames (sym (members_back mem)) h.spelled.0;
    } in
    subst (AreGood k) same parts
compound_parts k _ ms h e = absurd (none-some ms e)

items_parts : (k : ℕ) (ts : Items) (bytes : List ℕ) (rows : List (List NamedTag)) → SpellsItems ts bytes → items_depth ts ≤ suc k → each compound_of (items_in ts) ≡ Some rows → AllByRecursion (AreGood k) rows
items_parts k no_items bytes rows h low e = let none : [] ≡ rows = same_Some [] rows e in subst (AllByRecursion (AreGood k)) none tt
items_parts k (item t ts) bytes rows (front, rest, is, here, more) low e = by (compound_of t) refl (each compound_of (items_in ts)) refl e (λ later. items_parts k ts rest later more (omega arith)) where
  good : IsGood (suc k) t
  good = record { bytes = front; spelled = here; shallow = omega arith }

  by : (o : Option (List NamedTag)) → compound_of t ≡ o → (os : Option (List (List NamedTag))) → each compound_of (items_in ts) ≡ os → (o >>= λ y. (os >>= λ ys. Some (y ∷ ys))) ≡ Some rows
      → ((later : List (List NamedTag)) → each compound_of (items_in ts) ≡ Some later → AllByRecursion (AreGood k) later) → AllByRecursion (AreGood k) rows
  by None f os g l more = absurd (none-some rows l)
  by (Some ms) f None g l more = absurd (none-some rows l)
  by (Some ms) f (Some later) g l more =
      let same : ms ∷ later ≡ rows = same_Some (ms ∷ later) rows l in
      subst (AllByRecursion (AreGood k)) same (compound_parts k t ms good f, more later g)

pub compounds_parts : (k : ℕ) (t : Nbt) (rows : List (List NamedTag)) → IsGood (suc (suc k)) t → compounds_of t ≡ Some rows → AllByRecursion (AreGood k) rows
compounds_parts k (list e ts) rows h f = items h.spelled where
  items : Spells (list e ts) h.bytes → AllByRecursion (AreGood k) rows
  items (size, len, rest, is, sized, count, are, inside) = items_parts k ts rest rows inside (omega (arith, h.shallow)) f
compounds_parts k _ rows h f = absurd (none-some rows f)
