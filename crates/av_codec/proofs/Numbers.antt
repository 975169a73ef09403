-- Sections' numbers, and the flags in which they are noted.
use Rattle.std.proofs.Common.{◌≡◌, ◌≢◌, ℕ, ◌<◌, ℤ, pos, negsuc, Bool, true, false, true≢false, ◌||◌, Option, Some, None, List, [], ◌∷◌, length, get_or, slice_set, refl, sym, ap, ◌∙◌, arith, w8, FitsSigned, get_or-set_same, get_or-set_other, length-set}
use Rattle.std.proofs.lemmas.Int.{ints}
use Rattle.std.specs.Ordering.{int_eq}
use Rattle.std.specs.List.{list_any}
use Rattle.av_tags.specs.Nbt.{Nbt, NamedTag}
use Rattle.av_types.specs.Options.{◌>>=◌}
use Rattle.av_tags.specs.Shape.{compound_of, compounds_of, items_of_list, each, lacks}
use Rattle.std.proofs.Common.{subst, Decides}
use Rattle.std.proofs.lemmas.Bool.Decides.{Decides-int_eq}
use Rattle.av_types.specs.declared.position.Height.{Height}
use Rattle.av_codec.specs.Working.{has_other, flag_of, Noted, are_bad_items, checked_number, good_number, is_refused}
use Rattle.std.proofs.Common.{◌&&◌, if◌then◌else◌, codes}
use Rattle.std.proofs.Math.Bool.{or-true, or-false}
use Rattle.av_types.specs.Positions.{is_section_of}
use Rattle.av_tags.specs.ByName.{tag_of}
use Rattle.std.specs.Prelude.{◌++◌, is_some}
use Rattle.std.proofs.lemmas.Bool.{or_parts}
use Rattle.av_document.specs.Chunk.{section_number, numbered, is_number, is_numbered_in, share_a_number, is_other, is_bad_list}
use Rattle.av_document.proofs.Rows.{int_eq-refl}
use Rattle.av_document.specs.Working.{is_bad_at, with_number, are_bad_sections}
use Rattle.av_document.proofs.Judged.{judged}

other_step : (o : Option (List NamedTag)) (r : Option (List (List NamedTag))) (b : Bool) → lacks r ≡ b → lacks (o >>= λ y. r >>= λ ys. Some (y ∷ ys)) ≡ lacks o || b
other_step None r b e = refl
other_step (Some y) None b e = e
other_step (Some y) (Some ys) b e = e

-- all are Compounds exactly where none is another tag
pub lacks-each : (ts : List Nbt) → lacks (each compound_of ts) ≡ has_other ts
lacks-each [] = refl
lacks-each (t ∷ ts) = other_step (compound_of t) (each compound_of ts) (has_other ts) (lacks-each ts)

-- each number has a flag of its own
same_flag : (y z : ℤ) → FitsSigned w8 y → FitsSigned w8 z → flag_of z ≡ flag_of y → z ≡ y
same_flag (pos m) (pos n) p q e = ap pos (omega arith)
same_flag (pos m) (negsuc n) p q e = absurd (omega arith)
same_flag (negsuc m) (pos n) p q e = absurd (omega arith)
same_flag (negsuc m) (negsuc n) p q e = ap negsuc (omega (arith, ints, p, q))

pub flag_bound : (y : ℤ) → FitsSigned w8 y → flag_of y < 256
flag_bound (pos n) p = omega (arith, ints, p)
flag_bound (negsuc n) p = omega (arith, ints, p)

-- a number that is noted
noted_at : (before : List ℤ) (flags : List Bool) (y z : ℤ) → length flags ≡ 256 → FitsSigned w8 y → FitsSigned w8 z → Noted before flags
    → (b : Bool) → Decides b (z ≡ y) → get_or (slice_set flags (flag_of y) true) (flag_of z) false ≡ b || list_any (int_eq z) before
noted_at before flags y z l p q n true e =
    let fits : flag_of y < length flags = subst (λ (m : ℕ). flag_of y < m) (sym l) (flag_bound y p) in
    let same : z ≡ y = e.0 refl in
    rw same (rw get_or-set_same refl)
noted_at before flags y z l p q n false e =
    let ne : flag_of z ≢ flag_of y = λ same. true≢false (sym (e.1 (same_flag y z p q same))) in
    rw get_or-set_other (n.each_flag z q)

pub Noted-set : (before : List ℤ) (flags : List Bool) (y : ℤ) → FitsSigned w8 y → Noted before flags → Noted (y ∷ before) (slice_set flags (flag_of y) true)
Noted-set before flags y p n = record {
  count = length-set flags (flag_of y) true ∙ n.count;
  each_flag = λ z q. noted_at before flags y z n.count p q n (int_eq z y) (Decides-int_eq z y);
}

pub good_step : (h : Height) (before : List ℤ) (t : Nbt) (ts : List Nbt) (y : ℤ) (r : Bool) → Some y ≡ checked_number h (compound_of t) → list_any (int_eq y) before ≡ false
    → are_bad_items h before (t ∷ ts) ≡ r → are_bad_items h (y ∷ before) ts ≡ r
good_step h before t ts y r e f g = rw (← e, f) at g

-- ---- all sections

abbrev list_from : Height → List ℤ → Option (List (List NamedTag)) → Bool
list_from h before None = true
list_from h before (Some rows) = are_bad_sections h before rows

number_step : (h : Height) (before : List ℤ) (ms : List NamedTag) (y : ℤ) (rows : List (List NamedTag)) (bad : Bool)
    → (list_any (int_eq y) before || bad) || are_bad_sections h (y ∷ before) rows
    ≡ is_refused before (if bad then None else Some y) || are_bad_sections h (with_number before (if bad then None else Some y)) rows
number_step h before ms y rows true = simp (or-true)
number_step h before ms y rows false = simp (or-false)

row_step : (h : Height) (before : List ℤ) (ms : List NamedTag) (rows : List (List NamedTag)) (n : Option ℤ)
    → is_bad_at h before ms n || are_bad_sections h (with_number before n) rows
    ≡ is_refused before (good_number h ms n) || are_bad_sections h (with_number before (good_number h ms n)) rows
row_step h before ms rows None = refl
row_step h before ms rows (Some y) = number_step h before ms y rows (is_section_of h y && is_other compound_of (tag_of (codes "block_states") ms))

bad_step : (h : Height) (before : List ℤ) (o : Option (List NamedTag)) (r : Option (List (List NamedTag))) (b : Bool) → list_from h (with_number before (checked_number h o)) r ≡ b
    → list_from h before (o >>= λ y. r >>= λ ys. Some (y ∷ ys)) ≡ is_refused before (checked_number h o) || b
bad_step h before None r b e = refl
bad_step h before (Some ms) None b e = rw (← e) (simp (or-true))
bad_step h before (Some ms) (Some rows) b e = rw (← e) (row_step h before ms rows (section_number ms))

bad_from : (h : Height) (before : List ℤ) (ts : List Nbt) → list_from h before (each compound_of ts) ≡ are_bad_items h before ts
bad_from h before [] = refl
bad_from h before (t ∷ ts) = bad_step h before (compound_of t) (each compound_of ts) _ (bad_from h (with_number before (checked_number h (compound_of t))) ts)

-- the sections of a root are judged tag by tag
pub is_bad_list-each : (h : Height) (ts : List Nbt) → is_bad_list h (each compound_of ts) ≡ are_bad_items h [] ts
is_bad_list-each h ts = list_is h (each compound_of ts) ∙ bad_from h [] ts
  where
    list_is : (h : Height) (o : Option (List (List NamedTag))) → is_bad_list h o ≡ list_from h [] o
    list_is h None = refl
    list_is h (Some rows) = judged h rows

pub is_bad_list-at : (h : Height) (t : Option Nbt) (ts : List Nbt) → t >>= items_of_list ≡ Some ts → is_bad_list h (t >>= compounds_of) ≡ are_bad_items h [] ts
is_bad_list-at h None ts e = cc
is_bad_list-at h (Some t) ts e = rw e (is_bad_list-each h ts)

-- ---- no number comes twice

-- a section whose number no section before it has
abbrev pub HasNewNumber : List (List NamedTag) → List NamedTag → Type 0
HasNewNumber rows ms = (z : ℤ) → section_number ms ≡ Some z → numbered z rows ≡ None

numbered_there : (z : ℤ) (rows more : List (List NamedTag)) (ms : List NamedTag) → section_number ms ≡ Some z → is_some (numbered z (rows ++ ms ∷ more)) ≡ true
numbered_there z [] more ms e = rw (e, int_eq-refl z) refl
numbered_there z (r ∷ rows) more ms e = by (is_number z (section_number r)) (numbered_there z rows more ms e)
  where
    by : (b : Bool) → is_some (numbered z (rows ++ ms ∷ more)) ≡ true → is_some (if b then Some r else numbered z (rows ++ ms ∷ more)) ≡ true
    by true h = refl
    by false h = h

pub new_number : (rows more : List (List NamedTag)) (ms : List NamedTag) → share_a_number (rows ++ ms ∷ more) ≡ false → HasNewNumber rows ms
new_number [] more ms apart z e = refl
new_number (r ∷ rows) more ms apart z e =
    let both = or_parts (is_numbered_in (rows ++ ms ∷ more) (section_number r)) (share_a_number (rows ++ ms ∷ more)) apart in
    by (section_number r) both.0 (new_number rows more ms both.1 z e)
  where
    by : (n : Option ℤ) → is_numbered_in (rows ++ ms ∷ more) n ≡ false → numbered z rows ≡ None → (if is_number z n then Some r else numbered z rows) ≡ None
    by None first later = later
    by (Some y) first later = at (int_eq z y) (Decides-int_eq z y)
      where
        at : (b : Bool) → Decides b (z ≡ y) → (if b then Some r else numbered z rows) ≡ None
        at true d = absurd (true≢false (sym (numbered_there y rows more ms (e ∙ ap Some (d.0 refl))) ∙ first))
        at false d = later
