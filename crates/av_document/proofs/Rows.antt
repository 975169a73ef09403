-- Lists of Compounds read back, and the sections of a List found by their numbers.
use Rattle.std.proofs.Common.{◌≡◌, List, [], ◌∷◌, ◌++◌, ℤ, Bool, true, false, ◌||◌, Some, None, Option, cond, map, refl, sym, ap, ◌∙◌}
use Rattle.std.specs.List.{list_any}
use Rattle.std.specs.Ordering.{int_eq}
use Rattle.std.proofs.lemmas.Bool.Decides.{Decides-int_eq}
use Rattle.std.proofs.lemmas.Option.{none-some, same_Some}
use Rattle.av_tags.specs.Nbt.{NamedTag}
use Rattle.av_types.specs.Options.{◌>>=◌}
use Rattle.av_tags.specs.Shape.{compound_of, compounds_of, each}
use Rattle.av_tags.proofs.Trees.{items_in_of, members_in_of}
use Rattle.av_document.specs.Chunk.{section_number, numbered, is_number}
use Rattle.av_document.specs.Layout.{compound_with, compounds, kept_section, all_of}

each_compound : (rows : List (List NamedTag)) → each compound_of (map compound_with rows) ≡ Some rows
each_compound [] = refl
each_compound (ms ∷ rows) =
    ap (λ l. Some l >>= λ y. (each compound_of (map compound_with rows) >>= λ ys. Some (y ∷ ys))) (members_in_of ms)
    ∙ ap (λ o. o >>= λ ys. Some (ms ∷ ys)) (each_compound rows)

-- a List of Compounds is read as it was written
pub compounds_of-compounds : (rows : List (List NamedTag)) → compounds_of (compounds rows) ≡ Some rows
compounds_of-compounds rows = ap (each compound_of) (items_in_of (map compound_with rows)) ∙ each_compound rows

pub int_eq-refl : (y : ℤ) → int_eq y y ≡ true
int_eq-refl y = (Decides-int_eq y y).1 refl

-- each row that a function gives for a number has that number
abbrev pub GivesNumbered : (ℤ → Option (List NamedTag)) → Type 0
GivesNumbered f = (y : ℤ) (ms : List NamedTag) → f y ≡ Some ms → section_number ms ≡ Some y

-- the row of a number is the one that was written for it
pub numbered-all_of : (f : ℤ → Option (List NamedTag)) → GivesNumbered f → (y : ℤ) (ys : List ℤ) → numbered y (all_of f ys) ≡ cond (list_any (int_eq y) ys) (f y) None
numbered-all_of f gives y [] = refl
numbered-all_of f gives y (z ∷ ys) = by (f z) refl (int_eq y z) refl (numbered-all_of f gives y ys) where
  rest : List (List NamedTag)
  rest = all_of f ys

  by : (o : Option (List NamedTag)) → f z ≡ o → (b : Bool) → int_eq y z ≡ b → numbered y rest ≡ cond (list_any (int_eq y) ys) (f y) None
      → numbered y (kept_section o ++ rest) ≡ cond (b || list_any (int_eq y) ys) (f y) None
  by None fz true e more =
      let same : y ≡ z = (Decides-int_eq y z).0 e in
      let none : f y ≡ None = ap f same ∙ fz in
      more ∙ either (list_any (int_eq y) ys) none ∙ sym none
    where
      either : (b : Bool) → f y ≡ None → cond b (f y) None ≡ None
      either true h = h
      either false h = refl
  by None fz false e more = more
  by (Some ms) fz true e more =
      let same : y ≡ z = (Decides-int_eq y z).0 e in
      ap (λ o. cond (is_number y o) (Some ms) (numbered y rest)) (gives z ms fz) ∙ ap (λ b. cond b (Some ms) (numbered y rest)) e ∙ sym (ap f same ∙ fz)
  by (Some ms) fz false e more =
      ap (λ o. cond (is_number y o) (Some ms) (numbered y rest)) (gives z ms fz) ∙ ap (λ b. cond b (Some ms) (numbered y rest)) e ∙ more

-- what a number of a row that was found is
pub numbered-number : (y : ℤ) (rows : List (List NamedTag)) (ms : List NamedTag) → numbered y rows ≡ Some ms → section_number ms ≡ Some y
numbered-number y [] ms h = absurd (none-some ms h)
numbered-number y (r ∷ rows) ms h = by (section_number r) refl h (numbered-number y rows ms) where
  by : (o : Option ℤ) → section_number r ≡ o → cond (is_number y o) (Some r) (numbered y rows) ≡ Some ms → (numbered y rows ≡ Some ms → section_number ms ≡ Some y) → section_number ms ≡ Some y
  by None e h more = more h
  by (Some z) e h more = at (int_eq y z) refl h where
    at : (b : Bool) → int_eq y z ≡ b → cond b (Some r) (numbered y rows) ≡ Some ms → section_number ms ≡ Some y
    at true f h = let same : r ≡ ms = same_Some r ms h in ap section_number (sym same) ∙ e ∙ ap Some (sym ((Decides-int_eq y z).0 f))
    at false f h = more h
