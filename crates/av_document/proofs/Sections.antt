-- Sections written by rising numbers have no fault.
use Rattle.std.proofs.Common.{◌≡◌, List, [], ◌∷◌, ◌++◌, ℤ, ◌<ℤ◌, ◌≤ℤ◌, Bool, true, false, ◌&&◌, ◌||◌, Some, None, Option, refl, ap, ◌∙◌, subst, arith}
use Rattle.std.specs.Prelude.{codes, int_lt}
use Rattle.std.specs.List.{list_any, flat_map}
use Rattle.std.specs.Ordering.{int_eq}
use Rattle.std.proofs.lemmas.Int.{ints}
use Rattle.std.proofs.lemmas.Bool.{and_parts}
use Rattle.std.proofs.lemmas.Bool.Decides.{Decides-int_eq}
use Rattle.av_types.specs.declared.position.Height.{Height}
use Rattle.av_types.specs.Positions.{is_section_of}
use Rattle.av_tags.specs.Nbt.{NamedTag}
use Rattle.av_tags.specs.ByName.{tag_of}
use Rattle.av_tags.specs.Shape.{compound_of}
use Rattle.av_document.specs.Chunk.{is_other, section_faults}
use Rattle.av_document.specs.Working.{is_bad_at, with_number, are_bad_sections}
use Rattle.av_document.specs.Layout.{kept_section, all_of}
use Rattle.av_document.proofs.Rows.{GivesNumbered}
use Rattle.av_document.proofs.Numbers.{rises_from, lt_from}

-- none is above
abbrev AtMost : ℤ → List ℤ → Type 0
AtMost top [] = Unit {0}
AtMost top (b ∷ bs) = (b ≤ℤ top) × AtMost top bs

raised : (top y : ℤ) (bs : List ℤ) → top <ℤ y → AtMost top bs → AtMost y bs
raised top y [] lt h = tt
raised top y (b ∷ bs) lt h = (let first : b ≤ℤ top = h.0 in omega (arith, ints), raised top y bs lt h.1)

differs : (y b : ℤ) → b <ℤ y → int_eq y b ≡ false
differs y b lt = by (int_eq y b) refl where
  by : (v : Bool) → int_eq y b ≡ v → v ≡ false
  by true e = let same : y ≡ b = (Decides-int_eq y b).0 e in absurd (let h : b <ℤ b = subst (λ v. b <ℤ v) same lt in omega (arith, ints, h))
  by false e = refl

not_before : (top y : ℤ) (bs : List ℤ) → top <ℤ y → AtMost top bs → list_any (int_eq y) bs ≡ false
not_before top y [] lt h = refl
not_before top y (b ∷ bs) lt h =
    let first : b ≤ℤ top = h.0 in
    let below : b <ℤ y = omega (arith, ints) in
    ap (λ v. v || list_any (int_eq y) bs) (differs y b below) ∙ not_before top y bs lt h.1

-- a row of a number in the height has a Compound as its `block_states`, or none
abbrev pub GivesShaped : Height → (ℤ → Option (List NamedTag)) → Type 0
GivesShaped h f = (y : ℤ) (ms : List NamedTag) → f y ≡ Some ms → is_section_of h y ≡ true → is_other compound_of (tag_of (codes "block_states") ms) ≡ false

pub are_good_sections : (h : Height) (f : ℤ → Option (List NamedTag)) → GivesNumbered f → GivesShaped h f → (top : ℤ) (before ys : List ℤ) → AtMost top before → rises_from top ys ≡ true → are_bad_sections h before (all_of f ys) ≡ false
are_good_sections h f gives shaped top before [] low up = refl
are_good_sections h f gives shaped top before (y ∷ ys) low up =
    let parts = and_parts (int_lt top y) (rises_from y ys) up in
    let lt : top <ℤ y = lt_from top y parts.0 in
    let same : y ≤ℤ y = omega (arith, ints) in
    by (f y) refl lt
    (are_good_sections h f gives shaped y before ys (raised top y before lt low) parts.1)
    (are_good_sections h f gives shaped y (y ∷ before) ys (same, raised top y before lt low) parts.1)
  where
    shape : (ms : List NamedTag) → f y ≡ Some ms → (b : Bool) → is_section_of h y ≡ b → (b && is_other compound_of (tag_of (codes "block_states") ms)) ≡ false
    shape ms e true inside = shaped y ms e inside
    shape ms e false inside = refl

    by : (o : Option (List NamedTag)) → f y ≡ o → top <ℤ y → are_bad_sections h before (all_of f ys) ≡ false → are_bad_sections h (y ∷ before) (all_of f ys) ≡ false
        → are_bad_sections h before (kept_section o ++ all_of f ys) ≡ false
    by None e lt skipped more = skipped
    by (Some ms) e lt skipped more =
        ap (λ o. is_bad_at h before ms o || are_bad_sections h (with_number before o) (all_of f ys)) (gives y ms e)
        ∙ ap (λ b. (b || (is_section_of h y && is_other compound_of (tag_of (codes "block_states") ms))) || are_bad_sections h (y ∷ before) (all_of f ys)) (not_before top y before lt low)
        ∙ ap (λ b. b || are_bad_sections h (y ∷ before) (all_of f ys)) (shape ms e (is_section_of h y) refl)
        ∙ more

pub no_section_faults : (h : Height) (f : ℤ → Option (List NamedTag)) → ((y : ℤ) (ms : List NamedTag) → f y ≡ Some ms → section_faults h ms ≡ []) → (ys : List ℤ) → flat_map (section_faults h) (all_of f ys) ≡ []
no_section_faults h f none [] = refl
no_section_faults h f none (y ∷ ys) = by (f y) refl (no_section_faults h f none ys) where
  by : (o : Option (List NamedTag)) → f y ≡ o → flat_map (section_faults h) (all_of f ys) ≡ [] → flat_map (section_faults h) (kept_section o ++ all_of f ys) ≡ []
  by None e more = more
  by (Some ms) e more = ap (λ l. l ++ flat_map (section_faults h) (all_of f ys)) (none y ms e) ∙ more
