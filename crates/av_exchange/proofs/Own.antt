-- The names of an exchange's own files are not those of regions.
use Rattle.std.proofs.Common.{◌≡◌, ◌≢◌, ◌∙◌, ap, sym, refl, ℕ, List, codes, true, false, bytes_eq}
use Rattle.std.proofs.lemmas.Bool.{cases_Bool, true≢false}
use Rattle.std.proofs.lemmas.Slice.Eq.{bytes_eq-Decides}
use mathlib.Core.Logic.{inl, inr}
use Rattle.av_exchange.specs.Names.{is_own, part_of, journal_name, IsRegionName, IsBeside, part, new_journal, trial}

pub own_part : (name : List ℕ) → is_own (part_of name) ≡ true
own_part name = refl

pub same_part : (a b : List ℕ) → bytes_eq (part_of a) (part_of b) ≡ bytes_eq a b
same_part a b = refl

pub region_not_own : (name : List ℕ) → IsRegionName name → is_own name ≡ false
region_not_own name r = ap is_own r.named ∙ refl

pub journal_no_part : (name : List ℕ) → IsRegionName name → bytes_eq journal_name (part_of name) ≡ false
journal_no_part name r = ap (λ (n : List ℕ). bytes_eq journal_name (part_of n)) r.named ∙ refl

-- names that the test tells apart
pub apart : (m name : List ℕ) → is_own m ≡ false → is_own name ≡ true → bytes_eq m name ≡ false
apart m name foreign own = elim (cases_Bool (bytes_eq m name)) [
  | inl same ↦ absurd (true≢false (sym own ∙ (ap is_own (sym ((bytes_eq-Decides m name).0 same)) ∙ foreign)))
  | inr other ↦ other
]

pub apart_too : (m name : List ℕ) → is_own m ≡ true → is_own name ≡ false → bytes_eq m name ≡ false
apart_too m name own foreign = elim (cases_Bool (bytes_eq m name)) [
  | inl same ↦ absurd (true≢false (sym own ∙ (ap is_own ((bytes_eq-Decides m name).0 same) ∙ foreign)))
  | inr other ↦ other
]

pub beside_own : (name : List ℕ) → IsBeside name → is_own name ≡ true
beside_own name (part region r is) = ap is_own is ∙ refl
beside_own name (new_journal is) = ap is_own is ∙ refl
beside_own name (trial is) = ap is_own is ∙ refl

pub beside_no_journal : (name : List ℕ) → IsBeside name → bytes_eq journal_name name ≡ false
beside_no_journal name (part region r is) = ap (bytes_eq journal_name) is ∙ journal_no_part region r
beside_no_journal name (new_journal is) = ap (bytes_eq journal_name) is ∙ refl
beside_no_journal name (trial is) = ap (bytes_eq journal_name) is ∙ refl

pub beside_begins : (name : List ℕ) → IsBeside name → ((rest : List ℕ) → name ≢ part_of rest) → ⊥
beside_begins name (part region r is) never = never region is
beside_begins name (new_journal is) never = never (codes "journal-new") is
beside_begins name (trial is) never = never (codes "trial") is
