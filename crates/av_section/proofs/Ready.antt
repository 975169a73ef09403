-- A palette that has each number below a limit.
use Rattle.std.proofs.Common.{◌≡◌, ℕ, ◌<◌, ◌+◌, ◌∙◌, Bool, true, false, if◌then◌else◌, List, [], ◌∷◌, ◌++◌, All, Contains, ap, arith, inl, inr, subst}
use Rattle.std.specs.Prelude.{◌||◌, nat_eq}
use Rattle.std.specs.List.{list_any}
use Rattle.std.specs.Cmp.{nat_eq_equiv}
use Rattle.std.proofs.lemmas.Bool.{cases_lt, eqb-true}
use Rattle.std.proofs.lemmas.List.Elements.{All-weaker}
use Rattle.std.proofs.lemmas.List.Folds.{list_any-append}
use Rattle.std.proofs.lemmas.Map.Views.{Contains-from_any, list_any-from_Contains}
use Rattle.av_section.specs.Packed.{HasAllBelow}

pub none_below : (palette : List ℕ) → HasAllBelow palette 0
none_below palette n low = absurd (omega (arith, low))

pub known_there : (palette : List ℕ) (limit : ℕ) → HasAllBelow palette limit → (n : ℕ) → n < limit → Contains palette n
known_there palette limit known n low = Contains-from_any (λ x y e. eqb-true x y e) n palette (known n low)

pub all_there : (palette : List ℕ) (limit : ℕ) → HasAllBelow palette limit → (numbers : List ℕ) → All (λ n. n < limit) numbers → All (Contains palette) numbers
all_there palette limit known numbers low = All-weaker (λ n. n < limit) (Contains palette) (known_there palette limit known) numbers low

-- one number more
pub known_pushed : (palette : List ℕ) (limit m : ℕ) → HasAllBelow palette limit → HasAllBelow (palette ++ m ∷ []) limit
known_pushed palette limit m known n low = list_any-append (nat_eq n) palette (m ∷ []) ∙ ap (λ b. b || list_any (nat_eq n) (m ∷ [])) (known n low)

-- one number more, or none
pub known_grown : (done : Bool) (palette : List ℕ) (limit m : ℕ) → HasAllBelow palette limit → HasAllBelow (if done then palette ++ m ∷ [] else palette) limit
known_grown true palette limit m known = known_pushed palette limit m known
known_grown false palette limit m known = known

-- the limit itself is in the palette
pub known_next : (palette : List ℕ) (limit : ℕ) → HasAllBelow palette limit → Contains palette limit → HasAllBelow palette (limit + 1)
known_next palette limit known there n low = elim (cases_lt n limit) [
  | inl below ↦ known n below
  | inr above ↦ (let same : limit ≡ n = omega (arith, above, low) in subst (λ m. list_any (nat_eq m) palette ≡ true) same (list_any-from_Contains nat_eq_equiv limit palette there))
]
