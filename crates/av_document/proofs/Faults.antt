-- What follows where no fault holds, and that none holds of what was written.
use Rattle.std.proofs.Common.{◌≡◌, ℕ, List, [], ◌∷◌, ◌++◌, Bool, true, false, None, refl, sym}
use Rattle.std.proofs.lemmas.Option.{none-some}
use Rattle.av_types.specs.Faults.{least, lesser}
use Rattle.av_section.specs.BlockStates.{when}

pub least_none : (ns : List ℕ) → least ns ≡ None → ns ≡ []
least_none [] h = refl
least_none (n ∷ ns) h = absurd (none-some (lesser n (least ns)) (sym h))

pub no_parts : (xs ys : List ℕ) → xs ++ ys ≡ [] → (xs ≡ []) × (ys ≡ [])
no_parts [] ys h = (refl, h)
no_parts (x ∷ xs) ys h = absurd (let e : x ∷ (xs ++ ys) ≡ [] = h in cc)

pub when_not : (b : Bool) (n : ℕ) → when b n ≡ [] → b ≡ false
when_not true n h = absurd (let e : n ∷ [] ≡ [] = h in cc)
when_not false n h = refl
