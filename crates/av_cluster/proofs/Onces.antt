-- No part has a section twice.
use Rattle.std.proofs.Common.{◌≡◌, ℕ, zero, suc, ℤ, ◌<◌, Bool, true, false, List, [], ◌∷◌, ◌++◌, length, get_or, set, take, Option, None, Some, ◌⊎◌, inl, inr, refl, sym, ap, ◌∙◌, subst, arith}
use Rattle.std.specs.List.{Contains, AllPairs, IsDistinct}
use Rattle.std.proofs.lemmas.List.{get_or-set_same, get_or-set_other, get_or-take, length-take, get_or_default}
use Rattle.std.proofs.lemmas.List.Quantifiers.{all_pairs_push}
use Rattle.std.proofs.lemmas.Map.Made.{AllPairs-from_IsDistinct}
use Rattle.std.proofs.lemmas.Bool.{cases_eq}
use Rattle.av_types.specs.declared.position.SectionPos.{SectionPos}
use Rattle.av_types.proofs.SamePositions.{same_section_is}
use Rattle.av_cells.specs.Positions.{same_section}
use Rattle.av_cluster.specs.Joining.{same_key, key_of, Owners}
use Rattle.av_cluster.specs.Clusters.{IsGiven, AreBare, AreShared, AreOnce}
use Rattle.av_cluster.proofs.Joinings.{same_keyed, own_key}

pub once_none : (xs : List (List SectionPos)) → AreBare xs → AreOnce xs
once_none xs h n = subst (AllPairs (λ s t. same_section t s ≡ false)) (sym (h n)) (λ i j d l m. absurd (omega arith))

not_same : (s t : SectionPos) → ¬ (s ≡ t) → same_section s t ≡ false
not_same s t h = by (same_section s t) refl where
  by : (b : Bool) → same_section s t ≡ b → b ≡ false
  by true e = absurd (h (same_section_is s t e))
  by false e = refl

-- one more section, which no part has
pub once_more : (owners : Owners) (numbers : List ℕ) (ks : List (ℤ × ℤ × ℤ)) (x : SectionPos) (old new : List (List SectionPos)) → AreShared owners numbers ks old → AreOnce old → ¬ Contains ks (key_of x)
    → ((k : ℕ) → owners x ≡ Some k → get_or numbers k 0 < length old) → IsGiven (owners x) numbers x old new → AreOnce new
once_more owners numbers ks x old new shared once fresh inside g = by (owners x) refl g where
  apart : (m k : ℕ) (d : SectionPos) → k < length (get_or old m []) → same_section x (get_or (get_or old m []) k d) ≡ false
  apart m k d l = not_same x (get_or (get_or old m []) k d) (λ e. fresh ((shared m x).0 (k, l, any k d l ∙ sym e)).key) where
    any : (k : ℕ) (d : SectionPos) → k < length (get_or old m []) → get_or (get_or old m []) k x ≡ get_or (get_or old m []) k d
    any k d l = same_there (get_or old m []) k x d l where
      same_there : (xs : List SectionPos) (k : ℕ) (c d : SectionPos) → k < length xs → get_or xs k c ≡ get_or xs k d
      same_there [] k c d l = absurd (omega arith)
      same_there (y ∷ ys) zero c d l = refl
      same_there (y ∷ ys) (suc k) c d l = same_there ys k c d (omega arith)

  by : (o : Option ℕ) → owners x ≡ o → IsGiven o numbers x old new → AreOnce new
  by None e i n = subst (λ ys. AllPairs (λ s t. same_section t s ≡ false) (get_or ys n [])) (sym i) (once n)
  by (Some o) e i n = at (cases_eq n m) where
    m : ℕ
    m = get_or numbers o 0

    at : (n ≡ m) ⊎ (¬ (n ≡ m)) → AllPairs (λ s t. same_section t s ≡ false) (get_or new n [])
    at (inl f) =
        subst (AllPairs (λ s t. same_section t s ≡ false))
        (sym (ap (λ ys. get_or ys n []) i ∙ ap (λ k. get_or (set old m (get_or old m [] ++ x ∷ [])) k []) f ∙ get_or-set_same old m (get_or old m [] ++ x ∷ []) [] (inside o e)))
        (all_pairs_push (λ s t. same_section t s ≡ false) (get_or old m []) x (once m) (apart m))
    at (inr f) = subst (AllPairs (λ s t. same_section t s ≡ false)) (sym (ap (λ ys. get_or ys n []) i ∙ get_or-set_other old m n (get_or old m [] ++ x ∷ []) [] f)) (once n)

-- a key is not among those before it
pub key_fresh : (ks : List (ℤ × ℤ × ℤ)) → IsDistinct same_key ks → (i : ℕ) (d : ℤ × ℤ × ℤ) → i < length ks → ¬ Contains (take i ks) (get_or ks i d)
key_fresh ks h i d l c =
    let apart = AllPairs-from_IsDistinct same ks h in
    let k = c.0 in
    let below : k < length (take i ks) = c.1 in
    let inside : k < i = omega (arith, length-take i ks) in
    apart k i (get_or ks i d) inside l (sym (get_or-take i ks k (get_or ks i d) inside) ∙ c.2 ∙ get_or_default ks i d (get_or ks i d) l)
  where
    section : ℤ × ℤ × ℤ → SectionPos
    section k = record { x = k.0; y = k.1; z = k.2 }

    same : (a b : ℤ × ℤ × ℤ) → (same_key a b ≡ true → a ≡ b) × (a ≡ b → same_key a b ≡ true)
    same a b = (λ e. ap key_of (same_keyed (section a) (section b) e), λ e. ap (λ c. same_key a c) (sym e) ∙ own_key (section a))
