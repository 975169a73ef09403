-- Sections given to the parts of their owners.
use Rattle.std.proofs.Common.{◌≡◌, ◌↔◌, ℕ, ℤ, zero, suc, ◌<◌, List, [], ◌∷◌, ◌++◌, length, get_or, set, Option, None, Some, ◌⊎◌, inl, inr, refl, sym, ap, ◌∙◌, subst, arith}
use Rattle.std.specs.List.{Contains}
use Rattle.std.proofs.lemmas.List.{get_or-set_same, get_or-set_other, length-map}
use Rattle.std.proofs.lemmas.List.Elements.{Contains-append_left, Contains-push, Contains-push_cases}
use Rattle.std.proofs.lemmas.Bool.{cases_eq}
use Rattle.std.proofs.lemmas.Option.{same_Some}
use Rattle.av_types.specs.declared.position.SectionPos.{SectionPos}
use Rattle.av_play.proofs.Lists.{none_contained}
use Rattle.av_cluster.specs.Joining.{key_of, Owners}
use Rattle.av_cluster.specs.Clusters.{parts_of, sections_of, IsGiven, AreBare, IsSharedTo, AreShared}
use Rattle.av_play.specs.declared.event.DueEntry.{DueEntry}
use Rattle.av_cluster.specs.declared.cluster_part.Cluster.{Cluster}

pub bare_more : (xs : List (List SectionPos)) → AreBare xs → AreBare (xs ++ [] ∷ [])
bare_more [] h zero = refl
bare_more [] h (suc n) = refl
bare_more (x ∷ xs) h zero = h zero
bare_more (x ∷ xs) h (suc n) = bare_more xs (λ m. h (suc m)) n

pub shared_none : (owners : Owners) (numbers : List ℕ) (xs : List (List SectionPos)) → AreBare xs → AreShared owners numbers [] xs
shared_none owners numbers xs h n s = (λ c. absurd (none_contained s (subst (λ l. Contains l s) (h n) c)), λ g. absurd (none_contained (key_of s) g.key))

same_keys : (s t : SectionPos) → key_of s ≡ key_of t → s ≡ t
same_keys s t e = λ i. record { x = (e i).0; y = (e i).1; z = (e i).2 }

module _ (owners : Owners) (numbers : List ℕ) (ks : List (ℤ × ℤ × ℤ)) (x : SectionPos) (old new : List (List SectionPos)) (h : AreShared owners numbers ks old) where
  earlier : (n : ℕ) (s : SectionPos) → IsSharedTo owners numbers ks n s → IsSharedTo owners numbers (ks ++ key_of x ∷ []) n s
  earlier n s g = record { key = Contains-append_left ks (key_of x ∷ []) (key_of s) g.key; owner = g.owner; owns = g.owns; of_part = g.of_part }

  key_or : (s : SectionPos) → Contains (ks ++ key_of x ∷ []) (key_of s) → Contains ks (key_of s) ⊎ (x ≡ s)
  key_or s c = by (Contains-push_cases ks (key_of x) (key_of s) c) where
    by : Contains ks (key_of s) ⊎ (key_of x ≡ key_of s) → Contains ks (key_of s) ⊎ (x ≡ s)
    by (inl d) = inl d
    by (inr e) = inr (same_keys x s e)

  shared_given : (o : ℕ) → owners x ≡ Some o → get_or numbers o 0 < length old → new ≡ set old (get_or numbers o 0) (get_or old (get_or numbers o 0) [] ++ x ∷ []) → AreShared owners numbers (ks ++ key_of x ∷ []) new
  shared_given o own l e n s = by (cases_eq n (get_or numbers o 0)) where
    by : (n ≡ get_or numbers o 0) ⊎ (¬ (n ≡ get_or numbers o 0)) → Contains (get_or new n []) s ↔ IsSharedTo owners numbers (ks ++ key_of x ∷ []) n s
    by (inl f) = (to, from) where
      now : get_or new n [] ≡ get_or old n [] ++ x ∷ []
      now = ap (λ ys. get_or ys n []) e ∙ ap (λ m. get_or (set old (get_or numbers o 0) (get_or old (get_or numbers o 0) [] ++ x ∷ [])) m []) f ∙ get_or-set_same old (get_or numbers o 0) _ [] l ∙ ap (λ m. get_or old m [] ++ x ∷ []) (sym f)

      to : Contains (get_or new n []) s → IsSharedTo owners numbers (ks ++ key_of x ∷ []) n s
      to c = cases (Contains-push_cases (get_or old n []) x s (subst (λ ys. Contains ys s) now c)) where
        cases : Contains (get_or old n []) s ⊎ (x ≡ s) → IsSharedTo owners numbers (ks ++ key_of x ∷ []) n s
        cases (inl d) = earlier n s ((h n s).0 d)
        cases (inr g) = record { key = subst (λ t. Contains (ks ++ key_of x ∷ []) (key_of t)) g (Contains-push ks (key_of x)); owner = o; owns = ap owners (sym g) ∙ own; of_part = sym f }

      from : IsSharedTo owners numbers (ks ++ key_of x ∷ []) n s → Contains (get_or new n []) s
      from g = subst (λ ys. Contains ys s) (sym now) (cases (key_or s g.key)) where
        cases : Contains ks (key_of s) ⊎ (x ≡ s) → Contains (get_or old n [] ++ x ∷ []) s
        cases (inl d) = Contains-append_left (get_or old n []) (x ∷ []) s ((h n s).1 (record { key = d; owner = g.owner; owns = g.owns; of_part = g.of_part }))
        cases (inr e2) = subst (Contains (get_or old n [] ++ x ∷ [])) e2 (Contains-push (get_or old n []) x)
    by (inr f) = (λ c. earlier n s ((h n s).0 (subst (λ ys. Contains ys s) now c)), from) where
      now : get_or new n [] ≡ get_or old n []
      now = ap (λ ys. get_or ys n []) e ∙ get_or-set_other old (get_or numbers o 0) n _ [] f

      from : IsSharedTo owners numbers (ks ++ key_of x ∷ []) n s → Contains (get_or new n []) s
      from g = subst (λ ys. Contains ys s) (sym now) (cases (key_or s g.key)) where
        cases : Contains ks (key_of s) ⊎ (x ≡ s) → Contains (get_or old n []) s
        cases (inl d) = (h n s).1 (record { key = d; owner = g.owner; owns = g.owns; of_part = g.of_part })
        cases (inr e2) = absurd (f (sym g.of_part ∙ ap (λ k. get_or numbers k 0) (same_Some g.owner o (sym g.owns ∙ ap owners (sym e2) ∙ own))))

  shared_not : owners x ≡ None → new ≡ old → AreShared owners numbers (ks ++ key_of x ∷ []) new
  shared_not none e n s = (λ c. earlier n s ((h n s).0 (subst (λ ys. Contains (get_or ys n []) s) e c)), λ g. subst (λ ys. Contains (get_or ys n []) s) (sym e) (cases g (key_or s g.key))) where
    cases : IsSharedTo owners numbers (ks ++ key_of x ∷ []) n s → Contains ks (key_of s) ⊎ (x ≡ s) → Contains (get_or old n []) s
    cases g (inl d) = (h n s).1 (record { key = d; owner = g.owner; owns = g.owns; of_part = g.of_part })
    cases g (inr e2) = let c : None ≡ Some g.owner = sym none ∙ ap owners e2 ∙ g.owns in cc

  pub shared_more : (ls : List (ℤ × ℤ × ℤ)) → ls ≡ ks ++ key_of x ∷ [] → ((k : ℕ) → owners x ≡ Some k → get_or numbers k 0 < length old) → IsGiven (owners x) numbers x old new → AreShared owners numbers ls new
  shared_more ls e inside g = subst (λ l. AreShared owners numbers l new) (sym e) (by (owners x) refl g) where
    by : (o : Option ℕ) → owners x ≡ o → IsGiven o numbers x old new → AreShared owners numbers (ks ++ key_of x ∷ []) new
    by None f i = shared_not f i
    by (Some o) f i = shared_given o f (inside o f) i

pub part_inside : (cs : List Cluster) (ps : List (List DueEntry)) (n : ℕ) → parts_of cs ≡ ps → n < length ps → n < length (sections_of cs)
part_inside cs ps n e l = let a = length-map cs (λ u. u.sections.items) in let b = length-map cs (λ u. u.entries.items) in let d = ap length e in omega arith
