-- What waits in each level.
use Rattle.std.proofs.Common.{◌≡◌, ◌≢◌, ℕ, ◌+◌, ◌<◌, ◌≤◌, ◌⊎◌, inl, inr, ⊎_elim, List, [], ◌∷◌, ◌++◌, length, get_or, set, refl, sym, ap, ◌∙◌, subst, below_more, arith}
use Rattle.std.specs.Prelude.{Contains, map, MatchOption, Option, Some, None}
use Rattle.std.specs.Option.{option_to_list}
use Rattle.std.proofs.lemmas.List.{map-set, get_or-map, get_or-set_same, get_or-set_other, length-map}
use Rattle.std.proofs.lemmas.List.Elements.{Contains-append_left, Contains-push, Contains-push_cases}
use Rattle.std.proofs.Math.ListN.{get_or-eq_default}
use Rattle.std.proofs.lemmas.Bool.{cases_lt}
use Rattle.std.proofs.lemmas.Bool.Decides.{eqb_tells}
use Rattle.av_types.specs.declared.position.Pos.{Pos}
use Rattle.av_flood.specs.Flooding.{Levels, IsPushed, IsPopped, IsNone}

module _ {X : Type 0} (f : X → List Pos) (xs : List X) (i : ℕ) where
  at_set : (x : X) → i < length xs → get_or (map f (set xs i x)) i [] ≡ f x
  at_set x l = ap (λ ys. get_or ys i []) (map-set f xs i x) ∙ get_or-set_same (map f xs) i (f x) [] (simp length-map l)

  beside_set : (x : X) (n : ℕ) → n ≢ i → get_or (map f (set xs i x)) n [] ≡ get_or (map f xs) n []
  beside_set x n ne = ap (λ ys. get_or ys n []) (map-set f xs i x) ∙ get_or-set_other (map f xs) i n (f x) [] ne

  was_at : (d : X) → i < length xs → get_or (map f xs) i [] ≡ f (get_or xs i d)
  was_at d l = get_or-map f xs i d [] l

  pub IsPushed-set : (d x : X) (p : Pos) → i < length xs → d ≡ get_or xs i d → f x ≡ f d ++ p ∷ [] → IsPushed (λ n. get_or (map f xs) n []) (λ n. get_or (map f (set xs i x)) n []) i p
  IsPushed-set d x p l is e =
      record {
        here = at_set x l ∙ e ∙ ap (λ ys. ys ++ p ∷ []) (ap f is ∙ sym (was_at d l));
        others = beside_set x;
      }

  pub IsPopped-set : (d x : X) (p : Pos) → i < length xs → d ≡ get_or xs i d → f d ≡ f x ++ p ∷ [] → IsPopped (λ n. get_or (map f xs) n []) (λ n. get_or (map f (set xs i x)) n []) i p
  IsPopped-set d x p l is e =
      record {
        here = was_at d l ∙ ap f (sym is) ∙ e ∙ ap (λ ys. ys ++ p ∷ []) (sym (at_set x l));
        others = beside_set x;
      }

  pub IsNone-set : (d x : X) → i < length xs → d ≡ get_or xs i d → f d ≡ f x ++ [] → f x ≡ [] → IsNone (λ n. get_or (map f xs) n []) (λ n. get_or (map f (set xs i x)) n []) i
  IsNone-set d x l is e none =
      record {
        here = was_at d l ∙ ap f (sym is) ∙ e ∙ ap (λ ys. ys ++ []) none;
        same = λ n. ⊎_elim (λ h. subst (λ m. get_or (map f (set xs i x)) m [] ≡ get_or (map f xs) m []) (sym h.1) (at_set x l ∙ none ∙ sym (was_at d l ∙ ap f (sym is) ∙ e ∙ ap (λ ys. ys ++ []) none))) (λ h. beside_set x n h.1) (eqb_tells n i);
      }

  -- one list more is empty
  pub emptied_more : (x : X) → i < length xs → f x ≡ [] → ((n : ℕ) → n < i → get_or (map f xs) n [] ≡ []) → (n : ℕ) → n < i + 1 → get_or (map f (set xs i x)) n [] ≡ []
  emptied_more x l none before = below_more (λ n. get_or (map f (set xs i x)) n [] ≡ []) i (λ n m. let other : n ≢ i = omega arith in beside_set x n other ∙ before n m) (at_set x l ∙ none)

  -- and beyond the last there is none
  pub emptied_all : length xs ≤ i → ((n : ℕ) → n < i → get_or (map f xs) n [] ≡ []) → (n : ℕ) → get_or (map f xs) n [] ≡ []
  emptied_all long before n = ⊎_elim (λ m. before n m) (λ m. let past : length xs ≤ n = omega (arith, long, m) in get_or-eq_default (map f xs) [] (simp length-map past)) (cases_lt n i)

-- what a push and a pop change, block by block
pub IsPushed-kept : (old new : Levels) (n : ℕ) (p : Pos) → IsPushed old new n p → (v : ℕ) (q : Pos) → Contains (old v) q → Contains (new v) q
IsPushed-kept old new n p h v q w =
    ⊎_elim (λ e. subst (λ m. Contains (new m) q) (sym e.1) (subst (λ ys. Contains ys q) (sym h.here) (Contains-append_left (old n) (p ∷ []) q (subst (λ m. Contains (old m) q) e.1 w))))
    (λ e. subst (λ ys. Contains ys q) (sym (h.others v e.1)) w) (eqb_tells v n)

pub IsPushed-only : (old new : Levels) (n : ℕ) (p : Pos) → IsPushed old new n p → (v : ℕ) (q : Pos) → Contains (new v) q → Contains (old v) q ⊎ ((v ≡ n) × (q ≡ p))
IsPushed-only old new n p h v q w =
    ⊎_elim (λ e. ⊎_elim (λ a. inl (subst (λ m. Contains (old m) q) (sym e.1) a)) (λ a. inr (e.1, sym a))
    (Contains-push_cases (old n) p q (subst (λ ys. Contains ys q) h.here (subst (λ m. Contains (new m) q) e.1 w))))
    (λ e. inl (subst (λ ys. Contains ys q) (h.others v e.1) w)) (eqb_tells v n)

pub IsPushed-there : (old new : Levels) (n : ℕ) (p : Pos) → IsPushed old new n p → Contains (new n) p
IsPushed-there old new n p h = subst (λ ys. Contains ys p) (sym h.here) (Contains-push (old n) p)

-- a pop is a push backwards
pub IsPopped-back : (old new : Levels) (n : ℕ) (p : Pos) → IsPopped old new n p → IsPushed new old n p
IsPopped-back old new n p h = record { here = h.here; others = λ m ne. sym (h.others m ne) }

none_of : (xs : List Pos) → length xs ≡ 0 → xs ≡ []
none_of [] e = refl
none_of (x ∷ xs) e = absurd (omega arith)

-- a pop of one of several lists
pub popped_or_none : {X : Type 0} (f : X → List Pos) (xs : List X) (i : ℕ) (d x : X) (r : Option Pos) → i < length xs → d ≡ get_or xs i d → f d ≡ f x ++ option_to_list r
    → MatchOption r (length (f x) ≡ 0) (λ p. Unit {0})
    → MatchOption r (IsNone (λ n. get_or (map f xs) n []) (λ n. get_or (map f (set xs i x)) n []) i) (IsPopped (λ n. get_or (map f xs) n []) (λ n. get_or (map f (set xs i x)) n []) i)
popped_or_none f xs i d x None l is e none = IsNone-set f xs i d x l is e (none_of (f x) none)
popped_or_none f xs i d x (Some p) l is e none = IsPopped-set f xs i d x p l is e
