-- Lists: equal indices, the first that passes, clones.
use Rattle.std.proofs.Common.{◌≡◌, ℕ, suc, ◌+◌, List, [], ◌∷◌, map, Bool, true, false, ◌&&◌, Option, Some, None, option_map, cond, refl, ap, ◌∙◌, sym, arith}
use Rattle.std.specs.List.{position, position_from, list_any, AllZip}
use Rattle.std.proofs.lemmas.Iterator.Adapters.{position_from-zero}
use Rattle.std.specs.Cmp.Lexicographic.{pointwise}
use Rattle.av_state.specs.BlockState.{index_where}

pub pointwise-map : {A B : Type 0} (E : B → B → Bool) (f : A → B) (xs ys : List A) → pointwise E (map f xs) (map f ys) ≡ pointwise (λ x y. E (f x) (f y)) xs ys
pointwise-map E f [] [] = refl
pointwise-map E f [] (y ∷ ys) = refl
pointwise-map E f (x ∷ xs) [] = refl
pointwise-map E f (x ∷ xs) (y ∷ ys) = ap (λ b. E (f x) (f y) && b) (pointwise-map E f xs ys)

shifted : (i : ℕ) (o : Option ℕ) → option_map (λ k. i + k) (option_map suc o) ≡ option_map (λ k. (i + 1) + k) o
shifted i None = refl
shifted i (Some k) = let e : i + suc k ≡ (i + 1) + k = omega arith in ap Some e

position_from-is : {A : Type 0} (p : A → Bool) (i : ℕ) (xs : List A) → position_from p i xs ≡ option_map (λ k. i + k) (index_where p xs)
position_from-is p i [] = refl
position_from-is p i (x ∷ xs) = elim (p x) as (λ b. cond b (Some i) (position_from p (i + 1) xs) ≡ option_map (λ k. i + k) (cond b (Some 0) (option_map suc (index_where p xs))))
    [ true ↦ (let e : i ≡ i + 0 = omega arith in ap Some e) | false ↦ position_from-is p (i + 1) xs ∙ sym (shifted i (index_where p xs)) ]

from_zero : (o : Option ℕ) → option_map (λ k. 0 + k) o ≡ o
from_zero None = refl
from_zero (Some k) = let e : 0 + k ≡ k = omega arith in ap Some e

pub position-is : {A : Type 0} (p : A → Bool) (xs : List A) → position p xs ≡ index_where p xs
position-is p xs = position_from-zero p xs ∙ position_from-is p 0 xs ∙ from_zero (index_where p xs)

-- a test of values is a test of what they stand for
pub index_where-views : {A B : Type 0} (E : A → Bool) (v : A → B) (p : B → Bool) → ((x : A) → E x ≡ p (v x)) → (xs : List A) → index_where E xs ≡ index_where p (map v xs)
index_where-views E v p same [] = refl
index_where-views E v p same (x ∷ xs) = ap (λ b. cond b (Some 0) (option_map suc (index_where E xs))) (same x) ∙ ap (λ o. cond (p (v x)) (Some 0) (option_map suc o)) (index_where-views E v p same xs)

pub list_any-views : {A B : Type 0} (E : A → Bool) (v : A → B) (p : B → Bool) → ((x : A) → E x ≡ p (v x)) → (xs : List A) → list_any E xs ≡ list_any p (map v xs)
list_any-views E v p same [] = refl
list_any-views E v p same (x ∷ xs) = rw (same x, list_any-views E v p same xs) refl

pub position-views : {A B : Type 0} (E : A → Bool) (v : A → B) (p : B → Bool) → ((x : A) → E x ≡ p (v x)) → (xs : List A) → position E xs ≡ index_where p (map v xs)
position-views E v p same xs = position-is E xs ∙ index_where-views E v p same xs

-- clones have the views of what they are made of
pub AllZip-views : {A B : Type 0} (v : A → B) (xs ys : List A) → AllZip (λ x y. v y ≡ v x) xs ys → map v ys ≡ map v xs
AllZip-views v [] [] h = refl
AllZip-views v [] (y ∷ ys) h = absurd h
AllZip-views v (x ∷ xs) [] h = absurd h
AllZip-views v (x ∷ xs) (y ∷ ys) h = ap (λ z. z ∷ map v ys) h.0 ∙ ap (λ zs. v x ∷ zs) (AllZip-views v xs ys h.1)
