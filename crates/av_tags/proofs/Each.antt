-- A partial function at each element of a list.
use Rattle.std.proofs.Common.{◌≡◌, ℕ, zero, suc, ◌<◌, ◌+◌, List, [], ◌∷◌, ◌++◌, map, length, get_or, take, Option, Some, None, refl, sym, ap, ◌∙◌, arith, Bool, true, false}
use Rattle.std.proofs.lemmas.Bool.{and_parts}
use Rattle.std.proofs.lemmas.List.{length-map}
use Rattle.std.specs.List.{list_all}
use Rattle.std.proofs.Math.Bool.{and-false}
use Rattle.av_types.specs.Options.{◌>>=◌}
use Rattle.av_tags.specs.Shape.{each}

abbrev joined : {C : Type 0} → Option C → Option (List C) → Option (List C)
joined o rest = o >>= λ y. rest >>= λ ys. Some (y ∷ ys)

pub record IsJoined {C : Type 0} (o : Option C) (rest : Option (List C)) (all : List C) : Type 0 where
  pub first : C
  pub others : List C
  pub first_is : o ≡ Some first
  pub others_are : rest ≡ Some others
  pub all_are : all ≡ first ∷ others

-- what a list begins with, and what it goes on with
pub each_parts : {C : Type 0} (o : Option C) (rest : Option (List C)) (all : List C) → joined o rest ≡ Some all → IsJoined o rest all
each_parts None rest all h = cc
each_parts (Some y) None all h = cc
each_parts (Some y) (Some ys) all h = record { first = y; others = ys; first_is = refl; others_are = refl; all_are = let e : all ≡ y ∷ ys = cc in e }

one_more : {C : Type 0} (o : Option C) (next : Option (List C)) (first : C) (others ys : List C) (y : C)
    → o ≡ Some first → next ≡ Some (others ++ y ∷ []) → ys ≡ first ∷ others → joined o next ≡ Some (ys ++ y ∷ [])
one_more o next first others ys y a b c = rw (a, b, c) refl

module _ {A B C : Type 0} (f : B → Option C) (v : A → B) where
  -- one more element
  pub each_more : (xs : List A) (i : ℕ) (d : A) (ys : List C) (y : C) → i < length xs → each f (map v (take i xs)) ≡ Some ys → f (v (get_or xs i d)) ≡ Some y
      → each f (map v (take (i + 1) xs)) ≡ Some (ys ++ y ∷ [])
  each_more [] i d ys y low h e = absurd (omega arith)
  each_more (x ∷ xs) zero d ys y low h e = let none : ys ≡ [] = cc in rw (none, e) refl
  each_more (x ∷ xs) (suc i) d ys y low h e =
      let p = each_parts (f (v x)) (each f (map v (take i xs))) ys h in
      let step : suc i + 1 ≡ suc (i + 1) = omega arith in
      let rest = each_more xs i d p.others y (omega arith) p.others_are e in
      rw step (one_more (f (v x)) (each f (map v (take (i + 1) xs))) p.first p.others ys y p.first_is rest p.all_are)

  -- one that fails
  pub each_none : (xs : List A) (i : ℕ) (d : A) → i < length xs → f (v (get_or xs i d)) ≡ None → each f (map v xs) ≡ None
  each_none [] i d low e = absurd (omega arith)
  each_none (x ∷ xs) zero d low e = rw e refl
  each_none (x ∷ xs) (suc i) d low e = rw (each_none xs i d (omega arith) e) (none_joined (f (v x)))
    where
      none_joined : (o : Option C) → joined o None ≡ None
      none_joined None = refl
      none_joined (Some y) = refl

module _ {A B : Type 0} (p : B → Bool) (v : A → B) where
  -- one more element that passes a test
  pub list_all_more : (xs : List A) (i : ℕ) (d : A) → i < length xs → list_all p (map v (take i xs)) ≡ true → p (v (get_or xs i d)) ≡ true → list_all p (map v (take (i + 1) xs)) ≡ true
  list_all_more [] i d low h e = absurd (omega arith)
  list_all_more (x ∷ xs) zero d low h e = rw e refl
  list_all_more (x ∷ xs) (suc i) d low h e =
      let step : suc i + 1 ≡ suc (i + 1) = omega arith in
      let both = and_parts (p (v x)) (list_all p (map v (take i xs))) h in
      rw (step, both.0, list_all_more xs i d (omega arith) both.1 e) refl

  -- one that fails it
  pub list_all_fails : (xs : List A) (i : ℕ) (d : A) → i < length xs → p (v (get_or xs i d)) ≡ false → list_all p (map v xs) ≡ false
  list_all_fails [] i d low e = absurd (omega arith)
  list_all_fails (x ∷ xs) zero d low e = rw e refl
  list_all_fails (x ∷ xs) (suc i) d low e = rw (list_all_fails xs i d (omega arith) e) (and-false (p (v x)))

-- as many as there were
pub length-each : {B C : Type 0} (f : B → Option C) (xs : List B) (ys : List C) → each f xs ≡ Some ys → length ys ≡ length xs
length-each f [] ys h = let none : ys ≡ [] = cc in ap length none
length-each f (x ∷ xs) ys h =
    let p = each_parts (f x) (each f xs) ys h in
    ap length p.all_are ∙ ap suc (length-each f xs p.others p.others_are)

-- the same of lists that are seen by v and w
pub each_many : {A B C D : Type 0} (f : B → Option C) (v : A → B) (w : D → C) (xs : List A) (ys : List D) → each f (map v xs) ≡ Some (map w ys) → length ys ≡ length xs
each_many f v w xs ys h = sym (length-map ys w) ∙ length-each f (map v xs) (map w ys) h ∙ length-map xs v
