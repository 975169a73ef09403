-- Lists side by side, and what holds of each element.
use Rattle.std.proofs.Common.{◌≡◌, ℕ, suc, ◌<◌, List, [], ◌∷◌, ◌++◌, length, get_or, ap, subst, ◌∙◌, arith, append-nil, All}
use Rattle.std.specs.List.{AllByRecursion, AllZip, flat_map}
use Rattle.std.specs.List.Sorted.{IsPermutation}
use Rattle.std.proofs.lemmas.List.Concat.{flat_map-append}
use Rattle.std.proofs.lemmas.List.Elements.{recursion_from_All, All-from_recursion}
use Rattle.std.proofs.lemmas.List.Sorted.{All-permutation}

pub flat_push : {X A : Type 0} (f : X → List A) (xs : List X) (x : X) → flat_map f (xs ++ x ∷ []) ≡ flat_map f xs ++ f x
flat_push f xs x = flat_map-append f xs (x ∷ []) ∙ ap (λ l. flat_map f xs ++ l) (append-nil (f x))

pub zip_more : {X Y : Type 0} (R : X → Y → Type 0) (xs : List X) (ys : List Y) (x : X) (y : Y) → AllZip R xs ys → R x y → AllZip R (xs ++ x ∷ []) (ys ++ y ∷ [])
zip_more R [] [] x y h r = (r, tt)
zip_more R [] (b ∷ ys) x y h r = absurd h
zip_more R (a ∷ xs) [] x y h r = absurd h
zip_more R (a ∷ xs) (b ∷ ys) x y h r = (h.0, zip_more R xs ys x y h.1 r)

pub zip_append : {X Y : Type 0} (R : X → Y → Type 0) (xs us : List X) (ys vs : List Y) → AllZip R xs ys → AllZip R us vs → AllZip R (xs ++ us) (ys ++ vs)
zip_append R [] us [] vs h k = k
zip_append R [] us (b ∷ ys) vs h k = absurd h
zip_append R (a ∷ xs) us [] vs h k = absurd h
zip_append R (a ∷ xs) us (b ∷ ys) vs h k = (h.0, zip_append R xs us ys vs h.1 k)

-- what holds of all jobs that were filled holds of one that was taken
pub taken_holds : {X : Type 0} (P : X → Type 0) (all taken : List X) (x : X) (rest : List X) → All P all → IsPermutation all ((taken ++ x ∷ []) ++ rest) → P x
taken_holds {X} P all taken x rest h p = by taken (All-permutation P all _ p h) where
  by : (ts : List X) → All P ((ts ++ x ∷ []) ++ rest) → P x
  by [] a = a 0 x (omega arith)
  by (t ∷ ts) a = by ts (λ k d u. a (suc k) d (omega (arith, u)))

pub middle_holds : {X : Type 0} (P : X → Type 0) (all ys : List X) (x : X) (zs : List X) → All P all → all ≡ ys ++ x ∷ zs → P x
middle_holds {X} P all ys x zs h e = by ys (subst (All P) e h) where
  by : (ts : List X) → All P (ts ++ x ∷ zs) → P x
  by [] a = a 0 x (omega arith)
  by (t ∷ ts) a = by ts (λ k d u. a (suc k) d (omega (arith, u)))

pub zip_from : {A B : Type 0} (R : A → B → Type 0) (xs : List A) (ys : List B) → length ys ≡ length xs → ((i : ℕ) (d : B) → i < length xs → (x : A) × (x ≡ get_or xs i x) × R x (get_or ys i d)) → AllZip R xs ys
zip_from R [] [] n each = tt
zip_from R [] (y ∷ ys) n each = absurd (omega arith)
zip_from R (x ∷ xs) [] n each = absurd (omega arith)
zip_from {A} R (x ∷ xs) (y ∷ ys) n each =
    let at = each 0 y (omega arith) in let P : A → Type 0 = λ z. R z y in
    (subst P at.1 at.2, zip_from R xs ys (omega arith) (λ i d lt. each (suc i) d (omega arith)))

pub zip_through : {A B C : Type 0} (R : A → B → Type 0) (S : B → C → Type 0) (T : A → C → Type 0) → ((a : A) (b : B) (c : C) → R a b → S b c → T a c) → (xs : List A) (ys : List B) (zs : List C) → AllZip R xs ys → AllZip S ys zs → AllZip T xs zs
zip_through R S T step [] [] [] h k = tt
zip_through R S T step [] [] (z ∷ zs) h k = absurd k
zip_through R S T step [] (y ∷ ys) zs h k = absurd h
zip_through R S T step (x ∷ xs) [] zs h k = absurd h
zip_through R S T step (x ∷ xs) (y ∷ ys) [] h k = absurd k
zip_through R S T step (x ∷ xs) (y ∷ ys) (z ∷ zs) h k = (step x y z h.0 k.0, zip_through R S T step xs ys zs h.1 k.1)

pub front_holds : {X : Type 0} (P : X → Type 0) (all xs ys : List X) → All P all → all ≡ xs ++ ys → All P xs
front_holds {X} P all xs ys h e = All-from_recursion P xs (by xs (recursion_from_All P (xs ++ ys) (subst (All P) e h))) where
  by : (ts : List X) → AllByRecursion P (ts ++ ys) → AllByRecursion P ts
  by [] a = tt
  by (t ∷ ts) a = (a.0, by ts a.1)
