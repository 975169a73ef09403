-- Lists of which one element counts.
use Rattle.std.proofs.Common.{◌≡◌, ℕ, zero, suc, ◌+◌, ◌<◌, List, [], ◌∷◌, ◌++◌, length, slice_index_or, refl, sym, subst, ◌∙◌, arith, ◌⊎◌, inl, inr, append-nil}
use Rattle.std.specs.List.{AllByRecursion, AllZip, flat_map, Contains}
use Rattle.std.specs.List.Sorted.{IsPermutation}
use Rattle.std.proofs.lemmas.List.Recursion.{is_sum_by}
use Rattle.std.proofs.lemmas.List.Sorted.{sum_by-IsPermutation}

-- some element is of the kind
abbrev pub Has : {X : Type 0} → (X → Type 0) → List X → Type 0
Has P [] = ⊥
Has P (x ∷ xs) = P x ⊎ Has P xs

has_at : {X : Type 0} (P : X → Type 0) (xs : List X) (i : ℕ) (d : X) → i < length xs → P (slice_index_or xs i d) → Has P xs
has_at P [] i d h p = absurd (omega arith)
has_at P (x ∷ xs) zero d h p = inl p
has_at P (x ∷ xs) (suc i) d h p = inr (has_at P xs i d (omega arith) p)

pub has_contained : {X : Type 0} (P : X → Type 0) (xs : List X) (x : X) → Contains xs x → P x → Has P xs
has_contained P xs x c p = has_at P xs c.0 x c.1 (subst P (sym c.2) p)

pub has_then : {X : Type 0} (P Q : X → Type 0) → ((x : X) → P x → Q x) → (xs : List X) → Has P xs → Has Q xs
has_then P Q f [] h = absurd h
has_then P Q f (x ∷ xs) (inl h) = inl (f x h)
has_then P Q f (x ∷ xs) (inr h) = inr (has_then P Q f xs h)

-- added up
abbrev pub total : {X : Type 0} → (X → ℕ) → List X → ℕ
total f [] = 0
total f (x ∷ xs) = f x + total f xs

pub total_permuted : {X : Type 0} (f : X → ℕ) (xs ys : List X) → IsPermutation xs ys → total f ys ≡ total f xs
total_permuted f xs ys h = is_sum_by (total f) f refl (λ x zs. refl) ys ∙ sum_by-IsPermutation f xs ys h ∙ sym (is_sum_by (total f) f refl (λ x zs. refl) xs)

-- an element that counts gives all, and one that does not gives nothing
pub record Gives {X A : Type 0} (c : X → ℕ) (f : X → List A) (all : List A) (x : X) : Type 0 where
  pub one : c x ≡ 1 → f x ≡ all
  pub none : c x ≡ 0 → f x ≡ []
  pub either : (c x ≡ 0) ⊎ (c x ≡ 1)

pub none_counts : {X A : Type 0} (c : X → ℕ) (f : X → List A) (all : List A) (xs : List X) → AllByRecursion (Gives c f all) xs → total c xs ≡ 0 → flat_map f xs ≡ []
none_counts c f all [] e t = refl
none_counts c f all (x ∷ xs) e t = rw (e.0.none (omega arith)) (none_counts c f all xs e.1 (omega arith))

pub one_counts : {X A : Type 0} (c : X → ℕ) (f : X → List A) (all : List A) (xs : List X) → AllByRecursion (Gives c f all) xs → total c xs ≡ 1 → flat_map f xs ≡ all
one_counts c f all [] e t = absurd (omega arith)
one_counts {X} {A} c f all (x ∷ xs) e t = by e.0.either (λ u. none_counts c f all xs e.1 u) (λ u. one_counts c f all xs e.1 u) where
  by : (c x ≡ 0) ⊎ (c x ≡ 1) → (total c xs ≡ 0 → flat_map f xs ≡ []) → (total c xs ≡ 1 → flat_map f xs ≡ all) → f x ++ flat_map f xs ≡ all
  by (inl z) zero_rest one_rest = rw (e.0.none z) (one_rest (omega arith))
  by (inr o) zero_rest one_rest = rw (e.0.one o, zero_rest (omega arith)) (append-nil all)

pub flat_zip : {X Y A : Type 0} (R : X → Y → Type 0) (f : X → List A) (h : Y → List A) → ((x : X) (y : Y) → R x y → h y ≡ f x) → (xs : List X) (ys : List Y) → AllZip R xs ys → flat_map h ys ≡ flat_map f xs
flat_zip R f h e [] [] z = refl
flat_zip R f h e [] (y ∷ ys) z = absurd z
flat_zip R f h e (x ∷ xs) [] z = absurd z
flat_zip R f h e (x ∷ xs) (y ∷ ys) z = rw (e x y z.0, flat_zip R f h e xs ys z.1) refl
