-- Lists of what stands for each chunk, one longer.
use Rattle.std.proofs.Common.{◌≡◌, ◌++◌, ◌∷◌, ◌+◌, ◌⊎◌, ◌∙◌, [], List, Option, Some, ℕ, zero, suc, inl, inr, refl, length, map, ap, sym, subst}
use Rattle.std.specs.List.{slice_get}
use Rattle.std.proofs.lemmas.Option.{same_Some, none-some}
use Rattle.std.proofs.lemmas.List.{map-append, length_push}
use Rattle.av_region.specs.Region.{stamp_of}
use Rattle.av_rewrite.specs.Regions.{AreMadeOf, AreStamps, IsMadeOf}

-- an element of a list that got one more
pub pushed : {X : Type 0} (xs : List X) (x y : X) (i : ℕ) → slice_get (xs ++ x ∷ []) i ≡ Some y → (slice_get xs i ≡ Some y) ⊎ ((i ≡ length xs) × (y ≡ x))
pushed [] x y zero e = inr (refl, sym (same_Some x y e))
pushed [] x y (suc i) e = absurd (none-some y e)
pushed (z ∷ xs) x y zero e = inl e
pushed (z ∷ xs) x y (suc i) e = elim (pushed xs x y i e) [
  | inl there ↦ inl there
  | inr last ↦ inr (ap suc last.0, last.1)
]

-- what is known of each element of a list is so of each of one more
pub pushed_each : {X : Type 0} (P : ℕ → X → Type 0) (xs : List X) (x : X) (n : ℕ) → length xs ≡ n → P n x
    → ((i : ℕ) (y : X) → slice_get xs i ≡ Some y → P i y) → (i : ℕ) (y : X) → slice_get (xs ++ x ∷ []) i ≡ Some y → P i y
pushed_each P xs x n many new old i y e = elim (pushed xs x y i e) [
  | inl there ↦ old i y there
  | inr last ↦ subst (λ j. P j y) (sym (last.0 ∙ many)) (subst (λ z. P n z) (sym last.1) new)
]

pub one_more : (Made : ℕ → List ℕ → List ℕ → Type 0) (region : List ℕ) (n : ℕ) (xs : List (Option (List ℕ))) (x : Option (List ℕ))
    → AreMadeOf Made region n xs → IsMadeOf Made region n x → AreMadeOf Made region (n + 1) (xs ++ x ∷ [])
one_more Made region n xs x old new = record {
  many = length_push xs x ∙ ap (λ k. k + 1) old.many;
  each = pushed_each (IsMadeOf Made region) xs x n old.many new old.each;
}

pub one_more_stamp : (region : List ℕ) (n : ℕ) (xs : List ℕ) (x : ℕ) → AreStamps region n xs → x ≡ stamp_of region n → AreStamps region (n + 1) (xs ++ x ∷ [])
one_more_stamp region n xs x old new = record {
  many = length_push xs x ∙ ap (λ k. k + 1) old.many;
  each = pushed_each (λ i s. s ≡ stamp_of region i) xs x n old.many new old.each;
}

pub none_yet : (Made : ℕ → List ℕ → List ℕ → Type 0) (region : List ℕ) → AreMadeOf Made region 0 []
none_yet Made region = record { many = refl; each = λ i y e. absurd (none-some y e) }

pub no_stamp_yet : (region : List ℕ) → AreStamps region 0 []
no_stamp_yet region = record { many = refl; each = λ i y e. absurd (none-some y e) }

-- the same of a list that is seen through a view of its elements
pub one_more_seen : {X : Type 0} (view : X → Option (List ℕ)) (Made : ℕ → List ℕ → List ℕ → Type 0) (region : List ℕ) (n : ℕ) (before after : List X) (x : X)
    → after ≡ before ++ x ∷ [] → AreMadeOf Made region n (map view before) → IsMadeOf Made region n (view x) → AreMadeOf Made region (n + 1) (map view after)
one_more_seen view Made region n before after x pushed_is old new =
    subst (λ (xs : List (Option (List ℕ))). AreMadeOf Made region (n + 1) xs) (sym (ap (map view) pushed_is ∙ map-append view before (x ∷ []))) (one_more Made region n (map view before) (view x) old new)
