-- What the end of a ring owes.
use Rattle.std.proofs.Common.{◌≡◌, Bool, true, false, List, [], ◌∷◌, ◌++◌, ◌||◌, map, All, sym, refl, ap, subst, ◌∙◌}
use Rattle.std.proofs.lemmas.List.{append-nil}
use Rattle.std.proofs.lemmas.List.Folds.{list_any-append}
use Rattle.std.proofs.lemmas.Grind.{flat_map-append}
use Rattle.std.specs.List.{AllByRecursion, flat_map, list_any}
use Rattle.std.proofs.lemmas.List.Elements.{All-from_recursion, All-push}
use Rattle.std.specs.List.Sorted.{IsPermutation}
use Rattle.std.proofs.lemmas.List.Sorted.{IsPermutation-append_comm, IsPermutation-append_left, IsPermutation-trans}
use Rattle.av_ring.specs.Shown.{SeatShown}

flip : (a b : Bool) → (b || (a || false)) ≡ true → (a || b) ≡ true
flip true b e = refl
flip false true e = refl
flip false false e = e

module _ {J : Type 0} where
  -- the last seat first, and then the others
  pub all-taken : (told left : List J) (all rest : List (SeatShown J)) (last : SeatShown J) → all ≡ rest ++ last ∷ []
      → IsPermutation told ((last.taken ++ flat_map (λ (s : SeatShown J). s.taken) rest) ++ left) → IsPermutation told (flat_map (λ (s : SeatShown J). s.taken) all ++ left)
  all-taken told left all rest last is p =
      let f = λ (s : SeatShown J). s.taken in
      let same : flat_map f all ≡ flat_map f rest ++ last.taken = ap (flat_map f) is ∙ flat_map-append f rest (last ∷ []) ∙ ap (λ (l : List J). flat_map f rest ++ l) (append-nil last.taken) in
      IsPermutation-trans _ _ _ p (rw same (IsPermutation-append_left left _ _ (IsPermutation-append_comm last.taken (flat_map f rest))))

  -- what holds of what one was told holds of each, where all were told the same
  each-whole : (told all_taken : List J) (rest : List (SeatShown J)) → IsPermutation told all_taken → AllByRecursion (λ (t : List J). t ≡ told) (map (λ (s : SeatShown J). s.jobs) rest)
      → AllByRecursion (λ (s : SeatShown J). IsPermutation s.jobs all_taken) rest
  each-whole told all_taken [] p same = tt
  each-whole told all_taken (s ∷ rest) p same = (subst (λ (l : List J). IsPermutation l all_taken) (sym same.0) p, each-whole told all_taken rest p same.1)

  pub all-whole : (all_taken : List J) (all rest : List (SeatShown J)) (last : SeatShown J) → all ≡ rest ++ last ∷ [] → IsPermutation last.jobs all_taken
      → AllByRecursion (λ (t : List J). t ≡ last.jobs) (map (λ (s : SeatShown J). s.jobs) rest) → All (λ s. IsPermutation s.jobs all_taken) all
  all-whole all_taken all rest last is p same =
      let Whole : SeatShown J → Type 0 = λ s. IsPermutation s.jobs all_taken in
      subst (All Whole) (sym is) (All-push Whole rest last (All-from_recursion Whole rest (each-whole last.jobs all_taken rest p same)) p)

  pub any-dry : (all rest : List (SeatShown J)) (last : SeatShown J) → all ≡ rest ++ last ∷ [] → list_any (λ (s : SeatShown J). s.dry) all ≡ true → (last.dry || list_any (λ (s : SeatShown J). s.dry) rest) ≡ true
  any-dry all rest last is e = let p = λ (s : SeatShown J). s.dry in flip last.dry (list_any p rest) (sym (ap (list_any p) is ∙ list_any-append p rest (last ∷ [])) ∙ e)
