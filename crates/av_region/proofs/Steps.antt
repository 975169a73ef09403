-- What is still to be written, as the loops go on.
use Rattle.std.proofs.Common.{◌≡◌, ◌∙◌, ℕ, ◌+◌, ◌<◌, ◌≤◌, List, ◌∷◌, ◌++◌, length, drop, map, get_or, Option, sym, ap, append_assoc, append-nil, drop-cons, add-one}
use Rattle.std.specs.Int.{w32, to_be_bytes}
use Rattle.std.specs.List.{flat_map}
use Rattle.std.proofs.lemmas.List.{drop_all}
use Rattle.av_region.specs.Layout.{sectors_for, location_for, locations_from}

-- the list from an element on
pub from_element : {X : Type 0} (xs : List X) (i : ℕ) (x : X) → i < length xs → x ≡ get_or xs i x → drop i xs ≡ x ∷ drop (i + 1) xs
from_element xs i x lt e = rw (add-one, drop-cons xs i x lt, ← e)

pub locations_step : {X : Type 0} (f : X → Option (List ℕ)) (xs : List X) (i s : ℕ) (x : X) (file all : List ℕ) → i < length xs → x ≡ get_or xs i x
    → file ++ locations_from s (map f (drop i xs)) ≡ all
    → (file ++ to_be_bytes w32 (location_for s (f x))) ++ locations_from (s + sectors_for (f x)) (map f (drop (i + 1) xs)) ≡ all
locations_step f xs i s x file all lt e done =
    append_assoc file (to_be_bytes w32 (location_for s (f x))) (locations_from (s + sectors_for (f x)) (map f (drop (i + 1) xs)))
    ∙ ap (λ ys. file ++ locations_from s (map f ys)) (sym (from_element xs i x lt e))
    ∙ done

pub locations_end : {X : Type 0} (f : X → Option (List ℕ)) (xs : List X) (i s : ℕ) (file all : List ℕ) → length xs ≤ i → file ++ locations_from s (map f (drop i xs)) ≡ all → file ≡ all
locations_end f xs i s file all le done = sym (append-nil file) ∙ ap (λ ys. file ++ locations_from s (map f ys)) (sym (drop_all i xs le)) ∙ done

pub pieces_step : {X : Type 0} (f : X → List ℕ) (xs : List X) (i : ℕ) (x : X) (file all : List ℕ) → i < length xs → x ≡ get_or xs i x
    → file ++ flat_map f (drop i xs) ≡ all → (file ++ f x) ++ flat_map f (drop (i + 1) xs) ≡ all
pieces_step f xs i x file all lt e done =
    append_assoc file (f x) (flat_map f (drop (i + 1) xs)) ∙ ap (λ ys. file ++ flat_map f ys) (sym (from_element xs i x lt e)) ∙ done

pub pieces_end : {X : Type 0} (f : X → List ℕ) (xs : List X) (i : ℕ) (file all : List ℕ) → length xs ≤ i → file ++ flat_map f (drop i xs) ≡ all → file ≡ all
pieces_end f xs i file all le done = sym (append-nil file) ∙ ap (λ ys. file ++ flat_map f ys) (sym (drop_all i xs le)) ∙ done
