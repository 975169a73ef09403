-- Where a name stands among named tags.
use Rattle.std.proofs.Common.{◌≡◌, ℕ, suc, true, false, List, [], ◌∷◌, ◌++◌, Some, None, ap, refl, get_or, set, subst}
use Rattle.std.specs.Prelude.{option_map, if◌then◌else◌, remove}
use Rattle.std.specs.Str.{bytes_eq}
use Rattle.av_tags.specs.Nbt.{Nbt, NamedTag}
use Rattle.av_tags.specs.ByName.{tag_of, with_tag, without, index_of_name}

-- What holds of named tags in which a name stands at an index.
abbrev pub Found : List ℕ → List NamedTag → (List NamedTag → ℕ → Type 0) → Type 0
Found n ms P = (i : ℕ) → index_of_name n ms ≡ Some i → P ms i

-- Such a fact holds of all tags, where it holds of a first one of the name, and passes on to a later one.
by_index : (n : List ℕ) (P : List NamedTag → ℕ → Type 0) → ((m : NamedTag) (ms : List NamedTag) → bytes_eq n m.name ≡ true → P (m ∷ ms) 0)
    → ((m : NamedTag) (ms : List NamedTag) (i : ℕ) → bytes_eq n m.name ≡ false → P ms i → P (m ∷ ms) (suc i)) → (ms : List NamedTag) → Found n ms P
by_index n P first later [] i e = cc
by_index n P first later (m ∷ ms) i e =
    elim (bytes_eq n m.name) as (λ b. bytes_eq n m.name ≡ b → (if b then Some 0 else option_map suc (index_of_name n ms)) ≡ Some i → P (m ∷ ms) i) [
      | true ↦ λ is there. let zeroth : 0 ≡ i = cc in subst (λ (k : ℕ). P (m ∷ ms) k) zeroth (first m ms is)
      | false ↦ λ is there.
          elim (index_of_name n ms) as (λ o. index_of_name n ms ≡ o → option_map suc o ≡ Some i → P (m ∷ ms) i) [
            | None ↦ λ _ none_here. cc
            | Some j ↦ λ at some. let next : suc j ≡ i = cc in subst (λ (k : ℕ). P (m ∷ ms) k) next (later m ms j is (by_index n P first later ms j at))
          ] refl there
    ] refl e

-- a tag set where its name stands is a tag put
pub set_is_placed : (n : List ℕ) (t : Nbt) (ms : List NamedTag) → Found n ms (λ xs i. set xs i (record { name = n; tag = t }) ≡ with_tag n t xs)
set_is_placed n t ms = by_index n (λ xs i. set xs i (record { name = n; tag = t }) ≡ with_tag n t xs) (λ m xs is. rw is refl) (λ m xs i is e. rw (is, ← e) refl) ms

-- the tag of a name is the one where the name stands
pub tag_is_found : (n : List ℕ) (ms : List NamedTag) → Found n ms (λ xs i. (d : NamedTag) → tag_of n xs ≡ Some (get_or xs i d).tag)
tag_is_found n ms = by_index n (λ xs i. (d : NamedTag) → tag_of n xs ≡ Some (get_or xs i d).tag) (λ m xs is d. rw is refl) (λ m xs i is e d. rw is (e d)) ms

-- without the tag where the name stands, and then without all of the name
pub without_found : (n : List ℕ) (ms : List NamedTag) → Found n ms (λ xs i. without n xs ≡ without n (remove xs i))
without_found n ms = by_index n (λ xs i. without n xs ≡ without n (remove xs i)) (λ m xs is. rw is refl) (λ m xs i is e. rw is (ap (λ l. m ∷ l) e)) ms

-- What holds of named tags in which a name does not stand.
abbrev pub Missing : List ℕ → List NamedTag → (List NamedTag → Type 0) → Type 0
Missing n ms P = index_of_name n ms ≡ None → P ms

by_absence : (n : List ℕ) (P : List NamedTag → Type 0) → P [] → ((m : NamedTag) (ms : List NamedTag) → bytes_eq n m.name ≡ false → P ms → P (m ∷ ms)) → (ms : List NamedTag) → Missing n ms P
by_absence n P none more [] e = none
by_absence n P none more (m ∷ ms) e =
    elim (bytes_eq n m.name) as (λ b. bytes_eq n m.name ≡ b → (if b then Some 0 else option_map suc (index_of_name n ms)) ≡ None → P (m ∷ ms)) [
      | true ↦ λ is there. cc
      | false ↦ λ is there.
          elim (index_of_name n ms) as (λ o. index_of_name n ms ≡ o → option_map suc o ≡ None → P (m ∷ ms)) [
            | None ↦ λ at _. more m ms is (by_absence n P none more ms at)
            | Some j ↦ λ at some. cc
          ] refl there
    ] refl e

-- a tag of a new name is put last
pub placed_last : (n : List ℕ) (t : Nbt) (ms : List NamedTag) → Missing n ms (λ xs. xs ++ record { name = n; tag = t } ∷ [] ≡ with_tag n t xs)
placed_last n t ms = by_absence n (λ xs. xs ++ record { name = n; tag = t } ∷ [] ≡ with_tag n t xs) refl (λ m xs is e. rw (is, ← e) refl) ms

-- a missing name has no tag
pub tag_is_missing : (n : List ℕ) (ms : List NamedTag) → Missing n ms (λ xs. tag_of n xs ≡ None)
tag_is_missing n ms = by_absence n (λ xs. tag_of n xs ≡ None) refl (λ m xs is e. rw is e) ms

pub without_missing : (n : List ℕ) (ms : List NamedTag) → Missing n ms (λ xs. without n xs ≡ xs)
without_missing n ms = by_absence n (λ xs. without n xs ≡ xs) refl (λ m xs is e. rw (is, e) refl) ms
