-- Names of files but those that are skipped.
use Rattle.std.proofs.Common.{◌≡◌, ◌∙◌, ◌<◌, ap, ap₂, sym, subst, refl, arith, append_assoc, Bool, true, false, List, ℕ, zero, suc, [], ◌∷◌, ◌++◌, Bor, length, map, string_bytes}
use Rattle.std.specs.Prelude.{cond, not, Contains, slice_index_or}
use Rattle.std.proofs.lemmas.List.{append-nil, map-append}
use Rattle.std.proofs.lemmas.List.Elements.{filter-append}
use Rattle.av_types.specs.declared.position.RegionPos.{RegionPos}
use Rattle.av_reports.specs.declared.failure.UnreadFile.{UnreadFile}
use Rattle.av_folders.specs.declared.reading.FolderFiles.{FolderFiles}
use Rattle.av_folders.specs.Folders.{AreRead, AreSharedOut, none, first, second}
use Rattle.av_region_files.specs.Names.{region_name_of}
use Rattle.av_region_files.specs.declared.files.RegionFile.{RegionFile}
use Rattle.av_requests.specs.Skipping.{is_among, names_of, others}

-- one name is kept, or skipped
pub one_kept : (skip : List (Bor (List ℕ))) (name : List ℕ) (names : List (List ℕ)) → is_among skip name ≡ false → others skip (name ∷ names) ≡ name ∷ others skip names
one_kept skip name names is = ap (λ (b : Bool). cond (not b) (name ∷ others skip names) (others skip names)) is

pub one_skipped : (skip : List (Bor (List ℕ))) (name : List ℕ) (names : List (List ℕ)) → is_among skip name ≡ true → others skip (name ∷ names) ≡ others skip names
one_skipped skip name names is = ap (λ (b : Bool). cond (not b) (name ∷ others skip names) (others skip names)) is

name_of : RegionFile → List ℕ
name_of f = region_name_of f.pos

-- the others of files, and of one more
pub others_more : (skip : List (Bor (List ℕ))) (files : List RegionFile) (file : RegionFile)
    → others skip (names_of (files ++ file ∷ [])) ≡ others skip (names_of files) ++ others skip (region_name_of file.pos ∷ [])
unfolding name_of
others_more skip files file =
    ap (others skip) (map-append name_of files (file ∷ []))
    ∙ filter-append (λ (name : List ℕ). not (is_among skip name)) (names_of files) (region_name_of file.pos ∷ [])

pub names_more : (files : List RegionFile) (file : RegionFile) → names_of (files ++ file ∷ []) ≡ names_of files ++ region_name_of file.pos ∷ []
unfolding name_of
names_more files file = map-append name_of files (file ∷ [])

-- where all names of one list are skipped, the others of both are those of the other
pub shared_others : (skip : List (Bor (List ℕ))) (all left right : List (List ℕ)) → AreSharedOut all left right
    → others skip right ≡ [] → others skip all ≡ others skip left
shared_others skip _ _ _ none is = refl
shared_others skip _ _ _ (first name all left right shared) is = kept (is_among skip name) refl (shared_others skip all left right shared is)
  where
    kept : (b : Bool) → is_among skip name ≡ b → others skip all ≡ others skip left → others skip (name ∷ all) ≡ others skip (name ∷ left)
    kept true same rest = one_skipped skip name all same ∙ (rest ∙ sym (one_skipped skip name left same))
    kept false same rest = one_kept skip name all same ∙ (ap (λ (names : List (List ℕ)). name ∷ names) rest ∙ sym (one_kept skip name left same))
shared_others skip _ _ _ (second name all left right shared) is = skipped (is_among skip name) refl (shared_others skip all left right shared)
  where
    skipped : (b : Bool) → is_among skip name ≡ b → (others skip right ≡ [] → others skip all ≡ others skip left) → others skip (name ∷ all) ≡ others skip left
    skipped true same rest = one_skipped skip name all same ∙ rest (sym (one_skipped skip name right same) ∙ is)
    skipped false same rest = let bad : name ∷ others skip right ≡ [] = sym (one_kept skip name right same) ∙ is in cc

-- one more of a list that is gone through
pub split_more : {X : Type 0} (ys left rest all : List X) (x : X) → left ≡ x ∷ rest → ys ++ left ≡ all → (ys ++ x ∷ []) ++ rest ≡ all
split_more {X} ys left rest all x step split = append_assoc ys (x ∷ []) rest ∙ subst (λ (xs : List X). ys ++ xs ≡ all) step split

-- all of it
pub split_all : {X : Type 0} (ys left all : List X) → left ≡ [] → ys ++ left ≡ all → ys ≡ all
split_all {X} ys left all empty split = sym (append-nil ys) ∙ subst (λ (xs : List X). ys ++ xs ≡ all) empty split

-- and one that is in it
pub split_has : {X : Type 0} (ys left rest all : List X) (x : X) → left ≡ x ∷ rest → ys ++ left ≡ all → Contains all x
split_has {X} ys left rest all x step split =
    subst (λ (xs : List X). Contains xs x) (subst (λ (xs : List X). ys ++ xs ≡ all) step split) (there ys)
  where
    there : (zs : List X) → Contains (zs ++ x ∷ rest) x
    there [] = (0, omega arith, refl)
    there (z ∷ zs) =
        let c = there zs in
        let lt : suc c.0 < suc (length (zs ++ x ∷ rest)) = omega arith in
        (suc c.0, lt, c.2)

said : UnreadFile → List ℕ
said u = string_bytes u.name

-- one more that is skipped
pub skipped_more : (skip : List (Bor (List ℕ))) (us : List UnreadFile) (u : UnreadFile) → others skip (map (λ x. string_bytes x.name) us) ≡ []
    → is_among skip (string_bytes u.name) ≡ true → others skip (map (λ x. string_bytes x.name) (us ++ u ∷ [])) ≡ []
unfolding said
skipped_more skip us u before is =
    ap (others skip) (map-append said us (u ∷ []))
    ∙ (filter-append (λ (name : List ℕ). not (is_among skip name)) (map said us) (string_bytes u.name ∷ [])
    ∙ ap₂ (λ (a b : List (List ℕ)). a ++ b) before (one_skipped skip (string_bytes u.name) [] is))

-- each name of a list is that of a region's file
unfoldable Named : List (List ℕ) → Type 0
Named [] = Unit
Named (n ∷ ns) = ((r : RegionPos) × (n ≡ region_name_of r)) × Named ns

named_map : (rs : List RegionPos) → Named (map region_name_of rs)
unfolding Named
named_map [] = tt
named_map (r ∷ rs) = ((r, refl), named_map rs)

named_right : (all left right : List (List ℕ)) → AreSharedOut all left right → Named all → Named right
unfolding Named
named_right _ _ _ none named = tt
named_right _ _ _ (first name all left right shared) named = named_right all left right shared named.1
named_right _ _ _ (second name all left right shared) named = (named.0, named_right all left right shared named.1)

named_at : (us : List UnreadFile) (u : UnreadFile) → Named (map (λ x. string_bytes x.name) us) → (k : ℕ) → k < length us → slice_index_or us k u ≡ u
    → (r : RegionPos) × (string_bytes u.name ≡ region_name_of r)
unfolding Named
named_at [] u named k lt is = absurd (omega arith)
named_at (v ∷ us) u named zero lt is = (named.0.0, ap (λ (x : UnreadFile). string_bytes x.name) (sym is) ∙ named.0.1)
named_at (v ∷ us) u named (suc k) lt is = named_at us u named.1 k (omega arith) is

-- a file that could not be read has a region's name
pub unread_named : (listed : List RegionPos) (read : FolderFiles) (u : UnreadFile) → AreRead listed read → Contains read.unread.items u
    → (r : RegionPos) × (string_bytes u.name ≡ region_name_of r)
unread_named listed read u shared has =
    named_at read.unread.items u (named_right _ _ _ shared (named_map listed)) has.0 has.1 has.2

-- without names to skip there are all
pub none_skipped : (names : List (List ℕ)) → others [] names ≡ names
none_skipped [] = refl
none_skipped (n ∷ ns) = ap (λ (xs : List (List ℕ)). n ∷ xs) (none_skipped ns)

pub names_of_regions : (files : List RegionFile) → names_of files ≡ map region_name_of (map (λ f. f.pos) files)
names_of_regions [] = refl
names_of_regions (f ∷ fs) = ap (λ (xs : List (List ℕ)). region_name_of f.pos ∷ xs) (names_of_regions fs)
