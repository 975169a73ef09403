-- Region files that are read one after the other.
use Rattle.std.proofs.Common.{◌≡◌, ◌∙◌, ◌<◌, ◌+◌, ap, sym, subst, ℕ, List, [], ◌∷◌, ◌++◌, length, map, take, get_or, add-one, string_bytes}
use Rattle.std.proofs.Math.Seq.{take-suc}
use Rattle.std.proofs.lemmas.List.{map-append}
use Rattle.av_types.specs.declared.position.RegionPos.{RegionPos}
use Rattle.av_region_files.specs.Names.{region_name_of}
use Rattle.av_region_files.specs.declared.files.RegionFile.{RegionFile}
use Rattle.av_reports.specs.declared.failure.UnreadFile.{UnreadFile}
use Rattle.av_folders.specs.declared.reading.FolderFiles.{FolderFiles}
use Rattle.av_folders.specs.declared.reading.Listed.{Listed}
use Rattle.av_folders.specs.Folders.{AreRead, AreSharedOut, none, first, second}

one_more_first : (n : List ℕ) (all left right : List (List ℕ)) → AreSharedOut all left right → AreSharedOut (all ++ n ∷ []) (left ++ n ∷ []) right
one_more_first n _ _ _ none = first n [] [] [] none
one_more_first n _ _ _ (first m all left right shared) = first m _ _ _ (one_more_first n all left right shared)
one_more_first n _ _ _ (second m all left right shared) = second m _ _ _ (one_more_first n all left right shared)

one_more_second : (n : List ℕ) (all left right : List (List ℕ)) → AreSharedOut all left right → AreSharedOut (all ++ n ∷ []) left (right ++ n ∷ [])
one_more_second n _ _ _ none = second n [] [] [] none
one_more_second n _ _ _ (first m all left right shared) = first m _ _ _ (one_more_second n all left right shared)
one_more_second n _ _ _ (second m all left right shared) = second m _ _ _ (one_more_second n all left right shared)

name_of : RegionFile → List ℕ
name_of f = region_name_of f.pos

said : UnreadFile → List ℕ
said u = string_bytes u.name

names_more : (rs : List RegionPos) (r : RegionPos) → map region_name_of (rs ++ r ∷ []) ≡ map region_name_of rs ++ region_name_of r ∷ []
names_more rs r = map-append region_name_of rs (r ∷ [])

-- before the first file
pub none_read : (read : FolderFiles) → read.files.items ≡ [] → read.unread.items ≡ [] → AreRead [] read
unfolding name_of said
none_read read files unread =
    subst (λ (fs : List RegionFile). AreSharedOut [] (map name_of fs) (map said read.unread.items)) (sym files)
    (subst (λ (us : List UnreadFile). AreSharedOut [] [] (map said us)) (sym unread) none)

-- one file more that was read
pub one_more_read : (before : List RegionPos) (r : RegionPos) (old new : FolderFiles) (file : RegionFile) → file.pos ≡ r
    → new.files.items ≡ old.files.items ++ file ∷ [] → new.unread.items ≡ old.unread.items → AreRead before old → AreRead (before ++ r ∷ []) new
unfolding name_of said
one_more_read before r old new file pos files unread shared =
    let named : map name_of new.files.items ≡ map name_of old.files.items ++ region_name_of r ∷ [] =
    ap (map name_of) files ∙ (map-append name_of old.files.items (file ∷ []) ∙ ap (λ (p : RegionPos). map name_of old.files.items ++ region_name_of p ∷ []) pos) in
    subst (λ (all : List (List ℕ)). AreSharedOut all (map name_of new.files.items) (map said new.unread.items)) (sym (names_more before r))
    (subst (λ (left : List (List ℕ)). AreSharedOut (map region_name_of before ++ region_name_of r ∷ []) left (map said new.unread.items)) (sym named)
    (subst (λ (us : List UnreadFile). AreSharedOut (map region_name_of before ++ region_name_of r ∷ []) (map name_of old.files.items ++ region_name_of r ∷ []) (map said us)) (sym unread)
    (one_more_first (region_name_of r) _ _ _ shared)))

-- one more that was not
pub one_more_unread : (before : List RegionPos) (r : RegionPos) (old new : FolderFiles) (u : UnreadFile) → string_bytes u.name ≡ region_name_of r
    → new.files.items ≡ old.files.items → new.unread.items ≡ old.unread.items ++ u ∷ [] → AreRead before old → AreRead (before ++ r ∷ []) new
unfolding name_of said
one_more_unread before r old new u named files unread shared =
    let said_now : map said new.unread.items ≡ map said old.unread.items ++ region_name_of r ∷ [] =
    ap (map said) unread ∙ (map-append said old.unread.items (u ∷ []) ∙ ap (λ (n : List ℕ). map said old.unread.items ++ n ∷ []) named) in
    subst (λ (all : List (List ℕ)). AreSharedOut all (map name_of new.files.items) (map said new.unread.items)) (sym (names_more before r))
    (subst (λ (right : List (List ℕ)). AreSharedOut (map region_name_of before ++ region_name_of r ∷ []) (map name_of new.files.items) right) (sym said_now)
    (subst (λ (fs : List RegionFile). AreSharedOut (map region_name_of before ++ region_name_of r ∷ []) (map name_of fs) (map said old.unread.items ++ region_name_of r ∷ [])) (sym files)
    (one_more_second (region_name_of r) _ _ _ shared)))

-- the regions up to the next file
pub regions_more : (xs : List Listed) (i : ℕ) (x : Listed) → i < length xs → x ≡ get_or xs i x
    → map (λ (l : Listed). l.region) (take (i + 1) xs) ≡ map (λ (l : Listed). l.region) (take i xs) ++ x.region ∷ []
regions_more xs i x lt is =
    ap (λ (n : ℕ). map (λ (l : Listed). l.region) (take n xs)) (add-one i)
    ∙ (ap (map (λ (l : Listed). l.region)) (take-suc xs i x lt)
    ∙ (map-append (λ (l : Listed). l.region) (take i xs) (get_or xs i x ∷ [])
    ∙ ap (λ (l : Listed). map (λ (k : Listed). k.region) (take i xs) ++ l.region ∷ []) (sym is)))
