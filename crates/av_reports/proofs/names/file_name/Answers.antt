use Rattle.std.proofs.Common.{◌≡◌, ◌≢◌, ◌<◌, ◌∙◌, ap, sym, ℕ, ◌∷◌, ◌++◌, take, drop, length, slice_index, inl, inr, lit<, refl}
use Rattle.std.proofs.lemmas.List.{take-append-drop}
use Rattle.std.proofs.lemmas.Str.Pattern.{drop_at_char, NoCharPasses-char}
use Rattle.av_reports.proofs.names.file_name.Goals as goal

pub returns-in-Some : goal.returns-in-Some
returns-in-Some c =
    let path = c.args.path.now in
    let found = c.in-Some.ensures.cases in
    let name_is : drop found.1 path ≡ c.in-Some.name.now = sym found.4 in
    let no_slash : (i : ℕ) → i < length (drop found.1 path) → slice_index (drop found.1 path) i ≢ 47 =
    λ i lt. NoCharPasses-char 47 (drop found.1 path) i found.2.0 (lit< tt) lt in
    let parts : path ≡ take found.0 path ++ (47 ∷ drop found.1 path) =
    sym (take-append-drop found.0 path) ∙ ap (λ rest. take found.0 path ++ rest) (drop_at_char 47 path found.0 found.1 found.2.1 (lit< tt)) in
    (rw name_is at no_slash, inr (take found.0 path, parts ∙ ap (λ rest. take found.0 path ++ (47 ∷ rest)) name_is))

pub returns-in-None : goal.returns-in-None
returns-in-None c = (λ i lt. NoCharPasses-char 47 c.args.path.now i c.in-None.ensures.cases (lit< tt) lt, inl refl)
