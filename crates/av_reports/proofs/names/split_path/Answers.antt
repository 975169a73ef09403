use Rattle.std.proofs.Common.{◌≡◌, ◌≢◌, ◌<◌, ◌∙◌, ap, ap₂, sym, ℕ, List, [], ◌∷◌, ◌++◌, take, drop, length, slice_index, lit<, append_assoc, string_bytes}
use Rattle.std.proofs.lemmas.List.{take-append-drop}
use Rattle.std.proofs.lemmas.Str.Pattern.{drop_at_char, NoCharPasses-char}
use Rattle.av_reports.proofs.names.split_path.Goals as goal

pub returns-in_ok-format-in-Some : goal.returns-in_ok-format-in-Some
returns-in_ok-format-in-Some c =
    let path = c.args.path.now in
    let found = c.in-Some.ensures.cases in
    let folder = c.in-Some.folder.now in
    let name = c.in-Some.name.now in
    let name_is : drop found.1 path ≡ name = sym found.4 in
    let folder_is : take found.0 path ≡ folder = sym found.3 in
    let no_slash : (i : ℕ) → i < length (drop found.1 path) → slice_index (drop found.1 path) i ≢ 47 =
    λ i lt. NoCharPasses-char 47 (drop found.1 path) i found.2.0 (lit< tt) lt in
    let parts : path ≡ take found.0 path ++ (47 ∷ drop found.1 path) =
    sym (take-append-drop found.0 path) ∙ ap (λ (rest : List ℕ). take found.0 path ++ rest) (drop_at_char 47 path found.0 found.1 found.2.1 (lit< tt)) in
    let whole : path ≡ folder ++ (47 ∷ name) = parts ∙ ap₂ (λ (a b : List ℕ). a ++ (47 ∷ b)) folder_is name_is in
    let text : string_bytes c.in_ok-format-in-Some.field-0 ≡ folder ++ (47 ∷ []) = c.in_ok-format-in-Some.ensures.ok in
    record {
      parts = whole ∙ (sym (append_assoc folder (47 ∷ []) name) ∙ ap (λ (t : List ℕ). t ++ name) (sym text));
      no_slash = rw name_is at no_slash;
    }

pub returns-in-None : goal.returns-in-None
returns-in-None c = record {
  parts = sym (ap (λ (t : List ℕ). t ++ c.args.path.now) c.new.ensures.bytes);
  no_slash = λ i lt. NoCharPasses-char 47 c.args.path.now i c.in-None.ensures.cases (lit< tt) lt;
}
