use Rattle.std.proofs.Common.{◌≡◌, sym, subst, rules, List, string_bytes}
use Rattle.std.specs.Ordering.{is_lt}
use Rattle.std.specs.List.{All}
use Rattle.std.specs.List.Sorted.{IsStrictlySortedBy}
use Rattle.std.specs.Cmp.Lexicographic.{on_texts}
use Rattle.std.proofs.lemmas.Fn.{always_returns_same, dedup_same}
use Rattle.std.proofs.lemmas.List.Filters.{All-dedup}
use Rattle.std.proofs.lemmas.List.Kept.{IsStrictlySortedBy-dedup}
use Rattle.std.proofs.lemmas.List.MinMax.{ranks_by}
use Rattle.std.proofs.lemmas.List.Sorted.{All-permutation}
use Rattle.std.proofs.lemmas.Map.Text.{is_eq-slice_cmp}
use Rattle.std.specs.Prelude.{string_cmp}
use Rattle.std.specs.String.{string_cmp_total, string_eq}
use Rattle.av_folders.specs.declared.reading.Listed.{Listed}
use Rattle.av_folders.specs.Folders.{IsListed}
use Rattle.av_folders.proofs.reading.list_folder.Goals as goal

pub returns-clause-named : goal.returns-clause-named
returns-clause-named g c =
    let sorted = All-permutation IsListed _ _ c.in_ok-sort_by.ensures.permutation c.loop-entry.invariant in
    let kept = dedup_same _ (λ (a b : Listed). string_eq a.name b.name) _ (λ x y b f' x' y' k. search rules) _ _ c.dedup_by.ensures.filtered in
    subst (λ (xs : List Listed). All IsListed xs) (sym kept) (All-dedup (λ (a b : Listed). string_eq a.name b.name) IsListed _ sorted)

pub returns-clause-order : goal.returns-clause-order
returns-clause-order g c =
    let sorted = c.in_ok-sort_by.ensures.sorted (λ a b. is_lt (string_cmp a.name b.name)) (ranks_by string_cmp_total (λ (l : Listed). l.name))
    (always_returns_same _ (λ a r. is_lt r ≡ is_lt (string_cmp a.0.now.name a.1.0.now.name)) _ (λ a r f' call. (search rules, search rules))) in
    let kept = dedup_same _ (λ (a b : Listed). string_eq a.name b.name) _ (λ x y b f' x' y' k. search rules) _ _ c.dedup_by.ensures.filtered in
    subst (λ (xs : List Listed). IsStrictlySortedBy (λ (a b : Listed). string_cmp a.name b.name) xs) (sym kept)
    (IsStrictlySortedBy-dedup (on_texts (λ (l : Listed). string_bytes l.name)) (λ x y. sym (is_eq-slice_cmp (string_bytes x.name) (string_bytes y.name))) _ sorted)
