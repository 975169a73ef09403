use Rattle.std.proofs.Common.{◌-◌, ◌≤◌, length, take, drop, sym, ap, ◌∙◌, arith}
use Rattle.std.specs.List.{list_any}
use Rattle.std.proofs.lemmas.List.{length-drop, take_all, drop-map}
use Rattle.av_state.specs.States.{state_of}
use Rattle.av_rules.specs.Rows.{is_for}
use Rattle.av_rules.specs.Views.{table_row_of, table_rows_of}
use Rattle.av_rules.proofs.rules.Rules.is_covered.Goals as goal

pub returns : goal.returns
returns c =
    let all = c.args.self.now.rows.items in
    let s = state_of c.args.state.now in
    let j = c.head-head.result in
    let short : length (drop j all) ≤ length all - j = omega (arith, length-drop j all) in
    c.is_among.ensures
    ∙ ap (λ l. list_any (λ t. is_for t s) (table_rows_of (take (length l - j) (drop j l)))) c.deref.ensures.value
    ∙ ap (λ l. list_any (λ t. is_for t s) (table_rows_of l)) (take_all (length all - j) (drop j all) short)
    ∙ ap (λ l. list_any (λ t. is_for t s) l) (sym (drop-map table_row_of j all))
    ∙ c.head-head.ensures.others
