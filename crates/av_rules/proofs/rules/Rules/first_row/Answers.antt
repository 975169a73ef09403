use Rattle.std.proofs.Common.{◌-◌, ◌≤◌, length, take, drop, sym, ap, ◌∙◌, arith}
use Rattle.std.proofs.lemmas.List.{length-drop, take_all, drop-map}
use Rattle.av_state.specs.States.{state_of}
use Rattle.av_rules.specs.Rows.{first_row}
use Rattle.av_rules.specs.Views.{table_row_of, table_rows_of}
use Rattle.av_rules.proofs.rules.Rules.first_row.Goals as goal

pub returns : goal.returns
returns c =
    let all = c.args.self.now.rows.items in
    let s = state_of c.args.state.now in
    let j = c.head-head.result in
    let short : length (drop j all) ≤ length all - j = omega (arith, length-drop j all) in
    c.first_row.ensures
    ∙ ap (λ l. first_row (table_rows_of (take (length l - j) (drop j l))) s) c.deref.ensures.value
    ∙ ap (λ l. first_row (table_rows_of l) s) (take_all (length all - j) (drop j all) short)
    ∙ ap (λ l. first_row l s) (sym (drop-map table_row_of j all))
    ∙ c.head-head.ensures.skipped
