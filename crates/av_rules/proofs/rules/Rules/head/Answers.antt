use Rattle.std.proofs.Common.{◌≡◌, length, drop, ap, ◌∙◌, arith}
use Rattle.std.proofs.lemmas.List.{length-map}
use Rattle.av_state.specs.States.{state_of}
use Rattle.av_rules.specs.FirstRows.{head_for}
use Rattle.std.specs.List.{list_any}
use Rattle.av_rules.specs.Rows.{first_row, is_for}
use Rattle.av_rules.specs.Views.{table_row_of, table_rows_of}
use Rattle.av_rules.proofs.FirstRows.{head_within, row_from_head, any_from_head}
use Rattle.av_rules.proofs.rules.Rules.head.Goals as goal

-- the head of the bucket of the state's name
is : (c : goal.After-head) → c.head.result ≡ head_for c.args.self.now.first.heads.items (state_of c.args.state.now).name
is c = c.head.ensures ∙ ap (head_for c.args.self.now.first.heads.items) c.as_slice.ensures.value

pub returns-clause-within : goal.returns-clause-within
returns-clause-within c =
    let self = c.args.self.now in
    let low = head_within (table_rows_of self.rows.items) self.first.heads.items self.firsts self.first.some (state_of c.args.state.now).name in
    let long : length (table_rows_of self.rows.items) ≡ length self.rows.items = length-map self.rows.items table_row_of in
    omega (arith, is c, low, long)

pub returns-clause-skipped : goal.returns-clause-skipped
returns-clause-skipped c =
    let self = c.args.self.now in
    let rows = table_rows_of self.rows.items in
    let s = state_of c.args.state.now in
    ap (λ n. first_row (drop n rows) s) (is c) ∙ row_from_head rows self.first.heads.items self.firsts self.first.some s

pub returns-clause-others : goal.returns-clause-others
returns-clause-others c =
    let self = c.args.self.now in
    let rows = table_rows_of self.rows.items in
    let s = state_of c.args.state.now in
    ap (λ n. list_any (λ t. is_for t s) (drop n rows)) (is c) ∙ any_from_head rows self.first.heads.items self.firsts self.first.some s
