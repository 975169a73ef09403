use Rattle.std.proofs.Common.{◌≡◌, ◌+◌, ◌<◌, ◌≤◌, List, length, drop, get_or, Option, Result, Ok, Err, sym, subst, ap, ◌∙◌, arith}
use Rattle.std.specs.Result.{IsErrAnd}
use Rattle.toml.specs.View.{items_view}
use Rattle.toml.specs.declared.value.Value.{Value}
use Rattle.av_types.specs.declared.fault.Fault.{Fault}
use Rattle.av_rules.specs.declared.row.TableRow.{TableRow as TableRowValue}
use Rattle.av_rules.specs.Document.{table_rows_in}
use Rattle.av_rules.specs.Views.{table_rows_of}
use Rattle.av_rules.specs.Reads.{Reads, Refuses}
use Rattle.av_rules.proofs.Fronts.{with_front, rows_more, rows_stop, rows_end}
use Rattle.std.proofs.lemmas.List.{drop_all}
use Rattle.av_rules.proofs.document.table_rows_in.Goals as goal

refused : {A B : Type 0} (v : A → B) (r : Result A Fault) (o : Option B) (e : Fault) → IsErrAnd r (λ x. x ≡ e) → Refuses o e → Reads v o r
refused v (Ok x) o e h k = absurd h
refused v (Err x) o e h k = subst (Refuses o) (sym h) k

pub returns-in_err-row_of_value : goal.returns-in_err-row_of_value
returns-in_err-row_of_value c =
    let vs = c.args.blocks.now.items in
    let e = c.deref-value-items.ensures.value in
    let k = c.in_err-row_of_value.ensures in
    let lt : c.loop-value.value-index < length vs = omega (arith, ap length e) in
    let is : c.value-item.result ≡ get_or vs c.loop-value.value-index c.value-item.result = c.value-item.is ∙ ap (λ (l : List Value). get_or l c.loop-value.value-index c.value-item.result) e in
    refused (λ v. table_rows_of v.items) c.from_residual.result (table_rows_in c.args.version (items_view vs)) _ c.from_residual.ensures.1
    (record { at_cause = λ b. rows_stop c.args.version c.loop-value.rows.items vs c.loop-value.value-index c.value-item.result _ lt is (k.at_cause b) c.loop-value.invariant; only = k.only })

pub loop-value-preserved : goal.loop-value-preserved
loop-value-preserved c =
    let vs = c.args.blocks.now.items in
    let e = c.deref-value-items.ensures.value in
    let lt : c.loop-value.value-index < length vs = omega (arith, ap length e) in
    let is : c.value-item.result ≡ get_or vs c.loop-value.value-index c.value-item.result = c.value-item.is ∙ ap (λ (l : List Value). get_or l c.loop-value.value-index c.value-item.result) e in
    let h = rows_more c.args.version c.loop-value.rows.items c.in_ok-row_of_value.field-0 vs c.loop-value.value-index c.value-item.result _ lt is c.in_ok-row_of_value.ensures c.loop-value.invariant in
    let P : List TableRowValue → Type 0 = λ rows. with_front (table_rows_of rows) (table_rows_in c.args.version (items_view (drop (c.loop-value.value-index + 1) vs))) ≡ table_rows_in c.args.version (items_view vs) in
    subst P (sym c.in_ok-push.ensures.items) h

pub returns : goal.returns
returns c =
    let vs = c.args.blocks.now.items in
    let e = c.deref-value-items.ensures.value in
    let past : length vs ≤ c.loop-value.value-index = omega (arith, ap length e, c.loop-value-test.false) in
    rows_end c.args.version c.loop-value.rows.items vs c.loop-value.value-index _ (drop_all c.loop-value.value-index vs past) c.loop-value.invariant
