use Rattle.std.proofs.Common.{◌≡◌, ℕ, ◌+◌, Bool, not, cond, take, sym, ap, ◌∙◌, arith}
use Rattle.av_state.specs.States.{state_of}
use Rattle.av_state.specs.Table.{states}
use Rattle.av_rules.specs.Rows.{has_row}
use Rattle.av_rules.specs.Tables.{table_of}
use Rattle.av_answers.specs.Checked.{without_row}
use Rattle.av_run.proofs.Uncovered.{counted_more, flag-is, one-le}
use Rattle.av_run.proofs.checked.count_without_row.Goals as goal

pub loop-number-preserved : goal.loop-number-preserved
loop-number-preserved c =
    let inv = c.loop-number.invariant in
    let t = table_of c.args.rules.now in
    let s = state_of c.state.result.now in
    let count : Bool → ℕ = λ b. cond (not b) 1 0 in
    let before = without_row t (take c.loop-number.number (states c.args.table.now)) in
    let one : c.from-count.result ≡ cond (not (has_row t s)) 1 0 = c.from-count.ensures ∙ flag-is (not c.has_row.result) ∙ ap count c.has_row.ensures in
    let few = one-le (not (has_row t s)) in
    let low = inv.1 in (
      ap (λ m. m + c.from-count.result) inv.0 ∙ ap (λ m. before + m) one ∙ sym (counted_more (λ x. not (has_row t x)) (states c.args.table.now) c.loop-number.number s c.state.ensures.there),
      omega (arith, one, few, low),
    )
