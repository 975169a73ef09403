use Rattle.std.proofs.Common.{◌≡◌, ◌≤◌, ◌++◌, ◌∷◌, [], length, map, ap, ◌∙◌, arith}
use Rattle.std.proofs.lemmas.List.{take_all}
use Rattle.av_types.specs.declared.water.Wet.{Wet}
use Rattle.av_state.specs.States.{state_of}
use Rattle.av_state.specs.Table.{states}
use Rattle.av_rules.specs.declared.row.Row.{Row}
use Rattle.av_rules.specs.Rows.{row_of, wet_in, wet_by}
use Rattle.av_rules.specs.Tables.{table_of}
use Rattle.av_rules.proofs.MapFacts.{map-take-more, IsKindList-from}
use Rattle.av_rules.proofs.kinds.Kinds.new.Goals as goal

pub loop-number-preserved : goal.loop-number-preserved
loop-number-preserved c =
    let t = table_of c.args.rules.now in
    let s = state_of c.state-state.result.now in
    let row : c.row-row.result ≡ row_of t s = c.row-row.ensures in
    let wet : c.wet_by.result ≡ wet_in t s = c.wet_by.ensures ∙ ap (λ (r : Row). wet_by r s) row in (
      c.in_ok-push.ensures.items ∙ ap (λ (r : Row). c.loop-number.rows.items ++ r ∷ []) row ∙ map-take-more (row_of t) (states c.args.table) c.loop-number.number s _ c.state-state.ensures.there c.loop-number.invariant.0,
      c.in_ok-push-2.ensures.items ∙ ap (λ (w : Wet). c.loop-number.wets.items ++ w ∷ []) wet ∙ map-take-more (wet_in t) (states c.args.table) c.loop-number.number s _ c.state-state.ensures.there c.loop-number.invariant.1,
    )

pub invariant_of-result : goal.invariant_of-result
invariant_of-result c =
    let t = table_of c.args.rules.now in
    let xs = states c.args.table in
    let past : length xs ≤ c.loop-number.number = omega (arith, c.len-number-end.ensures, c.loop-number-test.false) in
    let all = take_all c.loop-number.number xs past in
    record { listed = IsKindList-from c.args.rules.now xs c.loop-number.rows.items c.loop-number.wets.items c.args.table.numbered (c.loop-number.invariant.0 ∙ ap (map (row_of t)) all) (c.loop-number.invariant.1 ∙ ap (map (wet_in t)) all) }
