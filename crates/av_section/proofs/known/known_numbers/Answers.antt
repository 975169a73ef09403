-- One more entry.
use Rattle.std.proofs.Common.{◌∙◌, ap, ◌+◌, subst, IfSome, length-append, ◌∷◌, []}
use Rattle.av_tags.specs.View.{view}
use Rattle.av_state.specs.Table.{states}
use Rattle.av_section.specs.Palette.{state_in}
use Rattle.av_section.specs.Known.{IsKnown}
use Rattle.av_section.proofs.KnownEntries.{known_more}
use Rattle.av_section.proofs.known.known_numbers.Goals as goal

pub loop-entry-preserved : goal.loop-entry-preserved
loop-entry-preserved c =
    let st = states c.args.table.now in
    let n = c.in-Some.number in
    let some = subst (λ o. IfSome o (IsKnown st (state_in (view c.entry-item.result)))) c.in-Some.is c.in_ok-number.ensures in
    let known = subst (λ x. IsKnown st (state_in (view x)) n) c.entry-item.is some in
    rw c.in_ok-push.ensures.items (record {
      known = known_more state_in view c.args.entries.now c.loop-entry.entry-index c.entry-item.result st c.loop-entry.numbers.items n c.loop-entry-test.true c.loop-entry.invariant.known known;
      many = length-append c.loop-entry.numbers.items (n ∷ []) ∙ ap (λ k. k + 1) c.loop-entry.invariant.many;
    })
