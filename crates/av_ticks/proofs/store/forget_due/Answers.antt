-- The positions that are left are those of the entries that are not due.
use Rattle.std.proofs.Common.{◌&&◌, ◌∙◌, not, filter, ap, sym}
use Rattle.std.proofs.lemmas.Option.{same_Some}
use Rattle.av_ticks.specs.Entries.{is_pending, is_due}
use Rattle.av_ticks.specs.Held.{holds}
use Rattle.av_ticks.proofs.Index.{pending_others}
use Rattle.av_ticks.proofs.store.forget_due.Goals as goal

pub returns-in-Some : goal.returns-in-Some
returns-in-Some c = λ x same p.
    let es = c.args.entries.now in
    ap (λ s. holds s p) (sym (same_Some _ x same)) ∙ (c.forget_all_due.ensures p ∙ ap (λ l. holds c.in-Some.positions p && not (is_pending p l)) c.due_part.ensures.due
    ∙ (ap (λ b. b && not (is_pending p (filter (is_due c.args.now) es))) (c.requires.index c.in-Some.positions c.in-Some.is p) ∙ sym (pending_others (is_due c.args.now) p es c.requires.apart)))
