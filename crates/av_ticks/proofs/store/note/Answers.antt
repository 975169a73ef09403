-- The index holds the position of the new entry too.
use Rattle.std.proofs.Common.{◌||◌, ◌∙◌, ap, sym}
use Rattle.std.proofs.lemmas.Option.{same_Some}
use Rattle.av_ticks.specs.Entries.{same_pos}
use Rattle.av_ticks.specs.Held.{holds}
use Rattle.av_ticks.proofs.Index.{pending_push, when_ok}
use Rattle.av_ticks.proofs.store.note.Goals as goal

pub returns-else-is_err : goal.returns-else-is_err
returns-else-is_err c = λ es index x same p.
    ap (λ s. holds s p) (sym (same_Some _ x same)) ∙ (when_ok c.put.result c.if-is_err.ensures.negation c.put.ensures.ok p ∙ (ap (λ b. same_pos p c.args.entry.pos || b) (index c.in-Some.positions c.in-Some.is p) ∙ sym (pending_push p es c.args.entry)))
