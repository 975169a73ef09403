use Rattle.std.proofs.Common.{◌∙◌, ℕ, refl, sym, subst}
use Rattle.av_outcomes.specs.Closing.{IsLeft, ended, failed, not_ended}
use Rattle.av_outcomes.proofs.closing.close.Goals as goal

pub returns-then-status-ne0 : goal.returns-then-status-ne0
returns-then-status-ne0 g c = failed c.args.status c.if-status-ne0.true refl

pub returns-in-Ok : goal.returns-in-Ok
returns-in-Ok g c = subst (λ (n : ℕ). IsLeft (g.S.Sink.account c.args.sink.now) (g.S.Sink.account c.last_failed.new.self) n 0) (sym c.if-status-ne0.false)
    (ended (c.last_failed.ensures ∙ c.in-Ok.ensures.ok))

pub returns-in-Err : goal.returns-in-Err
returns-in-Err g c =
    let old = g.S.Sink.account c.args.sink.now in
    let new = g.S.Sink.account c.report_folder.new.sink in
    subst (λ (n : ℕ). IsLeft old new n c.report_folder.result) (sym c.if-status-ne0.false)
    (subst (λ (m : ℕ). IsLeft old new 0 m) (sym c.report_folder.ensures.status) (not_ended (c.report_folder.ensures.same ∙ c.in-Err.ensures.err)))
