use Rattle.std.proofs.Common.{◌∙◌, ◌≤◌, ℕ, arith, refl, sym, subst}
use Rattle.av_sink.specs.Account.{Account}
use Rattle.av_program.specs.RunCommand.{HasRunRegions}
use Rattle.av_program.specs.Running.{finished, ran_on}
use Rattle.av_outcomes.specs.Closing.{IsLeft, ended, failed, not_ended}
use Rattle.av_program.proofs.program.run_opened.Goals as goal

-- a folder that is left adds no status above 2
most : (a b : Account) (before after : ℕ) → IsLeft a b before after → before ≤ 2 → after ≤ 2
most a b before after (failed status bad same) h = h
most a b before after (ended is) h = h
most a b before after (not_ended same) h = omega arith

pub returns-clause-status : goal.returns-clause-status
returns-clause-status g c = most _ _ c.run_regions-status.result c.close.result c.close.ensures c.run_regions-status.ensures.status

pub returns-then-not-goes_on-clause-ran : goal.returns-then-not-goes_on-clause-ran
returns-then-not-goes_on-clause-ran g c = finished c.in-Ok.repaired (sym c.goes_on.ensures ∙ c.if-not-goes_on.true) c.in-Ok.ensures.ok refl refl

pub returns-clause-ran : goal.returns-clause-ran
returns-clause-ran g c =
    ran_on c.in-Ok.repaired c.run_regions-status.result (g.S.Sink.account c.run_regions-status.new.sink) (sym c.goes_on.ensures ∙ c.if-not-goes_on.false)
    (subst (λ (a : Account). HasRunRegions c.args.request a (g.S.Sink.account c.run_regions-status.new.sink) (g.O.Write.contents c.args.out.now) (g.O.Write.contents c.run_regions-status.new.out) c.run_regions-status.result)
    c.in-Ok.ensures.ok c.run_regions-status.ensures.ran) c.close.ensures
