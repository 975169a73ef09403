use Rattle.std.proofs.Common.{◌≡◌, OnOk, sym, subst}
use Rattle.av_play.specs.declared.event.Event.{Event}
use Rattle.av_play.specs.Play.{after}
use Rattle.av_inter.specs.Views.{state_of, parts_in, kinds_in, now_in}
use Rattle.av_inter.proofs.machine.Core.step.Goals as goal

pub returns-in-Take-clause-ok : goal.returns-in-Take-clause-ok
returns-in-Take-clause-ok c =
    let s = c.args.self.now in
    subst (λ (e : Event). OnOk c.take.result (state_of c.take.new.self ≡ after (kinds_in s) (now_in s) (parts_in s) (state_of s) e)) (sym c.in-Take.is) c.take.ensures.ok

pub returns-in-Back-clause-ok : goal.returns-in-Back-clause-ok
returns-in-Back-clause-ok c =
    let s = c.args.self.now in
    subst (λ (e : Event). OnOk c.back.result (state_of c.back.new.self ≡ after (kinds_in s) (now_in s) (parts_in s) (state_of s) e)) (sym c.in-Back.is) c.back.ensures.ok
