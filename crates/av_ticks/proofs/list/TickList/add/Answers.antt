-- An entry of a position that is not pending keeps what holds of the list.
use Rattle.std.proofs.Common.{◌≡◌, ◌∙◌, sym, ap, rules, refl, not, w64, FitsSigned}
use Rattle.std.specs.Int.{int_min}
use Rattle.std.proofs.lemmas.Int.{to_z-of_z}
use Rattle.av_ticks.specs.Stored.{stored}
use Rattle.av_ticks.proofs.Least.{least_push}
use Rattle.av_ticks.proofs.Lookup.{are_apart-push}
use Rattle.av_ticks.proofs.list.TickList.add.Goals as goal

pub invariant_of-self : goal.invariant_of-self
invariant_of-self c =
    let old = c.args.self.now in
    rw c.in_err-add.ensures.entries (record { apart = old.apart; least = old.least })

pub invariant_of-self-2 : goal.invariant_of-self-2
invariant_of-self-2 c =
    let old = c.args.self.now in
    let es = stored old.store in
    let one : FitsSigned w64 old.soonest = search rules in
    let other : FitsSigned w64 c.args.entry.due = search rules in
    let new : FitsSigned w64 c.sooner-self.result = search rules in
    let sooner : c.sooner-self.result ≡ int_min old.soonest c.args.entry.due = rw (to_z-of_z w64 old.soonest one, to_z-of_z w64 c.args.entry.due other) at c.sooner-self.ensures in
    let least = sooner ∙ (ap (λ s. int_min s c.args.entry.due) old.least ∙ sym (least_push es c.args.entry _)) in
    rw c.in_ok-add.ensures.entries (record { apart = are_apart-push es c.args.entry old.apart (sym c.has.ensures ∙ c.if-has.false); least = to_z-of_z w64 c.sooner-self.result new ∙ least })

pub returns-then-has-clause-added : goal.returns-then-has-clause-added
returns-then-has-clause-added c = ap not (sym c.if-has.true ∙ c.has.ensures)

pub returns-then-has-clause-pending : goal.returns-then-has-clause-pending
returns-then-has-clause-pending c = λ _. refl

pub returns-then-has-clause-entries : goal.returns-then-has-clause-entries
returns-then-has-clause-entries c = refl
