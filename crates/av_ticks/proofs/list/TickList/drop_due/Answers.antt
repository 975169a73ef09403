-- The entries that are kept are still apart.
use Rattle.std.proofs.Common.{not, rules, ◌∙◌, FitsSigned, w64}
use Rattle.std.proofs.lemmas.Int.{to_z-of_z}
use Rattle.av_ticks.specs.Entries.{is_due}
use Rattle.av_ticks.specs.Stored.{stored}
use Rattle.av_ticks.proofs.Kept.{are_apart-filter}
use Rattle.av_ticks.proofs.list.TickList.drop_due.Goals as goal

pub invariant_of-self : goal.invariant_of-self
invariant_of-self c =
    let old = c.args.self.now in
    let fits : FitsSigned w64 c.soonest-self.result = search rules in
    record {
      apart = rw c.drop_due.ensures.entries (are_apart-filter (λ e. not (is_due c.args.now e)) (stored old.store) old.apart);
      least = to_z-of_z w64 c.soonest-self.result fits ∙ c.soonest-self.ensures;
    }

pub returns-clause-entries : goal.returns-clause-entries
returns-clause-entries c = c.drop_due.ensures.entries
