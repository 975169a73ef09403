-- The entries that are left rise if all did.
use Rattle.std.proofs.Common.{not, filter, subst, sym, ap, ◌∙◌}
use Rattle.av_ticks.specs.Entries.{is_due, is_pending}
use Rattle.av_ticks.specs.Rising.{AreRising}
use Rattle.av_ticks.proofs.Times.{rising_filter}
use Rattle.av_ticks.proofs.store.Store.drop_due.Goals as goal

pub are_rising-self-requires : goal.are_rising-self-requires
are_rising-self-requires c = λ known.
    let rest = rising_filter (λ e. not (is_due c.args.now e)) c.args.self.now.entries.items (c.args.self.now.rising known) in
    subst AreRising (sym (c.as_slice-2.ensures.value ∙ c.drop_entries.ensures.entries)) rest

pub invariant_of-self : goal.invariant_of-self
invariant_of-self c =
    record {
      indexed = λ x some p.
          c.forget_due.ensures x some p ∙ (ap (λ l. is_pending p (filter (λ e. not (is_due c.args.now e)) l)) c.as_slice.ensures.value
          ∙ ap (is_pending p) (sym c.drop_entries.ensures.entries));
      rising = λ is. subst AreRising c.as_slice-2.ensures.value (c.are_rising-self.ensures is);
    }
