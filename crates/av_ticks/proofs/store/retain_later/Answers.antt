-- The entries that are kept.
use Rattle.std.proofs.Common.{not, rules}
use Rattle.std.proofs.lemmas.Fn.{filter_same}
use Rattle.av_ticks.specs.Entries.{is_due}
use Rattle.av_ticks.proofs.store.retain_later.Goals as goal

pub returns-clause-entries : goal.returns-clause-entries
returns-clause-entries c =
    filter_same _ (λ e. not (is_due c.args.now e)) _ (λ x b f call. (search rules, search rules)) _ _ c.retain.ensures.filtered
