use Rattle.std.proofs.Common.{◌≡◌, rules}
use Rattle.std.specs.Ordering.{is_lt}
use Rattle.std.specs.Prelude.{string_cmp}
use Rattle.std.specs.String.{string_cmp_total}
use Rattle.std.proofs.lemmas.Fn.{always_returns_same}
use Rattle.std.proofs.lemmas.List.MinMax.{ranks_by}
use Rattle.av_changes.specs.declared.change.Change.{Change}
use Rattle.av_changes.proofs.change.by_name.Goals as goal

pub returns-clause-order : goal.returns-clause-order
returns-clause-order c =
    c.in_ok-sort_by.ensures.sorted (λ a b. is_lt (string_cmp a.name b.name)) (ranks_by string_cmp_total (λ (l : Change). l.name))
    (always_returns_same _ (λ a r. is_lt r ≡ is_lt (string_cmp a.0.now.name a.1.0.now.name)) _ (λ a r f' call. (search rules, search rules)))
