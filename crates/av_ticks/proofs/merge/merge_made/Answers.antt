-- The sort is by maker and number, and stable.
use Rattle.std.proofs.Common.{◌≡◌, ℕ, rules, ◌∙◌, ap}
use Rattle.std.proofs.lemmas.Fn.{always_returns_same}
use Rattle.av_types.specs.declared.tick.Made.{Made}
use Rattle.av_ticks.specs.Entries.{made_order}
use Rattle.av_types.specs.Order.{ordered}
use Rattle.av_ticks.proofs.EntryOrder.{made_laws}
use Rattle.av_types.proofs.OrderLemmas.{sorted_is_ordered}
use Rattle.av_ticks.proofs.merge.merge_made.Goals as goal

pub returns-clause-ok : goal.returns-clause-ok
returns-clause-ok c =
    let key : Made → ℕ × ℕ = λ m. (m.maker, m.number) in
    let keys = always_returns_same _ (λ a r. r ≡ key a.0.now) _ (λ a r f' call. (search rules, search rules)) in
    sorted_is_ordered made_order made_laws _ _ (c.in_ok-sort_by_key.ensures.sorted key keys) (c.in_ok-sort_by_key.ensures.stable key keys)
    ∙ ap (ordered made_order) c.in_ok-all.ensures.ok
