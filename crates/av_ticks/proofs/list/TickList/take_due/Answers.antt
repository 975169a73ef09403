-- The sort is by time and priority, and stable.
use Rattle.std.proofs.Common.{◌≡◌, ℤ, refl, rules, ◌∙◌, ap}
use Rattle.std.proofs.lemmas.Fn.{always_returns_same}
use Rattle.av_types.specs.declared.tick.Entry.{Entry}
use Rattle.av_ticks.specs.Entries.{due_order}
use Rattle.av_types.specs.Order.{ordered}
use Rattle.av_ticks.proofs.EntryOrder.{due_laws}
use Rattle.av_types.proofs.OrderLemmas.{sorted_is_ordered}
use Rattle.av_ticks.proofs.list.TickList.take_due.Goals as goal

pub returns-clause-ok : goal.returns-clause-ok
returns-clause-ok c =
    let key : Entry → ℤ × ℤ = λ e. (e.due, e.priority) in
    let keys = always_returns_same _ (λ a r. r ≡ key a.0.now) _ (λ a r f' call. (search rules, search rules)) in
    sorted_is_ordered due_order due_laws _ _ (c.in_ok-sort_by_key.ensures.sorted key keys) (c.in_ok-sort_by_key.ensures.stable key keys)
    ∙ ap (ordered due_order) (c.in_ok-due.ensures ∙ c.due_part.ensures.due)

pub returns-then-is_empty-clause-empty : goal.returns-then-is_empty-clause-empty
returns-then-is_empty-clause-empty c = λ _. refl
