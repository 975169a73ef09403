use Rattle.std.proofs.Common.{◌≡◌, rules, subst}
use Rattle.std.proofs.lemmas.Fn.{always_returns_same}
use Rattle.std.proofs.lemmas.List.Sorted.{IsNonDecreasingBy-from_sort}
use Rattle.av_serial.specs.Schedule.{tick_of, SameByTick}
use Rattle.av_serial.proofs.Edits.{same_by_tick}
use Rattle.av_serial.proofs.schedule.sorted_by_tick.Goals as goal

pub returns-clause-same : goal.returns-clause-same
returns-clause-same c =
    let keys = always_returns_same _ (λ a r. r ≡ tick_of a.0.now) _ (λ a r f' call. (search rules, search rules)) in
    subst (SameByTick c.sort_by_key.new.self.items) c.in_ok-sorted.ensures.items (same_by_tick _ _ (c.in_ok-sort_by_key.ensures.stable tick_of keys))

pub returns-clause-sorted : goal.returns-clause-sorted
returns-clause-sorted c =
    let keys = always_returns_same _ (λ a r. r ≡ tick_of a.0.now) _ (λ a r f' call. (search rules, search rules)) in
    IsNonDecreasingBy-from_sort tick_of _ (c.in_ok-sort_by_key.ensures.sorted tick_of keys)
