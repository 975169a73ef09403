use Rattle.std.proofs.Common.{◌≡◌, length, All, None}
use Rattle.av_world.proofs.carving.empty_slots.Given as goal

abbrev pub invariant-loop : goal.invariant-loop
invariant-loop l = (length l.slots.items ≡ l.counter) × All (λ o. o ≡ None) l.slots.items
