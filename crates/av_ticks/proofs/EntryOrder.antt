-- The two orders of entries are orders.
use Rattle.std.specs.Ordering.{is_lt}
use Rattle.std.specs.Cmp.{IsStrictWeakOrder}
use Rattle.std.proofs.lemmas.Cmp.{then_total, on_total, int_cmp_total, nat_cmp_total}
use Rattle.std.proofs.lemmas.List.Sorted.{ranks_by}
use Rattle.av_types.specs.declared.tick.Entry.{Entry}
use Rattle.av_types.specs.declared.tick.Made.{Made}
use Rattle.av_ticks.specs.Entries.{due_order, made_order}

pub due_laws : IsStrictWeakOrder (λ x y. is_lt (due_order x y))
due_laws = ranks_by (then_total (on_total (λ (e : Entry). e.due) int_cmp_total) (on_total (λ (e : Entry). e.priority) int_cmp_total)) (λ (e : Entry). e)

pub made_laws : IsStrictWeakOrder (λ x y. is_lt (made_order x y))
made_laws = ranks_by (then_total (on_total (λ (m : Made). m.maker) nat_cmp_total) (on_total (λ (m : Made). m.number) nat_cmp_total)) (λ (m : Made). m)
