use Rattle.std.proofs.Common.{◌≡◌, ◌++◌, length, map}
use Rattle.std.specs.Vec.Iter.{into_iter_items}
use Rattle.av_image.specs.Splits.{slot_of, positioned_from}
use Rattle.av_image.proofs.reading.splits.split_all.Given as goal

abbrev pub invariant-loop-item : goal.invariant-loop-item
invariant-loop-item l = record {
  split : l.yielded ++ into_iter_items l.item-iterator ≡ l.fn.stored.items;
  slots : l.slots.items ≡ map slot_of l.yielded;
  count : length l.slots.items ≡ length l.yielded;
  found : l.found.items ++ positioned_from l.pos (length l.slots.items) (into_iter_items l.item-iterator) ≡ l.fn.found.items ++ positioned_from l.pos 0 l.fn.stored.items;
}
