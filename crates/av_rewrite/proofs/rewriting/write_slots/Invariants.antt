use Rattle.std.proofs.Common.{◌≡◌, ◌++◌, length, map, option_map, List, ℕ}
use Rattle.std.specs.Vec.Iter.{into_iter_items}
use Rattle.av_types.specs.declared.position.Height.{Height}
use Rattle.av_chunk.specs.Light.{section_count}
use Rattle.av_codec.specs.Writing.{states_of_kinds}
use Rattle.av_rewrite.specs.Regions.{AreMadeOf}
use Rattle.av_rewrite.specs.Rewriting.{AreSlots, IsRewritten, SlotsWereRead}
use Rattle.av_rewrite.proofs.rewriting.write_slots.Given as goal

abbrev pub invariant-loop-slot : goal.invariant-loop-slot
invariant-loop-slot l = record {
  split : l.yielded ++ into_iter_items l.slot-iterator ≡ l.fn.slots.items;
  read : SlotsWereRead (states_of_kinds l.fn.kinds) (section_count l.fn.light) l.fn.slots.items;
  so_far : (h : Height) (region : List ℕ) (count : ℕ) → AreSlots h region (states_of_kinds l.fn.kinds) count l.fn.slots.items
      → AreMadeOf (IsRewritten h) region (length l.yielded) (map (option_map (λ v. v.items)) l.payloads.items);
}
