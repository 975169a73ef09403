use Rattle.std.proofs.Common.{◌≡◌, ◌++◌, ◌≤◌, length}
use Rattle.std.specs.List.{All, flat_map}
use Rattle.std.specs.Vec.Iter.{into_iter_items}
use Rattle.av_types.specs.Positions.{IsInLimits}
use Rattle.av_image.specs.Splits.{AreSplit, positioned_in}
use Rattle.av_image.proofs.reading.splits.split_regions.Given as goal

abbrev pub invariant-loop-region : goal.invariant-loop-region
invariant-loop-region l = record {
  split : l.yielded ++ into_iter_items l.region-iterator ≡ l.fn.regions.items;
  limits : All (λ r. IsInLimits r.pos) (into_iter_items l.region-iterator);
  count : All (λ r. length r.stored.items ≤ 1024) (into_iter_items l.region-iterator);
  rests : AreSplit l.yielded l.rests.items;
  found : l.found.items ≡ l.fn.found.items ++ flat_map positioned_in l.yielded;
}
