use Rattle.std.proofs.Common.{◌≡◌, ◌++◌, false}
use Rattle.std.specs.List.{All}
use Rattle.std.specs.Vec.Iter.{into_iter_items}
use Rattle.av_types.specs.Positions.{IsInLimits, region_of}
use Rattle.av_world.specs.Inserted.{IsNewChunk}
use Rattle.av_world.specs.Views.{is_broken}
use Rattle.av_image.specs.Splits.{IsWorldOf}
use Rattle.av_image.proofs.reading.splits.world_of.Given as goal

abbrev pub invariant-loop-positioned : goal.invariant-loop-positioned
invariant-loop-positioned l = record {
  split : l.yielded ++ into_iter_items l.positioned-iterator ≡ l.fn.found.items;
  limits : All (λ x. IsInLimits (region_of x.at)) (into_iter_items l.positioned-iterator);
  fits : All (λ x. IsNewChunk x.at l.fn.height x.chunk) (into_iter_items l.positioned-iterator);
  world : IsWorldOf l.fn.height l.yielded l.world;
  sound : is_broken l.world ≡ false;
}
