use Rattle.std.proofs.Common.{◌≡◌, ◌<◌, ◌^◌}
use Rattle.std.specs.List.{All}
use Rattle.av_image.specs.RegionsRead.{are_stamps}
use Rattle.av_image.proofs.reading.regions.read_stamps.Given as goal

abbrev pub invariant-loop-index : goal.invariant-loop-index
invariant-loop-index l = record {
  are : l.stamps.items ≡ are_stamps l.region.bytes.now l.index;
  small : All (λ n. n < 2 ^ 32) l.stamps.items;
}
