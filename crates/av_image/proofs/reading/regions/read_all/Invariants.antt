use Rattle.std.proofs.Common.{◌≤◌, ◌-◌}
use Rattle.av_state.specs.Table.{states}
use Rattle.av_image.specs.RegionsRead.{file_of}
use Rattle.av_image.specs.Ways.{IndicesSoFar}
use Rattle.av_image.proofs.reading.regions.read_all.Given as goal

abbrev pub invariant-loop-first : goal.invariant-loop-first
invariant-loop-first g l = record {
  within : l.first ≤ 1024;
  so_far : IndicesSoFar l.height (file_of l.pos l.region.bytes.now) (states l.fn.table) (states l.table) l.first l.stored.items;
}

abbrev pub decreases-loop-first : goal.decreases-loop-first
decreases-loop-first g l = 1024 - l.first
