use Rattle.std.proofs.Common.{◌≤◌, ◌-◌, length}
use Rattle.av_world.specs.Lands.{land_of}
use Rattle.av_groups.specs.Open.{AreClosed}
use Rattle.av_groups.proofs.cutting.cut.Given as goal

abbrev pub invariant-loop-from : goal.invariant-loop-from
invariant-loop-from l = record {
  within : l.from ≤ length l.all;
  closed : AreClosed (land_of l.world) l.all l.from l.groups.items l.marks.last.items;
}

abbrev pub decreases-loop-from : goal.decreases-loop-from
decreases-loop-from l = length l.all - l.from
