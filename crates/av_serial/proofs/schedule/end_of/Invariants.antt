use Rattle.std.proofs.Common.{◌≤◌, ◌-◌, length}
use Rattle.av_serial.specs.Schedule.{AreUpTo}
use Rattle.av_serial.proofs.schedule.end_of.Given as goal

abbrev pub invariant-loop-to : goal.invariant-loop-to
invariant-loop-to l = record {
  from : l.from ≤ l.to;
  within : l.to ≤ length l.edits;
  passed : AreUpTo l.now l.from l.to l.edits;
}

abbrev pub decreases-loop-to : goal.decreases-loop-to
decreases-loop-to l = length l.edits - l.to
