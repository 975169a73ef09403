use Rattle.std.proofs.Common.{◌≤◌}
use Rattle.av_changes.specs.Changes.{AreChangedBelow}
use Rattle.av_changes.proofs.counting.changed_indices.Given as goal

abbrev pub invariant-loop-index : goal.invariant-loop-index
invariant-loop-index l = AreChangedBelow l.old.bytes.now l.new.bytes.now l.index l.changed × (l.changed ≤ l.index)
