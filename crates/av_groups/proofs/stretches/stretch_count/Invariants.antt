use Rattle.std.proofs.Common.{◌≡◌, ◌+◌, ◌≤◌, drop}
use Rattle.av_groups.specs.Stretches.{stretches_behind, stretch_count}
use Rattle.av_groups.proofs.stretches.stretch_count.Given as goal

abbrev pub invariant-loop-entry : goal.invariant-loop-entry
invariant-loop-entry l = record {
  few : l.count ≤ l.entry-index;
  counted : l.count + stretches_behind l.before (drop l.entry-index l.entries) ≡ stretch_count l.entries;
}
