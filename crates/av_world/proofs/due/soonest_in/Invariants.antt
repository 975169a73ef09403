use Rattle.std.proofs.Common.{◌≡◌, ◌≤◌, ◌||◌, nat_eq, take, true}
use Rattle.av_world.specs.Due.{at_least, is_reached}
use Rattle.av_world.proofs.due.soonest_in.Given as goal

abbrev pub invariant-loop-entry : goal.invariant-loop-entry
invariant-loop-entry l = record {
  low : l.soonest ≤ l.most;
  none : at_least l.soonest (take l.entry-index l.entries) ≡ true;
  reached : nat_eq l.soonest l.most || is_reached l.soonest (take l.entry-index l.entries) ≡ true;
}
