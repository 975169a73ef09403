use Rattle.std.proofs.Common.{◌≡◌, take}
use Rattle.av_ticks.specs.Entries.{least_due}
use Rattle.av_ticks.proofs.rising.least_of.Given as goal

abbrev pub invariant-loop-entry : goal.invariant-loop-entry
invariant-loop-entry l = l.least ≡ least_due (take l.entry-index l.entries)
