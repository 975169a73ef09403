use Rattle.std.proofs.Common.{◌≡◌, ◌++◌, filter, take}
use Rattle.std.specs.Prelude.{int_le}
use Rattle.av_types.specs.declared.tick.Entry.{Entry}
use Rattle.av_world.proofs.due.push_due.Given as goal

abbrev pub invariant-loop-entry : goal.invariant-loop-entry
invariant-loop-entry l = l.due.items ≡ l.fn.due.items ++ filter (λ (e : Entry). int_le e.due l.now) (take l.entry-index l.entries)
