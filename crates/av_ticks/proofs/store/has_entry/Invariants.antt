use Rattle.std.proofs.Common.{◌≡◌, drop}
use Rattle.av_ticks.specs.Entries.{is_pending}
use Rattle.av_ticks.proofs.store.has_entry.Given as goal

-- the position is that of none before, so it is pending in the rest if it is at all
abbrev pub invariant-loop-entry : goal.invariant-loop-entry
invariant-loop-entry l = record { rest : is_pending l.pos (drop l.entry-index l.entries) ≡ is_pending l.pos l.entries }
