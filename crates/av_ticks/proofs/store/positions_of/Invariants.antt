use Rattle.std.proofs.Common.{◌≡◌, take}
use Rattle.av_types.specs.declared.position.Pos.{Pos}
use Rattle.av_ticks.specs.Entries.{is_pending}
use Rattle.av_ticks.specs.Held.{holds}
use Rattle.av_ticks.proofs.store.positions_of.Given as goal

-- the positions are those of the entries so far
abbrev pub invariant-loop-entry : goal.invariant-loop-entry
invariant-loop-entry l = (p : Pos) → holds l.index p ≡ is_pending p (take l.entry-index l.entries)
