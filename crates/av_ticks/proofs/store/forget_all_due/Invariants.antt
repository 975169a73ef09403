use Rattle.std.proofs.Common.{◌≡◌, ◌&&◌, not, take, filter}
use Rattle.av_types.specs.declared.position.Pos.{Pos}
use Rattle.av_ticks.specs.Entries.{is_pending, is_due}
use Rattle.av_ticks.specs.Held.{holds}
use Rattle.av_ticks.proofs.store.forget_all_due.Given as goal

-- those of the entries so far that are due are gone
abbrev pub invariant-loop-entry : goal.invariant-loop-entry
invariant-loop-entry l = (p : Pos) → holds l.index p ≡ (holds l.fn.index p && not (is_pending p (filter (is_due l.now) (take l.entry-index l.entries))))
