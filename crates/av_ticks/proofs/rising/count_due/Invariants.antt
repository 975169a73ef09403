use Rattle.std.proofs.Common.{◌≡◌, true}
use Rattle.std.specs.List.{AllWithin}
use Rattle.av_ticks.specs.Entries.{is_due}
use Rattle.av_ticks.proofs.rising.count_due.Given as goal

-- those before it are due
abbrev pub invariant-loop-index : goal.invariant-loop-index
invariant-loop-index l = AllWithin (λ e. is_due l.fn.now e ≡ true) l.entries 0 l.index
