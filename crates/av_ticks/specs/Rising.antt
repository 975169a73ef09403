-- Times that do not fall. Working definitions: no public clause cites them.
use Rattle.std.specs.Prelude.{List, int_lt}
use Rattle.std.specs.List.Sorted.{IsSortedBy}
use Rattle.av_types.specs.declared.tick.Entry.{Entry}

-- no entry is due before the one that it follows
abbrev pub AreRising : List Entry → Type 0
AreRising es = IsSortedBy (λ a b. int_lt a.due b.due) es
