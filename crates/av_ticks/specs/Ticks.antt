-- What a `TickList` holds.
use Rattle.std.specs.Prelude.{ℕ, List}
use Rattle.av_types.specs.declared.tick.Entry.{Entry}
use Rattle.av_ticks.specs.Stored.{stored, spare_in}
use Rattle.av_ticks.specs.declared.list.TickList.{TickList}

-- its entries, in the order in which they were added
abbrev pub entries : TickList → List Entry
entries l = stored l.store

-- for how many more entries there is room
abbrev pub room : TickList → ℕ
room l = spare_in l.store
