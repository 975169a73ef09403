-- Entries that are kept with an index where they are many.
use Rattle.std.specs.Prelude.{ℕ, ◌-◌, List, vec_capacity, vec_len}
use Rattle.av_types.specs.declared.tick.Entry.{Entry}
use Rattle.av_ticks.specs.declared.store.Store.{Store}

-- the entries, in order
abbrev pub stored : Store → List Entry
stored s = s.entries.items

-- for how many more there is room
abbrev pub spare_in : Store → ℕ
spare_in s = vec_capacity s.entries - vec_len s.entries
