-- What a column holds.
use Rattle.std.specs.Prelude.{ℕ, ℤ, List, Bool}
use Rattle.av_types.specs.declared.tick.Entry.{Entry}
use Rattle.av_cells.specs.World.{World}
use Rattle.av_column.specs.Columns.{world_of}
use Rattle.av_column.specs.declared.columns.Column.{Column}

-- its lowest layer, and how many there are
abbrev pub bottom_of : Column → ℤ
bottom_of c = c.bottom

abbrev pub layer_count : Column → ℕ
layer_count c = c.layers

-- the number of each block, and whether an entry of it waits, layer by layer
abbrev pub numbers_of : Column → List ℕ
numbers_of c = c.numbers.items

abbrev pub waits_of : Column → List Bool
waits_of c = c.waiting.items

-- its blocks, and its entries in the order in which they were added
abbrev pub blocks_of : Column → World
blocks_of c = world_of c.bottom c.layers c.numbers.items c.waiting.items

abbrev pub entries_of : Column → List Entry
entries_of c = c.entries.items
