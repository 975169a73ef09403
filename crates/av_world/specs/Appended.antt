-- Entries appended to the lists of a world.
use Rattle.std.specs.Prelude.{ℕ, true, if◌then◌else◌, List, map}
use Rattle.av_types.specs.declared.tick.Entry.{Entry}
use Rattle.av_types.specs.declared.tick.Made.{Made}
use Rattle.av_ticks.specs.Entries.{is_pending}
use Rattle.av_cells.specs.World.{World, listed_all}
use Rattle.av_land.specs.Land.{Land}

abbrev pub entries_made : List Made → List Entry
entries_made ms = map (λ m. m.entry) ms

-- the blocks of these entries pending too
abbrev pub with_entries : World → List Entry → World
with_entries w es = record { loaded = w.loaded; number = w.number; pending = λ q. if is_pending q es then true else w.pending q }

-- these entries at the ends of their chunks' lists, in order
abbrev pub with_listed : Land ℕ → List Entry → Land ℕ
with_listed w es = record { height = w.height; chunks = w.chunks; at = w.at; lists = listed_all w.lists es }
