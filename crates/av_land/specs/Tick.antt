-- A tick, and a run of ticks.
use Rattle.std.specs.Prelude.{ℕ, zero, suc, ◌+◌, not, if◌then◌else◌, nat_eq, List, [], ◌∷◌, length}
use Rattle.std.specs.List.{flat_map, filter}
use Rattle.av_types.specs.declared.position.Pos.{Pos}
use Rattle.av_types.specs.declared.tick.Entry.{Entry}
use Rattle.av_ticks.specs.Entries.{is_due, due_order}
use Rattle.av_types.specs.Order.{ordered}
use Rattle.av_cells.specs.declared.kind.Kind.{Kind}
use Rattle.av_cells.specs.Sets.{Set}
use Rattle.av_cells.specs.World.{listed_all}
use Rattle.av_cells.specs.Turn.{Change, change, set_awake, turn}
use Rattle.av_land.specs.Land.{Land, cells_of}

-- the world after its blocks changed and entries were made
abbrev pub after : Land ℕ → Change → Land ℕ
after w c = record { height = w.height; chunks = w.chunks; at = c.world.number; lists = listed_all w.lists c.made }

abbrev pub turned : (ℕ → Kind) → ℕ → Pos → Land ℕ → Land ℕ
turned k now p w = after w (turn k now p (cells_of w))

abbrev pub set_in : (ℕ → Kind) → ℕ → Pos → ℕ → Land ℕ → Land ℕ
set_in k now p n w = after w (set_awake k now p n (change (cells_of w) []))

-- the edits of tick now, in order
abbrev pub edited : (ℕ → Kind) → ℕ → List (Set ℕ) → Land ℕ → Land ℕ
edited k now [] w = w
edited k now (e ∷ es) w = edited k now es (if nat_eq e.tick now then set_in k now e.pos e.what w else w)

-- the entries due in tick now, in the order in which they are turned: stable, so that ties stay by chunk (z, x) and place
abbrev pub due_entries : {S : Type 0} → ℕ → Land S → List Entry
due_entries now w = ordered due_order (filter (is_due now) (flat_map w.lists w.chunks))

abbrev pub without_due : {S : Type 0} → ℕ → Land S → Land S
without_due now w = record { height = w.height; chunks = w.chunks; at = w.at; lists = λ c. filter (λ e. not (is_due now e)) (w.lists c) }

abbrev pub turned_all : (ℕ → Kind) → ℕ → List Entry → Land ℕ → Land ℕ
turned_all k now [] w = w
turned_all k now (e ∷ es) w = turned_all k now es (turned k now e.pos w)

-- the edits, and then the due entries leave and are turned one after the other
abbrev pub ticked : (ℕ → Kind) → ℕ → List (Set ℕ) → Land ℕ → Land ℕ
ticked k now es w = let v = edited k now es w in turned_all k now (due_entries now v) (without_due now v)

abbrev pub tick_count : (ℕ → Kind) → ℕ → List (Set ℕ) → Land ℕ → ℕ
tick_count k now es w = length (due_entries now (edited k now es w))

-- so many ticks after the first ones
abbrev pub run_after : (ℕ → Kind) → ℕ → List (Set ℕ) → ℕ → Land ℕ → Land ℕ
run_after k first es zero w = w
run_after k first es (suc m) w = ticked k (suc m + first) es (run_after k first es m w)

abbrev pub count_after : (ℕ → Kind) → ℕ → List (Set ℕ) → ℕ → Land ℕ → ℕ
count_after k first es zero w = 0
count_after k first es (suc m) w = count_after k first es m w + tick_count k (suc m + first) es (run_after k first es m w)

-- ticks 1 to n
abbrev pub run : (ℕ → Kind) → List (Set ℕ) → ℕ → Land ℕ → Land ℕ
run k es n w = run_after k 0 es n w

abbrev pub run_count : (ℕ → Kind) → List (Set ℕ) → ℕ → Land ℕ → ℕ
run_count k es n w = count_after k 0 es n w
