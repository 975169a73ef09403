-- Entries of scheduled ticks, and the orders in which they are gone through (minecraft.wiki, "Tick", "Scheduled tick").
use Rattle.std.specs.Prelude.{ℕ, ℤ, pos, int_le, Bool, true, false, if◌then◌else◌, List, [], ◌∷◌}
use Rattle.std.specs.Int.{int_min}
use Rattle.std.specs.List.{fold}
use Rattle.std.specs.Ordering.{int_cmp, nat_cmp, ordering_then}
use Rattle.std.specs.declared.cmp.Ordering.{Ordering}
pub use Rattle.av_types.specs.Positions.{same_pos}
use Rattle.av_types.specs.declared.position.Pos.{Pos}
use Rattle.av_types.specs.declared.tick.Entry.{Entry}
use Rattle.av_types.specs.declared.tick.Made.{Made}

-- an entry of the position is there
abbrev pub is_pending : Pos → List Entry → Bool
is_pending p [] = false
is_pending p (e ∷ es) = if same_pos p e.pos then true else is_pending p es

-- no position is there twice
abbrev pub are_apart : List Entry → Bool
are_apart [] = true
are_apart (e ∷ es) = if is_pending e.pos es then false else are_apart es

-- due in this tick or in an earlier one
abbrev pub is_due : ℕ → Entry → Bool
is_due now e = int_le e.due (pos now)

-- the least time of some entries, and the greatest of all times where there is none
abbrev pub least_due : List Entry → ℤ
least_due es = fold (λ t e. int_min t e.due) (pos 9223372036854775807) es

-- an earlier entry is below a later one, and among those of one tick a lower priority
abbrev pub due_order : Entry → Entry → Ordering
due_order a b = ordering_then (int_cmp a.due b.due) (int_cmp a.priority b.priority)

-- entries that turns made, by the place of the turn in the tick and then by their number in that turn
abbrev pub made_order : Made → Made → Ordering
made_order a b = ordering_then (nat_cmp a.maker b.maker) (nat_cmp a.number b.number)
