-- A turn, as a function from a world to a world and the entries made.
use Rattle.std.specs.Prelude.{ℕ, ◌+◌, ◌-◌, pos, nat_le, nat_lt, nat_eq, min, List, [], ◌∷◌, ◌++◌, Bool, true, false, not, ◌&&◌, ◌||◌, if◌then◌else◌, Option, Some, None}
use Rattle.av_types.specs.declared.position.Pos.{Pos}
use Rattle.av_types.specs.declared.water.Direction.{Direction}
use Rattle.av_types.specs.declared.water.Direction.TheVariants.{North, South, West, East}
use Rattle.av_types.specs.declared.tick.Entry.{Entry}
use Rattle.av_types.specs.declared.water.Wet.{Wet}
use Rattle.av_types.specs.declared.water.Wet.TheVariants.{Dry, Source, Flow, Falling}
use Rattle.av_cells.specs.Positions.{step, below, around}
use Rattle.av_types.specs.Water.{amount_of, is_wet, is_source}
use Rattle.av_cells.specs.World.{World, with_number, with_entry_if}
use Rattle.av_cells.specs.declared.kind.Kind.{Kind}
use Rattle.av_cells.specs.Rule.{wet_at, can_enter, has_hole, sources_beside, incoming_at, found_below}

-- a world, and the entries made so far
pub record Change : Type 0 where
  pub world : World
  pub made : List Entry

abbrev pub change : World → List Entry → Change
change w es = record { world = w; made = es }

-- the number of a state of water: 0 is air, 1 to 9 are the levels 0 to 8
abbrev pub number_of_wet : Wet → ℕ
number_of_wet Dry = 0
number_of_wet Source = 1
number_of_wet (Flow amount) = 9 - amount
number_of_wet Falling = 9

-- due five ticks later
abbrev pub entry_of : Pos → ℕ → Entry
entry_of p now = record { pos = p; due = pos (now + 5); priority = pos 0 }

-- the block is to be woken: it is wet, and no entry of it waits
abbrev pub wakes : (ℕ → Kind) → World → Pos → Bool
wakes k w p = is_wet (wet_at k w p) && not (w.pending p)

-- a wet block with no entry gets one
unfoldable pub woken : (ℕ → Kind) → ℕ → Pos → Change → Change
woken k now p c =
    change (with_entry_if (wakes k c.world p) c.world (entry_of p now))
    (if wakes k c.world p then c.made ++ entry_of p now ∷ [] else c.made)

abbrev pub woken_all : (ℕ → Kind) → ℕ → List Pos → Change → Change
woken_all k now [] c = c
woken_all k now (p ∷ ps) c = woken_all k now ps (woken k now p c)

-- a block is set, and then it and those next to it are woken
unfoldable pub set_awake : (ℕ → Kind) → ℕ → Pos → ℕ → Change → Change
set_awake k now p n c = woken_all k now (around p) (change (with_number c.world p n) c.made)

-- the drop of a block: the least n of 0 to 4 for which there is a walk
unfoldable pub drop_of : (ℕ → Kind) → World → Pos → Option ℕ
drop_of k w p = found_below k w p 5

-- as a number: 5 for none
abbrev pub rank_of : Option ℕ → ℕ
rank_of None = 5
rank_of (Some n) = n

-- how far it is to a drop that way: 0 to 4, 5 where it can be entered and there is no drop, 6 where it cannot be entered
unfoldable pub rank_at : (ℕ → Kind) → World → Pos → Direction → ℕ
rank_at k w p d = if can_enter k w (step p d) then rank_of (drop_of k w (step p d)) else 6

unfoldable pub least_rank : (ℕ → Kind) → World → Pos → ℕ
least_rank k w p = min (min (rank_at k w p North) (rank_at k w p South)) (min (rank_at k w p West) (rank_at k w p East))

-- the direction can be entered, and none that can be entered has a nearer drop
unfoldable pub is_chosen : (ℕ → Kind) → World → Pos → Direction → Bool
is_chosen k w p d = nat_lt (rank_at k w p d) 6 && nat_eq (rank_at k w p d) (least_rank k w p)

-- what the block that way is to be set to, if it is chosen
unfoldable pub planned : (ℕ → Kind) → World → Pos → Direction → Option ℕ
planned k w p d = if is_chosen k w p d then Some (number_of_wet (incoming_at k w (step p d))) else None

abbrev pub set_planned : (ℕ → Kind) → ℕ → Pos → Option ℕ → Change → Change
set_planned k now q None c = c
set_planned k now q (Some n) c = set_awake k now q n c

-- the chosen sides are set. Choice and amounts are those before any side was set
unfoldable pub spread : (ℕ → Kind) → ℕ → Pos → Change → Change
spread k now p c =
    if nat_le 2 (amount_of (wet_at k c.world p))
    then set_planned k now (step p East) (planned k c.world p East)
    (set_planned k now (step p West) (planned k c.world p West)
    (set_planned k now (step p South) (planned k c.world p South)
    (set_planned k now (step p North) (planned k c.world p North) c)))
    else c

-- first down, and then to the sides: over water that fell only between three sources, else where it can't fall or is a source
unfoldable pub onward : (ℕ → Kind) → ℕ → Pos → Change → Change
onward k now p c =
    if can_enter k c.world (below p)
    then (if nat_le 3 (sources_beside k c.world p)
    then spread k now p (set_awake k now (below p) (number_of_wet (incoming_at k c.world (below p))) c)
    else set_awake k now (below p) (number_of_wet (incoming_at k c.world (below p))) c)
    else (if is_source (wet_at k c.world p) || not (has_hole k c.world p) then spread k now p c else c)

abbrev pub same_wet : Wet → Wet → Bool
same_wet Dry Dry = true
same_wet Source Source = true
same_wet Falling Falling = true
same_wet (Flow a) (Flow b) = nat_eq a b
same_wet _ _ = false

-- a wet block: brought up to date, and then on, unless it dried
unfoldable pub renewed : (ℕ → Kind) → ℕ → Pos → Change → Change
renewed k now p c =
    if is_source (wet_at k c.world p) || same_wet (incoming_at k c.world p) (wet_at k c.world p)
    then onward k now p c
    else (if is_wet (incoming_at k c.world p)
    then onward k now p (set_awake k now p (number_of_wet (incoming_at k c.world p)) c)
    else set_awake k now p (number_of_wet (incoming_at k c.world p)) c)

-- a turn of a block in tick now
unfoldable pub turn : (ℕ → Kind) → ℕ → Pos → World → Change
turn k now p w = if is_wet (wet_at k w p) then renewed k now p (change w []) else change w []
