-- The rule of water (minecraft.wiki, "Water" and "Fluid"): what a block is, what comes into it, how far it is to a drop.
use Rattle.std.specs.Prelude.{◌≡◌, ℕ, zero, suc, ◌+◌, ◌-◌, ◌<◌, max, nat_le, List, [], ◌∷◌, Bool, true, false, not, ◌&&◌, ◌||◌, if◌then◌else◌, Option, Some, None, IsTrue, length}
use Rattle.av_types.specs.declared.position.Pos.{Pos}
use Rattle.av_types.specs.declared.water.Direction.{Direction}
use Rattle.av_types.specs.declared.water.Direction.TheVariants.{North, South, West, East}
use Rattle.av_types.specs.declared.water.Wet.{Wet}
use Rattle.av_types.specs.declared.water.Wet.TheVariants.{Dry, Source, Flow, Falling}
use Rattle.av_types.specs.Water.{amount_of, is_wet, is_source}
use Rattle.av_cells.specs.declared.kind.Kind.{Kind}
use Rattle.av_cells.specs.Positions.{step, below, above}
use Rattle.av_cells.specs.World.{World}

-- a block that is not loaded is dry, not open, and floor
abbrev pub unloaded : Kind
unloaded = record { opens = false; floor = true; wet = Dry }

unfoldable pub kind_at : (ℕ → Kind) → World → Pos → Kind
kind_at k w p = if w.loaded p then k (w.number p) else unloaded

abbrev pub wet_at : (ℕ → Kind) → World → Pos → Wet
wet_at k w p = (kind_at k w p).wet

abbrev pub opens_at : (ℕ → Kind) → World → Pos → Bool
opens_at k w p = (kind_at k w p).opens

abbrev pub floor_at : (ℕ → Kind) → World → Pos → Bool
floor_at k w p = (kind_at k w p).floor

-- water can come in: the block is loaded, open and dry
unfoldable pub can_enter : (ℕ → Kind) → World → Pos → Bool
can_enter k w p = opens_at k w p && not (is_wet (wet_at k w p))

-- the block below is wet or can be entered
unfoldable pub has_hole : (ℕ → Kind) → World → Pos → Bool
has_hole k w p = is_wet (wet_at k w (below p)) || can_enter k w (below p)

abbrev pub one_if : Bool → ℕ
one_if true = 1
one_if false = 0

-- how many of the four horizontal neighbours are sources
unfoldable pub sources_beside : (ℕ → Kind) → World → Pos → ℕ
sources_beside k w p =
    one_if (is_source (wet_at k w (step p North))) + one_if (is_source (wet_at k w (step p South)))
    + one_if (is_source (wet_at k w (step p West))) + one_if (is_source (wet_at k w (step p East)))

-- the greatest amount of the four horizontal neighbours
unfoldable pub most_beside : (ℕ → Kind) → World → Pos → ℕ
most_beside k w p =
    max (max (amount_of (wet_at k w (step p North))) (amount_of (wet_at k w (step p South))))
    (max (amount_of (wet_at k w (step p West))) (amount_of (wet_at k w (step p East))))

-- what comes into a block: a source between two sources over a floor or a source, falling water under water,
-- one less than the greatest amount beside it, or nothing
unfoldable pub incoming_at : (ℕ → Kind) → World → Pos → Wet
incoming_at k w p =
    if nat_le 2 (sources_beside k w p) && (floor_at k w (below p) || is_source (wet_at k w (below p))) then Source
    else (if is_wet (wet_at k w (above p)) then Falling
    else (if nat_le 2 (most_beside k w p) then Flow (most_beside k w p - 1) else Dry))

-- a walk to a drop may pass the block: it is open or wet, and no source
unfoldable pub can_pass : (ℕ → Kind) → World → Pos → Bool
can_pass k w p = (opens_at k w p || is_wet (wet_at k w p)) && not (is_source (wet_at k w p))

-- each block is beside the one before
abbrev pub IsPath : Pos → List Pos → Type 0
IsPath p [] = Unit {0}
IsPath p (q ∷ qs) = ((d : Direction) × (q ≡ step p d)) × IsPath q qs

abbrev pub AllPass : (ℕ → Kind) → World → Pos → List Pos → Type 0
AllPass k w p [] = IsTrue (can_pass k w p)
AllPass k w p (q ∷ qs) = IsTrue (can_pass k w p) × AllPass k w q qs

abbrev pub last_of : Pos → List Pos → Pos
last_of p [] = p
last_of p (q ∷ qs) = last_of q qs

-- a walk of n steps from p to a drop: p and then a list of n blocks, each beside the one before, each to be passed, the last with a hole
pub record IsWalk (k : ℕ → Kind) (w : World) (p : Pos) (n : ℕ) (blocks : List Pos) : Type 0 where
  pub long : length blocks ≡ n
  pub beside : IsPath p blocks
  pub passes : AllPass k w p blocks
  pub drops : IsTrue (has_hole k w (last_of p blocks))

pub record HasWalk (k : ℕ → Kind) (w : World) (p : Pos) (n : ℕ) : Type 0 where
  pub blocks : List Pos
  pub walk : IsWalk k w p n blocks

-- the least length of a walk, of 0 to 4, or none
abbrev pub IsDrop : (ℕ → Kind) → World → Pos → Option ℕ → Type 0
IsDrop k w p None = (n : ℕ) → n < 5 → ¬ HasWalk k w p n
IsDrop k w p (Some n) = (n < 5) × HasWalk k w p n × ((m : ℕ) → m < n → ¬ HasWalk k w p m)

-- the same by computing: whether there is a walk of n steps
unfoldable pub can_drop : (ℕ → Kind) → World → ℕ → Pos → Bool
can_drop k w zero p = can_pass k w p && has_hole k w p
can_drop k w (suc n) p =
    can_pass k w p && (can_drop k w n (step p North) || can_drop k w n (step p South) || can_drop k w n (step p West) || can_drop k w n (step p East))

-- what was found before, else this length if there is a walk of it
abbrev pub found_or : Option ℕ → Bool → ℕ → Option ℕ
found_or (Some m) b n = Some m
found_or None b n = if b then Some n else None

-- the least length of a walk, of those below n
abbrev pub found_below : (ℕ → Kind) → World → Pos → ℕ → Option ℕ
found_below k w p zero = None
found_below k w p (suc n) = found_or (found_below k w p n) (can_drop k w n p) n

-- each loaded block's number has a kind
abbrev pub HasKinds : ℕ → World → Type 0
HasKinds kinds w = (p : Pos) → IsTrue (w.loaded p) → w.number p < kinds
