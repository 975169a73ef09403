-- The same world with other numbers for its states, and each entry due so many ticks later.
use Rattle.std.specs.Prelude.{◌≡◌, ℕ, ◌+◌, ◌<◌, pos, ◌+ℤ◌, List, map}
use Rattle.av_types.specs.declared.tick.Entry.{Entry}
use Rattle.av_types.specs.declared.position.Pos.{Pos}
use Rattle.av_cells.specs.declared.kind.Kind.{Kind}
use Rattle.av_cells.specs.World.{World}
use Rattle.av_cells.specs.Turn.{Change, change, turn}
use Rattle.av_land.specs.Land.{Land}
use Rattle.av_cells.specs.Sets.{Set}
use Rattle.av_land.specs.Tick.{run_after, count_after}

abbrev pub later : ℕ → Entry → Entry
later n e = record { pos = e.pos; due = e.due +ℤ pos n; priority = e.priority }

abbrev pub renumbered : (ℕ → ℕ) → World → World
renumbered f w = record { loaded = w.loaded; number = λ p. f (w.number p); pending = w.pending }

abbrev pub moved_change : (ℕ → ℕ) → ℕ → Change → Change
moved_change f n c = change (renumbered f c.world) (map (later n) c.made)

abbrev pub moved : {S T : Type 0} → (S → T) → ℕ → Land S → Land T
moved f n w = record { height = w.height; chunks = w.chunks; at = λ p. f (w.at p); lists = λ c. map (later n) (w.lists c) }

abbrev pub moved_set : {S T : Type 0} → (S → T) → ℕ → Set S → Set T
moved_set f n e = record { tick = e.tick + n; pos = e.pos; what = f e.what }

-- air and the water levels have the same numbers
abbrev pub KeepsFirst : (ℕ → ℕ) → Type 0
KeepsFirst f = (m : ℕ) → m < 10 → f m ≡ m

-- A turn of a world with other numbers, so many ticks later, is the turn with those numbers, so many ticks later.
abbrev pub TurnMoves : Type 0
TurnMoves = (k : ℕ → Kind) (f : ℕ → ℕ) (n now : ℕ) (p : Pos) (w : World) → KeepsFirst f
    → turn k (now + n) p (renumbered f w) ≡ moved_change f n (turn (λ m. k (f m)) now p w)

abbrev pub RunMoves : Type 0
RunMoves = (k : ℕ → Kind) (f : ℕ → ℕ) (n : ℕ) (es : List (Set ℕ)) (m : ℕ) (w : Land ℕ) → KeepsFirst f
    → run_after k n (map (moved_set f n) es) m (moved f n w) ≡ moved f n (run_after (λ m. k (f m)) 0 es m w)

-- and as many entries leave their lists
abbrev pub CountMoves : Type 0
CountMoves = (k : ℕ → Kind) (f : ℕ → ℕ) (n : ℕ) (es : List (Set ℕ)) (m : ℕ) (w : Land ℕ) → KeepsFirst f
    → count_after k n (map (moved_set f n) es) m (moved f n w) ≡ count_after (λ m. k (f m)) 0 es m w
