-- Worlds that agree on some blocks.
use Rattle.std.specs.Prelude.{◌≡◌, ℕ, ◌+◌, pos, IsTrue}
use Rattle.av_types.specs.declared.tick.Entry.{Entry}
use Rattle.av_types.specs.declared.position.Pos.{Pos}
use Rattle.av_cells.specs.Positions.{InReach}
use Rattle.av_cells.specs.World.{World}
use Rattle.av_cells.specs.Turn.{Change, turn}
use Rattle.av_cells.specs.declared.kind.Kind.{Kind}

-- among these blocks the same are loaded, with the same states, and the same are pending
pub record Agree (R : Pos → Type 0) (v w : World) : Type 0 where
  pub same_loaded : (q : Pos) → R q → v.loaded q ≡ w.loaded q
  pub same_number : (q : Pos) → R q → v.number q ≡ w.number q
  pub same_pending : (q : Pos) → R q → v.pending q ≡ w.pending q

-- and the same entries were made
pub record Same (R : Pos → Type 0) (c d : Change) : Type 0 where
  pub agree : Agree R c.world d.world
  pub same_made : c.made ≡ d.made

-- what is not among these blocks is as it was, and no block was loaded or unloaded
pub record Kept (R : Pos → Type 0) (v w : World) : Type 0 where
  pub kept_loaded : w.loaded ≡ v.loaded
  pub kept_number : (q : Pos) → ¬ R q → w.number q ≡ v.number q
  pub kept_pending : (q : Pos) → ¬ R q → w.pending q ≡ v.pending q

-- the loaded blocks of a reach
abbrev pub InLoadedReach : World → Pos → Pos → Type 0
InLoadedReach w p q = InReach p q × IsTrue (w.loaded q)

-- no loaded block lies in both reaches
abbrev pub AreApart : World → Pos → Pos → Type 0
AreApart w p q = (r : Pos) → InReach p r → InReach q r → ¬ IsTrue (w.loaded r)

-- the same in every block
abbrev pub SameCells : World → World → Type 0
SameCells v w = Agree (λ _. Unit {0}) v w

-- an entry that a turn of p in tick now may make
pub record IsMadeBy (w : World) (now : ℕ) (p : Pos) (e : Entry) : Type 0 where
  pub in_reach : InReach p e.pos
  pub loaded : IsTrue (w.loaded e.pos)
  pub due : e.due ≡ pos (now + 5)
  pub priority : e.priority ≡ pos 0

-- the turns of two blocks, in either order, give the same blocks and make the same entries
pub record Commute (k : ℕ → Kind) (now : ℕ) (p q : Pos) (w : World) : Type 0 where
  pub same_cells : SameCells (turn k now q (turn k now p w).world).world (turn k now p (turn k now q w).world).world
  pub same_first : (turn k now p w).made ≡ (turn k now p (turn k now q w).world).made
  pub same_second : (turn k now q (turn k now p w).world).made ≡ (turn k now q w).made
