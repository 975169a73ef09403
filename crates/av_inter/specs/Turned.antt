-- One entry turned in a parcel.
use Rattle.std.specs.Prelude.{◌≡◌, ℕ, ◌++◌, List, Option, Some, None, IsTrue}
use Rattle.av_types.specs.declared.tick.Made.{Made}
use Rattle.av_cells.specs.declared.kind.Kind.{Kind}
use Rattle.av_cells.specs.Rule.{HasKinds}
use Rattle.av_cells.specs.World.{listed_all}
use Rattle.av_play.specs.declared.event.DueEntry.{DueEntry}
use Rattle.av_play.specs.Play.{turn_of, made_by}
use Rattle.av_inter.specs.Out.{Out}

-- its block is there, and the kinds of all blocks are known
pub record CanTurn (count : ℕ) (x : DueEntry) (o : Out) : Type 0 where
  pub known : HasKinds count o.blocks
  pub loaded : IsTrue (o.blocks.loaded x.entry.pos)

abbrev pub CanTurnIn : ℕ → DueEntry → Option Out → Type 0
CanTurnIn count x None = ⊥
CanTurnIn count x (Some o) = CanTurn count x o

-- the entry was turned, and what it made was put aside
pub record Turns (k : ℕ → Kind) (now count : ℕ) (x : DueEntry) (old new : Out) (made more : List Made) : Type 0 where
  pub blocks : new.blocks ≡ (turn_of k now x old.blocks).world
  pub aside : new.aside ≡ listed_all old.aside (turn_of k now x old.blocks).made
  pub put : more ≡ made ++ made_by k now x old.blocks
  pub known : HasKinds count new.blocks

abbrev pub TurnsIn : (ℕ → Kind) → ℕ → ℕ → DueEntry → Option Out → Option Out → List Made → List Made → Type 0
TurnsIn k now count x (Some o) (Some p) made more = Turns k now count x o p made more
TurnsIn k now count x o p made more = ⊥
