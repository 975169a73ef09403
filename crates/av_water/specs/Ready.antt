-- Working definitions: what the steps of a turn need. No public clause cites them.
use Rattle.std.specs.Prelude.{ℕ, ◌<◌, ◌≤◌, ◌+◌, List, length, IsTrue}
use Rattle.av_types.specs.declared.position.Pos.{Pos}
use Rattle.av_types.specs.declared.tick.Entry.{Entry}
use Rattle.av_cells.specs.Positions.{InReach, ForTurned}
use Rattle.av_cells.specs.Rule.{HasKinds}
use Rattle.av_cells.specs.World.{World}

-- a loaded block may be set to air or water
abbrev pub CanBeWet : World → (Pos → ℕ → Type 0) → Pos → Type 0
CanBeWet w can_set q = IsTrue (w.loaded q) → (n : ℕ) → n < 10 → can_set q n

pub record IsReadyForTurn (count : ℕ) (w : World) (room : Pos → ℕ) (can_set : Pos → ℕ → Type 0) (made : List Entry) (p : Pos) (adds : ℕ) : Type 0 where
  pub loaded : IsTrue (w.loaded p)
  pub kinds : HasKinds count w
  pub has_room : (q : Pos) → InReach p q → IsTrue (w.loaded q) → adds ≤ room q
  pub prepared : ForTurned (CanBeWet w can_set) p
  pub capacity : length made + adds ≤ 42
