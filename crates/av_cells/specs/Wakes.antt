-- Entries that are made, the lists to which they are added, and the room that they need.
use Rattle.std.specs.Prelude.{◌≡◌, ℕ, ◌≤◌, List, [], ◌∷◌, ◌++◌, IsTrue}
use Rattle.av_types.specs.declared.position.Pos.{Pos}
use Rattle.av_types.specs.declared.tick.Entry.{Entry}
use Rattle.av_cells.specs.World.{World, Lists, listed_all}

-- some entries were made, and appended to the lists of their chunks
pub record Appends (old_made new_made : List Entry) (old_lists new_lists : Lists) : Type 0 where
  pub added : List Entry
  pub made_is : new_made ≡ old_made ++ added
  pub lists_are : new_lists ≡ listed_all old_lists added

-- where a block is loaded, so many entries of it take no memory
abbrev pub HasRoom : World → (Pos → ℕ) → ℕ → Pos → Type 0
HasRoom w room n q = IsTrue (w.loaded q) → n ≤ room q

-- the same of each of these blocks
abbrev pub HaveRoom : World → (Pos → ℕ) → ℕ → List Pos → Type 0
HaveRoom w room n [] = Unit {0}
HaveRoom w room n (q ∷ qs) = HasRoom w room n q × HaveRoom w room n qs

-- the same blocks are loaded, in the same states
pub record SameStates (v w : World) : Type 0 where
  pub loaded : w.loaded ≡ v.loaded
  pub number : w.number ≡ v.number
