-- The entries of a tick in parts: two entries are in one part if a chain of entries links them, each sharing a section with the next.
-- Sections are any division of the blocks in which each block lies in exactly one; S names them.
use Rattle.std.specs.Prelude.{◌≡◌, ℕ, zero, suc, ◌<◌, nat_eq, IsTrue, ◌↔◌, List, [], ◌∷◌}
use Rattle.std.specs.List.{Contains, filter}
use Rattle.av_types.specs.declared.position.Pos.{Pos}
use Rattle.av_types.specs.declared.tick.Entry.{Entry}
use Rattle.av_cells.specs.Positions.{InReach}
use Rattle.av_play.specs.declared.event.DueEntry.{DueEntry}
use Rattle.av_cells.specs.World.{World}

-- entries with their indices, counted from n
abbrev pub numbered : ℕ → List Entry → List DueEntry
numbered n [] = []
numbered n (e ∷ es) = record { index = n; entry = e } ∷ numbered (suc n) es

-- the section has a loaded block in the reach of p
pub record InTerritory {S : Type 0} (division : Pos → S) (w : World) (p : Pos) (s : S) : Type 0 where
  pub block : Pos
  pub in_reach : InReach p block
  pub loaded : IsTrue (w.loaded block)
  pub lies : division block ≡ s

-- a section lies in both territories
pub record ShareSection {S : Type 0} (division : Pos → S) (w : World) (p q : Pos) : Type 0 where
  pub section : S
  pub first : InTerritory division w p section
  pub second : InTerritory division w q section

-- a chain of entries of the tick from a to b, each sharing a section with the next
abbrev pub IsChain : {S : Type 0} → (Pos → S) → World → List DueEntry → DueEntry → List DueEntry → DueEntry → Type 0
IsChain division w all a [] b = ShareSection division w a.entry.pos b.entry.pos
IsChain division w all a (c ∷ cs) b = Contains all c × ShareSection division w a.entry.pos c.entry.pos × IsChain division w all c cs b

pub record AreLinked {S : Type 0} (division : Pos → S) (w : World) (all : List DueEntry) (a b : DueEntry) : Type 0 where
  pub between : List DueEntry
  pub links : IsChain division w all a between b

-- the n-th part; one that is not there has no entry
abbrev pub part_at : List (List DueEntry) → ℕ → List DueEntry
part_at [] n = []
part_at (p ∷ ps) zero = p
part_at (p ∷ ps) (suc n) = part_at ps n

-- both have an entry, and the first entry of the one stands before that of the other
abbrev pub BeginsBefore : List DueEntry → List DueEntry → Type 0
BeginsBefore (x ∷ xs) (y ∷ ys) = x.index < y.index
BeginsBefore xs ys = ⊥

abbrev pub HasEntry : List DueEntry → Type 0
HasEntry [] = ⊥
HasEntry (x ∷ xs) = Unit {0}

abbrev pub count_of : List (List DueEntry) → ℕ
count_of [] = zero
count_of (p ∷ ps) = suc (count_of ps)

-- the plan of a tick's entries
pub record IsPlan {S : Type 0} (division : Pos → S) (w : World) (entries : List Entry) (parts : List (List DueEntry)) : Type 0 where
  -- the number of the part of each entry, by its index in the tick
  pub part_of : ℕ → ℕ
  -- a part is its entries, in the tick's order, and each entry is in one
  pub each : (n : ℕ) → part_at parts n ≡ filter (λ x. nat_eq (part_of x.index) n) (numbered 0 entries)
  pub together : (a b : DueEntry) → Contains (numbered 0 entries) a → Contains (numbered 0 entries) b → (part_of a.index ≡ part_of b.index) ↔ AreLinked division w (numbered 0 entries) a b
  -- no part is empty, and they stand in the order of their first entries
  pub nonempty : (n : ℕ) → n < count_of parts → HasEntry (part_at parts n)
  pub in_order : (m n : ℕ) → m < n → n < count_of parts → BeginsBefore (part_at parts m) (part_at parts n)

-- the section lies in the territory of an entry of the part
pub record IsOfPart {S : Type 0} (division : Pos → S) (w : World) (part : List DueEntry) (s : S) : Type 0 where
  pub owner : DueEntry
  pub there : Contains part owner
  pub territory : InTerritory division w owner.entry.pos s
