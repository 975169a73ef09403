-- Entries that are joined while their territories are looked at, one section after the other.
use Rattle.std.specs.Prelude.{◌≡◌, ℕ, ℤ, ◌<◌, ◌&&◌, Bool, true, false, if◌then◌else◌, List, length, ◌⊎◌, Option, None, Some, slice_get}
use Rattle.std.specs.Ordering.{int_eq}
use Rattle.std.specs.Map.{lookup}
use Rattle.av_types.specs.declared.position.SectionPos.{SectionPos}
use Rattle.av_types.specs.declared.tick.Entry.{Entry}
use Rattle.av_cells.specs.World.{World}
use Rattle.av_play.specs.declared.event.DueEntry.{DueEntry}
use Rattle.av_play.specs.Parts.{InTerritory, AreLinked, numbered}
use Rattle.av_cluster.specs.Forest.{first, IsFalling, AreJoined}

abbrev pub same_key : ℤ × ℤ × ℤ → ℤ × ℤ × ℤ → Bool
same_key a b = (int_eq a.0 b.0 && int_eq a.1 b.1) && int_eq a.2 b.2

abbrev pub key_of : SectionPos → ℤ × ℤ × ℤ
key_of s = (s.x, s.y, s.z)

-- the index that a list has for each section
abbrev pub owner_in : List ((ℤ × ℤ × ℤ) × ℕ) → SectionPos → Option ℕ
owner_in es s = lookup (same_key (key_of s)) es

-- the section is in the territory of the entry at the index
pub record Touches (w : World) (entries : List Entry) (index : ℕ) (s : SectionPos) : Type 0 where
  pub entry : Entry
  pub is_at : slice_get entries index ≡ Some entry
  pub territory : InTerritory w entry.pos s

-- a chain links the entries at two indices
pub record AreIndicesLinked (w : World) (entries : List Entry) (k l : ℕ) : Type 0 where
  pub one : DueEntry
  pub other : DueEntry
  pub one_at : slice_get (numbered 0 entries) k ≡ Some one
  pub other_at : slice_get (numbered 0 entries) l ≡ Some other
  pub linked : AreLinked w (numbered 0 entries) one other

abbrev pub Owners : Type 0
Owners = SectionPos → Option ℕ

-- one more section of one more index was looked at: it had an owner, with which the index is joined, or now has one
pub record IsTouched (old new : List ℕ) (was is : Owners) (s : SectionPos) (index : ℕ) : Type 0 where
  pub falling : IsFalling new
  pub count : length new ≡ length old
  pub case : ((owner : ℕ) × (was s ≡ Some owner) × AreJoined old new owner index × ((t : SectionPos) → is t ≡ was t)) ⊎ ((was s ≡ None) × (new ≡ old) × ((t : SectionPos) → is t ≡ (if same_key (key_of s) (key_of t) then Some index else was t)))

-- one more section was looked at, if it is there
abbrev pub IsTouchedIf : Bool → (old new : List ℕ) (was is : Owners) (s : SectionPos) (index : ℕ) → Type 0
IsTouchedIf true old new was is s index = IsTouched old new was is s index
IsTouchedIf false old new was is s index = (new ≡ old) × (is ≡ was)

-- what holds of the groups and the owners, where some sections of some indices were looked at
pub record IsNoted (w : World) (entries : List Entry) (ps : List ℕ) (owners : Owners) (IsDone : ℕ → SectionPos → Type 0) : Type 0 where
  pub falling : IsFalling ps
  pub count : length ps ≡ length entries
  pub done : (k : ℕ) (s : SectionPos) → IsDone k s → Touches w entries k s
  pub owned : (s : SectionPos) (k : ℕ) → owners s ≡ Some k → IsDone k s
  pub joined : (k : ℕ) (s : SectionPos) → IsDone k s → (j : ℕ) × (owners s ≡ Some j) × (first ps j ≡ first ps k)
  pub linked : (k : ℕ) → k < length entries → AreIndicesLinked w entries k (first ps k)

-- the sections of the indices before one
abbrev pub IsBefore : World → List Entry → ℕ → ℕ → SectionPos → Type 0
IsBefore w entries n k s = (k < n) × Touches w entries k s
