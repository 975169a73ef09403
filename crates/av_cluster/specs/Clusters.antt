-- The parts of a plan, each with its entries and its sections.
use Rattle.std.specs.Prelude.{◌≡◌, ◌↔◌, ℕ, ℤ, List, [], ◌∷◌, ◌++◌, map, false, Option, None, Some, slice_index, slice_set, slice_index_or}
use Rattle.std.specs.List.{Contains, AllPairs}
use Rattle.av_types.specs.declared.position.SectionPos.{SectionPos}
use Rattle.av_types.specs.declared.tick.Entry.{Entry}
use Rattle.av_cells.specs.Positions.{same_section}
use Rattle.av_cells.specs.World.{World}
use Rattle.av_play.specs.declared.event.DueEntry.{DueEntry}
use Rattle.av_play.specs.Parts.{IsPlan, part_at}
use Rattle.av_play.specs.Laws.{IsOfPart}
use Rattle.av_cluster.specs.Joining.{key_of, Owners}
use Rattle.av_cluster.specs.declared.cluster_part.Cluster.{Cluster}

-- the entries of each part
abbrev pub parts_of : List Cluster → List (List DueEntry)
parts_of cs = map (λ c. c.entries.items) cs

-- the sections of each part
abbrev pub sections_of : List Cluster → List (List SectionPos)
sections_of cs = map (λ c. c.sections.items) cs

-- the sections of the n-th part; one that is not there has none
abbrev pub sections_at : List (List SectionPos) → ℕ → List SectionPos
sections_at xs n = slice_index_or xs n []

-- no part has a section twice
abbrev pub AreOnce : List (List SectionPos) → Type 0
AreOnce xs = (n : ℕ) → AllPairs (λ s t. same_section t s ≡ false) (sections_at xs n)

-- the plan of entries, each part with the sections of its entries' territories, each once
pub record ArePlanned (w : World) (entries : List Entry) (cs : List Cluster) : Type 0 where
  pub plan : IsPlan w entries (parts_of cs)
  pub exact : (n : ℕ) (s : SectionPos) → Contains (sections_at (sections_of cs) n) s ↔ IsOfPart w (part_at (parts_of cs) n) s
  pub once : AreOnce (sections_of cs)

-- ---- How sections are given to parts. No public clause cites what follows.

-- a section went to the part of its owner, if it has one
abbrev pub IsGiven : Option ℕ → List ℕ → SectionPos → List (List SectionPos) → List (List SectionPos) → Type 0
IsGiven None numbers s old new = new ≡ old
IsGiven (Some k) numbers s old new = new ≡ slice_set old (slice_index numbers k) (slice_index_or old (slice_index numbers k) [] ++ s ∷ [])

-- no part has a section
abbrev pub AreBare : List (List SectionPos) → Type 0
AreBare xs = (n : ℕ) → slice_index_or xs n [] ≡ []

-- a section of one of these keys whose owner is in the part
pub record IsSharedTo (owners : Owners) (numbers : List ℕ) (keys : List (ℤ × ℤ × ℤ)) (n : ℕ) (s : SectionPos) : Type 0 where
  pub key : Contains keys (key_of s)
  pub owner : ℕ
  pub owns : owners s ≡ Some owner
  pub of_part : slice_index numbers owner ≡ n

-- each part has the sections of those keys whose owner is in it
abbrev pub AreShared : Owners → List ℕ → List (ℤ × ℤ × ℤ) → List (List SectionPos) → Type 0
AreShared owners numbers keys xs = (n : ℕ) (s : SectionPos) → Contains (slice_index_or xs n []) s ↔ IsSharedTo owners numbers keys n s
