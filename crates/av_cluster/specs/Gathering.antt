-- Entries put into parts, one after the other.
use Rattle.std.specs.Prelude.{◌≡◌, ℕ, ◌<◌, List, length, take, slice_index}
use Rattle.av_types.specs.declared.tick.Entry.{Entry}
use Rattle.av_play.specs.declared.event.DueEntry.{DueEntry}
use Rattle.av_play.specs.Parts.{numbered}
use Rattle.av_play.specs.Groups.{rank, grouped}

-- the number of the part of the entry at an index, where each index has the first one of its group as label
abbrev pub part_by : (ℕ → ℕ) → ℕ → ℕ
part_by label index = rank label (label index)

-- so many entries are in parts
pub record IsGathered (entries : List Entry) (label : ℕ → ℕ) (n : ℕ) (numbers : List ℕ) (parts : List (List DueEntry)) : Type 0 where
  pub parts_are : parts ≡ grouped (part_by label) (take n (numbered 0 entries)) 0 (rank label n)
  pub count : length numbers ≡ n
  pub numbers_are : (k : ℕ) → k < n → slice_index numbers k ≡ part_by label k

-- each index alone in its group
pub record AreAlone (ps : List ℕ) (n : ℕ) : Type 0 where
  pub count : length ps ≡ n
  pub own : (k : ℕ) → k < n → slice_index ps k ≡ k
