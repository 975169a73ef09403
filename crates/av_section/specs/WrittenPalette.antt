-- The numbers of a written palette, and the index of each place into it.
-- Working definitions. No public clause cites them.
use Rattle.std.specs.Prelude.{◌≡◌, ◌≢◌, ℕ, ◌<◌, ◌≤◌, List, [], length, map, nat_eq, slice_index, false}
use Rattle.std.specs.List.{list_any}
use Rattle.av_section.specs.Distinct.{with_numbers}

-- the numbers of the places, by a palette and their indices into it
abbrev pub numbers_of : List ℕ → List ℕ → List ℕ
numbers_of palette indices = map (slice_index palette) indices

-- of each entry of the palette, its index in the written one, or 65,535 where it has none yet
pub record KnowsIndices (palette seen written : List ℕ) : Type 0 where
  pub count : length seen ≡ length palette
  pub known : (k : ℕ) → k < length palette → slice_index seen k ≢ 65535 → (slice_index seen k < length written) × (slice_index written (slice_index seen k) ≡ slice_index palette k)
  pub unknown : (k : ℕ) → k < length palette → slice_index seen k ≡ 65535 → list_any (nat_eq (slice_index palette k)) written ≡ false

-- each number of the places once, in the order of its first place, and where each place finds its own
pub record IsWritten (palette indices written found : List ℕ) : Type 0 where
  pub numbers : written ≡ with_numbers [] (numbers_of palette indices)
  pub short : length written ≤ length indices
  pub count : length found ≡ length indices
  pub each : (j : ℕ) → j < length indices → (slice_index found j < length written) × (slice_index written (slice_index found j) ≡ slice_index palette (slice_index indices j))
