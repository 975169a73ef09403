-- A section made of numbered entries and the index of each place into them.
-- Working definitions. No public clause cites them.
use Rattle.std.specs.Prelude.{◌≡◌, ℕ, ◌<◌, List, false, slice_index}
use Rattle.av_section.specs.declared.section.Section.{Section}
use Rattle.av_section.specs.Section.{number_at, is_pending}

-- each place has the number of its index, and none is pending
pub record HasNumbers (numbers indices : List ℕ) (s : Section) : Type 0 where
  pub numbers_are : (i : ℕ) → i < 4096 → number_at s i ≡ slice_index numbers (slice_index indices i)
  pub pending : (i : ℕ) → is_pending s i ≡ false
