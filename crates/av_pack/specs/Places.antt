-- A set of places, a bit for each.
use Rattle.std.specs.Prelude.{◌≡◌, ℕ, ◌/◌, ◌%◌, ◌==◌, Bool, if◌then◌else◌, slice_index}
use Rattle.std.specs.Int.{bit_at}
use Rattle.av_pack.specs.declared.places.PlaceSet.{PlaceSet}

-- whether a place is in the set
unfoldable pub has_place : PlaceSet → ℕ → Bool
has_place set place = bit_at (slice_index set.words (place / 64)) (place % 64) == 1

-- the place is in the new set or is not, as the test says, and all others are as they were
pub record SetsPlace (old new : PlaceSet) (place : ℕ) (there : Bool) : Type 0 where
  pub places : (i : ℕ) → has_place new i ≡ (if i == place then there else has_place old i)
