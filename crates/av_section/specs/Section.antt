-- A section as its 4,096 places: a number at each, and whether it is pending.
use Rattle.std.specs.Prelude.{◌≡◌, ℕ, ◌<◌, nat_lt, ◌==◌, List, ℤ, map, slice_index_or, Bool, false, Contains, if◌then◌else◌}
use Rattle.std.specs.List.{range_with_len}
use Rattle.av_state.specs.BlockState.{BlockState, air}
use Rattle.av_section.specs.Packed.{IsPackedSection, number_in}
use Rattle.av_pack.specs.Places.{has_place}
use Rattle.av_section.specs.declared.section.Section.{Section}

-- the state number at a place, and 0 past the last place
abbrev pub number_at : Section → ℕ → ℕ
number_at s place = if nat_lt place 4096 then number_in s.palette.items s.longs.items s.bits place else 0

-- whether an entry of a scheduled tick is pending at a place
abbrev pub is_pending : Section → ℕ → Bool
is_pending s place = has_place s.pending.value place

-- a place can be set to the number without memory
abbrev pub CanSet : Section → ℕ → Type 0
CanSet s number = Contains s.palette.items number

-- what could be set still can
abbrev pub KeepsPrepared : Section → Section → Type 0
KeepsPrepared old new = (number : ℕ) → CanSet old number → CanSet new number

-- every place has the number and the pending entry that it had, and what could be set still can
pub record KeepsPlaces (old new : Section) : Type 0 where
  pub numbers : (i : ℕ) → number_at new i ≡ number_at old i
  pub pending : (i : ℕ) → is_pending new i ≡ is_pending old i
  pub prepared : KeepsPrepared old new

-- the place has the number now, and nothing else has changed
pub record SetsNumber (old new : Section) (place number : ℕ) : Type 0 where
  pub numbers : (i : ℕ) → number_at new i ≡ (if i == place then number else number_at old i)
  pub pending : (i : ℕ) → is_pending new i ≡ is_pending old i
  pub prepared : KeepsPrepared old new

-- the place is pending now, or is not, and nothing else has changed
pub record SetsPending (old new : Section) (place : ℕ) (there : Bool) : Type 0 where
  pub numbers : (i : ℕ) → number_at new i ≡ number_at old i
  pub pending : (i : ℕ) → is_pending new i ≡ (if i == place then there else is_pending old i)
  pub prepared : KeepsPrepared old new

-- every place has the number, and none is pending
pub record IsFilled (s : Section) (number : ℕ) : Type 0 where
  pub numbers : (i : ℕ) → i < 4096 → number_at s i ≡ number
  pub pending : (i : ℕ) → is_pending s i ≡ false
  pub prepared : CanSet s number

-- The palette, longs and bits that a section consists of: the bits and longs that the palette's length asks for, or no longs
-- where it has one number, each index below that length, and the number at a place is the palette's at the index of the place.
pub record AreParts (s : Section) (palette : List ℕ) (longs : List ℤ) (bits : ℕ) : Type 0 where
  pub packed : IsPackedSection palette longs bits
  pub numbers : (i : ℕ) → i < 4096 → number_at s i ≡ number_in palette longs bits i
  pub prepared : (number : ℕ) → Contains palette number → CanSet s number

-- each number is one of so many states
abbrev pub HasNumbersBelow : Section → ℕ → Type 0
HasNumbersBelow s count = (i : ℕ) → i < 4096 → number_at s i < count

-- the states at the 4,096 places, by a list of the states in the order of their numbers
unfoldable pub section_states : List BlockState → Section → List BlockState
section_states states s = map (λ i. slice_index_or states (number_at s i) air) (range_with_len 0 4096)
