-- Sections whose longs fit their palettes, and states that are numbered, or are known to a table.
-- Working definitions. No public clause cites them.
use Rattle.std.specs.Prelude.{◌≡◌, ℕ, ℤ, ◌<◌, List, Option, Some, None, IsSome, false, length, slice_index}
use Rattle.av_types.specs.declared.fault.Fault.{Fault}
use Rattle.av_types.specs.declared.fault.Fault.TheVariants.{OutOfMemory, BadPalette, BadPacked, BadWaterLevel, TooManyStates}
use Rattle.av_tags.specs.Shape.{each}
use Rattle.av_tags.specs.Nbt.{Nbt}
use Rattle.av_state.specs.BlockState.{BlockState, meant}
use Rattle.av_state.specs.StateList.{number_in}
use Rattle.av_section.specs.BlockStates.{data_of, indices_in, indices_of}
use Rattle.av_section.specs.Numbered.{AreOfPalette, AreToldAnd, AreTooMany}
use Rattle.av_section.specs.declared.section.Section.{Section}
use Rattle.av_section.specs.Section.{number_at, is_pending}

-- there is a state, and the number is that of the form that it takes
pub record IsKnown (states : List BlockState) (state : Option BlockState) (number : ℕ) : Type 0 where
  pub told : BlockState
  pub told_is : state ≡ Some told
  pub form : BlockState
  pub form_is : meant told ≡ Some form
  pub number_is : number_in states form ≡ Some number

-- the numbers of the forms of entries, all of which were numbered before
abbrev pub AreKnown : List BlockState → Option (List BlockState) → List ℕ → Type 0
AreKnown states entries numbers = AreOfPalette states states entries numbers

-- the longs of a data tag, which hold indices into a palette of that length
pub record ArePacked (tag : Option Nbt) (count : ℕ) (longs : List ℤ) : Type 0 where
  pub longs_are : data_of tag ≡ Some longs
  pub fit : IsSome (indices_in count longs)

-- memory, an entry that is no state, or else a data tag that holds no indices into the palette
abbrev pub AreUnfit : Option (List BlockState) → Option Nbt → Fault → Type 0
AreUnfit entries tag OutOfMemory = Unit {0}
AreUnfit entries tag BadPalette = entries ≡ None
AreUnfit entries tag BadPacked = AreToldAnd entries (λ told. indices_of (length told) tag ≡ None)
AreUnfit entries tag _ = ⊥

-- there are indices, each place has the number of its index, and none is pending
pub record IsPlaced (numbers : List ℕ) (indices : Option (List ℕ)) (s : Section) : Type 0 where
  pub found : List ℕ
  pub found_are : indices ≡ Some found
  pub within : (i : ℕ) → i < 4096 → slice_index found i < length numbers
  pub numbers_are : (i : ℕ) → i < 4096 → number_at s i ≡ slice_index numbers (slice_index found i)
  pub pending : (i : ℕ) → is_pending s i ≡ false

-- why entries were not numbered
abbrev pub AreNotNumbered : List BlockState → List BlockState → Fault → Type 0
AreNotNumbered entries old OutOfMemory = Unit {0}
AreNotNumbered entries old BadWaterLevel = each meant entries ≡ None
AreNotNumbered entries old TooManyStates = AreTooMany entries old
AreNotNumbered entries old _ = ⊥
