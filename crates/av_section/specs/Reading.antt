-- What a reader of a section answers.
use Rattle.std.specs.Prelude.{◌≡◌, ℕ, ◌<◌, ◌≤◌, List, [], ◌++◌, length, Option, Some, false, slice_get}
use Rattle.av_types.specs.declared.fault.Fault.{Fault}
use Rattle.av_types.specs.declared.fault.Fault.TheVariants.{OutOfMemory, TooManyStates}
use Rattle.av_types.specs.Faults.{fault_number, least}
use Rattle.av_tags.specs.Nbt.{Nbt}
use Rattle.av_state.specs.BlockState.{BlockState}
use Rattle.av_state.specs.StateList.{with_states, most_states}
use Rattle.av_section.specs.declared.section.Section.{Section}
use Rattle.av_section.specs.BlockStates.{states_faults, read_states, state_at}
use Rattle.av_section.specs.Section.{number_at, is_pending}

-- The section of a palette and its indices of which no fault holds. The states of the palette are numbered after those that
-- were numbered before, in order; each place has the number of its state; nothing is pending.
pub record IsRead (palette longs : Option Nbt) (old new : List BlockState) (s : Section) : Type 0 where
  pub no_fault : states_faults palette longs ≡ []
  pub states : new ≡ with_states old (read_states palette)
  pub few : length new ≤ most_states
  pub numbers : (i : ℕ) → i < 4096 → slice_get new (number_at s i) ≡ Some (state_at palette longs i)
  pub pending : (i : ℕ) → is_pending s i ≡ false

-- too many states only where no other fault holds and they pass the number that there may be, and another fault exactly as
-- the least that holds
abbrev pub IsStatesRefusal : Option Nbt → Option Nbt → List BlockState → Fault → Type 0
IsStatesRefusal palette longs old OutOfMemory = Unit {0}
IsStatesRefusal palette longs old TooManyStates = (states_faults palette longs ≡ []) × (most_states < length (with_states old (read_states palette)))
IsStatesRefusal palette longs old fault = least (states_faults palette longs) ≡ Some (fault_number fault)

-- older numbers keep their states
pub record OnlyGrows (old new : List BlockState) : Type 0 where
  pub more : List BlockState
  pub grown : new ≡ old ++ more
