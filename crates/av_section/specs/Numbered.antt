-- The states of a palette with their numbers.
use Rattle.std.specs.Prelude.{◌≡◌, ℕ, ◌<◌, List, Option, length, Some, None, slice_get, slice_index, slice_index_or}
use Rattle.av_types.specs.declared.fault.Fault.{Fault}
use Rattle.av_types.specs.declared.fault.Fault.TheVariants.{OutOfMemory, BadPalette, BadWaterLevel, TooManyStates}
use Rattle.av_tags.specs.Shape.{each}
use Rattle.av_state.specs.BlockState.{BlockState, air, meant}
use Rattle.av_state.specs.StateList.{with_states, most_states}

-- each entry has the number of the form that it takes, and no other states were numbered
pub record AreNumbered (entries old new : List BlockState) (numbers : List ℕ) : Type 0 where
  pub forms : List BlockState
  pub forms_are : each meant entries ≡ Some forms
  pub states : new ≡ with_states old forms
  pub count : length numbers ≡ length forms
  pub each_is : (j : ℕ) → j < length numbers → slice_get new (slice_index numbers j) ≡ Some (slice_index_or forms j air)

-- the forms of the entries are more states than there may be
pub record AreTooMany (entries old : List BlockState) : Type 0 where
  pub forms : List BlockState
  pub forms_are : each meant entries ≡ Some forms
  pub too_many : most_states < length (with_states old forms)

-- there are states, the numbers are those of the forms that they take, and no other states were numbered
pub record AreOfPalette (old new : List BlockState) (entries : Option (List BlockState)) (numbers : List ℕ) : Type 0 where
  pub told : List BlockState
  pub told_are : entries ≡ Some told
  pub numbered : AreNumbered told old new numbers

-- there are states, and something holds of them
pub record AreToldAnd (entries : Option (List BlockState)) (why : List BlockState → Type 0) : Type 0 where
  pub told : List BlockState
  pub told_are : entries ≡ Some told
  pub because : why told

-- memory, an entry that is no state, or else states that are not numbered
abbrev pub AreNotOfPalette : Option (List BlockState) → List BlockState → Fault → Type 0
AreNotOfPalette entries old OutOfMemory = Unit {0}
AreNotOfPalette entries old BadPalette = entries ≡ None
AreNotOfPalette entries old BadWaterLevel = AreToldAnd entries (λ told. each meant told ≡ None)
AreNotOfPalette entries old TooManyStates = AreToldAnd entries (λ told. AreTooMany told old)
AreNotOfPalette entries old _ = ⊥
