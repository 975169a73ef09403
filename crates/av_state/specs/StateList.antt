-- Numbered block states: a list in which the index of a state is its number.
use Rattle.std.specs.Prelude.{◌≡◌, ℕ, ◌<◌, ◌≤◌, List, [], ◌∷◌, ◌++◌, length, take, map, Option, Some, None, Bool, ◌&&◌, if◌then◌else◌, slice_get}
use Rattle.std.specs.List.{list_any}
use Rattle.std.specs.Str.{bytes_eq}
use Rattle.std.specs.Cmp.Lexicographic.{pointwise}
use Rattle.av_state.specs.BlockState.{Property, BlockState, air, water, meant, index_where}

abbrev pub same_property : Property → Property → Bool
same_property p q = bytes_eq p.key q.key && bytes_eq p.value q.value

-- the same name and the same properties
abbrev pub same_state : BlockState → BlockState → Bool
same_state s t = bytes_eq s.name t.name && pointwise same_property s.properties t.properties

-- number 0 is air, and 1 to 9 are the water levels 0 to 8
abbrev pub first_states : List BlockState
first_states = air ∷ water 0 ∷ water 1 ∷ water 2 ∷ water 3 ∷ water 4 ∷ water 5 ∷ water 6 ∷ water 7 ∷ water 8 ∷ []

abbrev pub most_states : ℕ
most_states = 65535

-- the number of a state
abbrev pub number_in : List BlockState → BlockState → Option ℕ
number_in states s = index_where (same_state s) states

-- the list after a state was numbered: as it was where it has the state, else with the state at its end
abbrev pub with_state : List BlockState → BlockState → List BlockState
with_state states s = if list_any (same_state s) states then states else states ++ s ∷ []

-- the list after some states were numbered one after the other
abbrev pub with_states : List BlockState → List BlockState → List BlockState
with_states states [] = states
with_states states (s ∷ more) = with_states (with_state states s) more

-- What every table keeps.
pub record IsStateList (states : List BlockState) : Type 0 where
  pub distinct : (i j : ℕ) → i < length states → j < length states → slice_get states i ≡ slice_get states j → i ≡ j
  pub begins : take 10 states ≡ first_states
  pub bounded : length states ≤ most_states
  pub each_meant : map meant states ≡ map Some states

-- the number n is that of the form that is meant by s, and no other state was added
pub record Numbers (old : List BlockState) (s : BlockState) (new : List BlockState) (n : ℕ) : Type 0 where
  pub form : BlockState
  pub is_meant : meant s ≡ Some form
  pub after : new ≡ with_state old form
  pub has_number : number_in new form ≡ Some n
  pub is_there : slice_get new n ≡ Some form

-- the state is new
pub record IsNew (states : List BlockState) (s : BlockState) : Type 0 where
  pub form : BlockState
  pub is_meant : meant s ≡ Some form
  pub no_number : number_in states form ≡ None

-- the state is new, and the list has as many as it may have
pub record IsOneTooMany (states : List BlockState) (s : BlockState) : Type 0 where
  pub is_new : IsNew states s
  pub is_full : length states ≡ most_states
