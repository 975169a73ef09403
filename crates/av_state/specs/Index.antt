-- Working definitions. No public clause cites them.
-- How a state's number is found: a slot tells the first number of the fingerprints that fall there, and an order, by the
-- states, has those that no slot tells.
use Rattle.std.specs.Prelude.{◌≡◌, ◌≢◌, ◌⊎◌, ℕ, ◌<◌, ◌≤◌, ◌-◌, ◌/◌, ◌^◌, List, length, get_or, set, map, Bool, true, false, Option, Some, None, slice_get}
use Rattle.std.specs.List.{All, AllWithin}
use Rattle.std.specs.List.Sorted.{IsSortedBy}
use Rattle.std.specs.Ordering.{nat_cmp, ordering_then, is_lt}
use Rattle.std.specs.declared.cmp.Ordering.{Ordering}
use Rattle.std.specs.declared.cmp.Ordering.TheVariants.{Less, Greater}
use Rattle.av_state.specs.BlockState.{BlockState, air}
use Rattle.av_state.specs.Order.{fingerprint_of, texts_cmp, state_cmp}
use Rattle.av_state.specs.declared.index.Index.{Index}
use Rattle.av_state.specs.declared.slots.Slots.{Slots}

-- ---- slots

-- where a fingerprint falls, by its first bits
abbrev pub slot_of : Slots → ℕ → ℕ
slot_of s fingerprint = fingerprint / 2 ^ s.shift

-- the number that its slot tells, and 0 where there are no slots
abbrev pub told : Slots → ℕ → ℕ
told s fingerprint = get_or s.numbers.items (slot_of s fingerprint) 0

-- the slots tell the same
pub record TellTheSame (old new : Slots) : Type 0 where
  pub numbers : new.numbers.items ≡ old.numbers.items
  pub shift : new.shift ≡ old.shift

-- a slot takes a number where it tells none that is as small
pub data HasTaken (old new : Slots) (fingerprint number : ℕ) : Bool → Type 0 where
  taken : number < told old fingerprint → new.numbers.items ≡ set old.numbers.items (slot_of old fingerprint) number → HasTaken old new fingerprint number true
  left : told old fingerprint ≤ number → new ≡ old → HasTaken old new fingerprint number false

-- each number is told by the slot of its fingerprint or stands in the order; no slot tells one behind the first
pub record AreSeated (fingerprints : List ℕ) (slots : Slots) (order : List ℕ) : Type 0 where
  pub first : (n : ℕ) → n < length fingerprints → told slots (get_or fingerprints n 0) ≤ n
  pub whole : (n : ℕ) → n < length fingerprints → told slots (get_or fingerprints n 0) ≢ n → All (λ m. m ≡ n → ⊥) order → ⊥

-- no slot tells a number, and each fingerprint has one
pub record AreFree (s : Slots) : Type 0 where
  pub whole : length s.numbers.items ≡ 2 ^ (64 - s.shift)
  pub free : (i : ℕ) → i < length s.numbers.items → get_or s.numbers.items i 0 ≡ 65535

-- what a slot tells: nothing, or one of the first so many numbers, which falls there
abbrev pub IsOwn : List ℕ → ℕ → Slots → ℕ → ℕ → Type 0
IsOwn fingerprints count s i n = (n ≡ 65535) ⊎ ((n < count) × (slot_of s (get_or fingerprints n 0) ≡ i))

-- Of the first so many numbers, each slot tells the first that falls there.
pub record AreFirst (fingerprints : List ℕ) (count : ℕ) (s : Slots) : Type 0 where
  pub whole : length s.numbers.items ≡ 2 ^ (64 - s.shift)
  pub within : (n : ℕ) → n < count → slot_of s (get_or fingerprints n 0) < length s.numbers.items
  pub first : (n : ℕ) → n < count → told s (get_or fingerprints n 0) ≤ n
  pub own : (i : ℕ) → i < length s.numbers.items → IsOwn fingerprints count s i (get_or s.numbers.items i 0)

-- ---- the order

-- the state of a number
abbrev pub state_at : List BlockState → ℕ → BlockState
state_at states n = get_or states n air

-- how a number's state stands to a state
abbrev pub stands : List BlockState → BlockState → ℕ → Ordering
stands states s n = state_cmp (state_at states n) s

abbrev pub matched : Option ℕ → Option BlockState → ℕ → BlockState → Ordering
matched None o f s = Less
matched (Some g) None f s = Less
matched (Some g) (Some t) f s = ordering_then (nat_cmp g f) (texts_cmp t s)

-- the same by a list of fingerprints, and some order for what is no number
abbrev pub compared : List ℕ → List BlockState → ℕ → BlockState → ℕ → Ordering
compared fingerprints states f s n = matched (slice_get fingerprints n) (slice_get states n) f s

-- at this rank of the order stands the number of a state
pub record HasRank (states : List BlockState) (s : BlockState) (order : List ℕ) (rank : ℕ) : Type 0 where
  pub within : rank < length order
  pub is : (d : ℕ) → slice_get states (get_or order rank d) ≡ Some s

-- a state whose number is not in the order would stand at this rank
pub record IsRankFor (states : List BlockState) (s : BlockState) (order : List ℕ) (rank : ℕ) : Type 0 where
  pub within : rank ≤ length order
  pub below : AllWithin (λ n. stands states s n ≡ Less) order 0 rank
  pub above : AllWithin (λ n. stands states s n ≡ Greater) order rank (length order)

-- ---- both

pub record FindsStates (states : List BlockState) (fingerprints : List ℕ) (slots : Slots) (order : List ℕ) : Type 0 where
  pub prints : fingerprints ≡ map fingerprint_of states
  pub rising : IsSortedBy (λ m n. is_lt (state_cmp (state_at states m) (state_at states n))) order
  pub known : All (λ n. n < length states) order
  pub seated : AreSeated fingerprints slots order

abbrev pub IsIndex : List BlockState → Index → Type 0
IsIndex states i = FindsStates states i.fingerprints.items i.slots i.order.items
