-- Working definitions: fields of bits within a number.
use Rattle.std.specs.Prelude.{◌≡◌, ◌<◌, ◌≤◌, ℕ, zero, suc, ◌+◌, ◌*◌, ◌/◌, ◌%◌, ◌^◌, List, map}
use Rattle.std.specs.List.{range_with_len}

-- n with its b bits from bit s on replaced by v
abbrev pub with_field : ℕ → ℕ → ℕ → ℕ → ℕ
with_field n s b v = n / 2 ^ (s + b) * 2 ^ (s + b) + (v * 2 ^ s + n % 2 ^ s)

-- the b bits of n from bit b * k on
unfoldable pub entry_of : ℕ → ℕ → ℕ → ℕ
entry_of b n k = n / 2 ^ (b * k) % 2 ^ b

-- the first m such fields
abbrev pub entries_of : ℕ → ℕ → ℕ → List ℕ
entries_of b n m = map (entry_of b n) (range_with_len 0 m)

-- a place times the second number, without its low 16 bits, is the place by the first
pub record DividesPlaces (m r : ℕ) : Type 0 where
  pub quotient : (i : ℕ) → i < 4096 → i * r / 2 ^ 16 ≡ i / m
  pub small : r ≤ 16384

-- so many ones, w bits apart
abbrev pub ones : ℕ → ℕ → ℕ
ones w zero = 0
ones w (suc k) = ones w k * 2 ^ w + 1

-- every other of the entries of n, from the first on, is below `count`
pub record IsHalfBelow (b count n : ℕ) : Type 0 where
  pub each : (i : ℕ) → i < (64 / b + 1) / 2 → n / 2 ^ (2 * b * i) % 2 ^ b < count
