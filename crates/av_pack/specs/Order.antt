-- Numbers in the order of their first use.
use Rattle.std.specs.Prelude.{◌≡◌, ◌<◌, ℕ, List, length, slice_index_or}

-- n stands at a place behind smaller numbers alone
pub record ComesAfterSmaller (ns : List ℕ) (n : ℕ) : Type 0 where
  pub place : ℕ
  pub within : place < length ns
  pub there : slice_index_or ns place 0 ≡ n
  pub smaller : (i : ℕ) → i < place → slice_index_or ns i 0 < n

-- each number below `count` is there, and first after smaller ones alone
pub record AreInOrder (count : ℕ) (ns : List ℕ) : Type 0 where
  pub each : (n : ℕ) → n < count → ComesAfterSmaller ns n
