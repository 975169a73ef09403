-- Layers of a board in which nothing was touched, and what its bytes never are less than. Working definitions: no public clause cites them.
use Rattle.std.specs.Prelude.{◌≡◌, ◌≤◌, ◌<◌, ◌+◌, ◌*◌, ◌/◌, ◌%◌, ◌⊎◌, List, Bool, false, true, ℕ, slice_index_or}
use Rattle.av_flood.specs.Offsets.{apart}

-- in a layer in which nothing was touched each byte says how far its block is from the chunk; one layer of bytes stands before those of blocks
pub record IsQuiet (touched : List Bool) (light : List ℕ) : Type 0 where
  pub quiet : (i : ℕ) → slice_index_or touched (i / 1936) true ≡ false → slice_index_or light (1936 + i) 0 ≡ apart (i % 1936)

-- beside the blocks, in the first layer and from a last one on
abbrev pub IsBeside : ℕ → ℕ → Type 0
IsBeside n i = (i < 1936) ⊎ (n ≤ i)

-- the bytes of so many layers in which nothing was touched
pub record AreDark (n : ℕ) (light : List ℕ) : Type 0 where
  pub beside : (i : ℕ) → IsBeside (1936 * n + 1936) i → slice_index_or light i 64 ≡ 64
  pub within : (i : ℕ) → i < 1936 * n → slice_index_or light (1936 + i) 0 ≡ apart (i % 1936)

-- the bytes say that beside the blocks no light is of use, and elsewhere none that does not reach the chunk
pub record IsFenced (n : ℕ) (light : List ℕ) : Type 0 where
  pub beside : (i : ℕ) → IsBeside n i → slice_index_or light i 64 ≡ 64
  pub far : (i : ℕ) → apart (i % 1936) ≤ slice_index_or light i 64
