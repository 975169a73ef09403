-- Light arrays: two half bytes a byte (minecraft.wiki, "Chunk format").
use Rattle.std.specs.Prelude.{◌≡◌, ◌≢◌, ℕ, ◌/◌, ◌%◌, List, length, slice_index, ◌==◌, if◌then◌else◌}

-- an even place is the low half of its byte, an odd one the high half
unfoldable pub nibble_at : List ℕ → ℕ → ℕ
nibble_at bytes place =
    let byte = slice_index bytes (place / 2) in
    if place % 2 == 0 then byte % 16 else byte / 16

-- the half byte at the place is now n, and every other one is as it was
pub record SetsNibble (old new : List ℕ) (place n : ℕ) : Type 0 where
  pub count : length new ≡ length old
  pub nibble : nibble_at new place ≡ n
  pub others : (k : ℕ) → k ≢ place → nibble_at new k ≡ nibble_at old k
