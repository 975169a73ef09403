-- Numbers packed into longs, as a section's block indices are (minecraft.wiki, "Chunk format").
use Rattle.std.specs.Prelude.{◌≡◌, ◌≢◌, ℕ, zero, suc, ◌+◌, ◌*◌, ◌/◌, ◌%◌, ◌^◌, ◌<◌, ◌≤◌, ℤ, pos, List, [], ◌∷◌, length, map, take, drop, slice_index, slice_index_or, nat_le, if◌then◌else◌}
use Rattle.std.specs.Int.{cast_signed, cast_unsigned, div_ceil, w64}
use Rattle.std.specs.List.{range_with_len}

-- the least number of bits, from b on, that hold as many different numbers; the search ends after so many tries
abbrev pub least_bits : ℕ → ℕ → ℕ → ℕ
least_bits zero b count = b
least_bits (suc tries) b count = if nat_le count (2 ^ b) then b else least_bits tries (suc b) count

-- the bits of an entry, for a palette of that length: the least that will do, and at least 4; the clauses of the call `bits_for` prove
-- that it is the least number b from 4 on with count <= 2^b
unfoldable pub bits_for : ℕ → ℕ
bits_for count = least_bits 12 4 count

-- how many entries a long holds: none spans two longs
abbrev pub entries_in_long : ℕ → ℕ
entries_in_long b = 64 / b

-- how many longs hold the 4,096 entries of a section
unfoldable pub longs_for : ℕ → ℕ
longs_for b = div_ceil 4096 (entries_in_long b)

-- a long as a number below 2^64, and 0 past the last one
abbrev pub long_at : List ℤ → ℕ → ℕ
long_at longs j = cast_unsigned w64 (slice_index_or longs j (pos 0))

-- entry i, of b bits: the entries stand in each long from the low bits up
unfoldable pub packed_at : ℕ → List ℤ → ℕ → ℕ
packed_at b longs i =
    let m = entries_in_long b in
    long_at longs (i / m) / 2 ^ (b * (i % m)) % 2 ^ b

-- the 4,096 entries
unfoldable pub unpacked : ℕ → List ℤ → List ℕ
unpacked b longs = map (packed_at b longs) (range_with_len 0 4096)

-- numbers of b bits side by side, the first one in the lowest bits
abbrev pub low_first : ℕ → List ℕ → ℕ
low_first b [] = 0
low_first b (n ∷ ns) = n + 2 ^ b * low_first b ns

-- long j has the j-th of the groups of numbers that a long holds, and 0 in the bits that are left
abbrev pub packed_long : ℕ → List ℕ → ℕ → ℤ
packed_long b ns j =
    let m = entries_in_long b in
    cast_signed w64 (low_first b (take m (drop (m * j) ns)))

-- the longs that 4,096 numbers are packed into
unfoldable pub packed : ℕ → List ℕ → List ℤ
packed b ns = map (packed_long b ns) (range_with_len 0 (longs_for b))

-- these longs hold these 4,096 numbers, and 0 in all other bits
pub record IsPacked (b : ℕ) (ns : List ℕ) (longs : List ℤ) : Type 0 where
  pub count : length longs ≡ longs_for b
  pub entries : (i : ℕ) → i < 4096 → packed_at b longs i ≡ slice_index ns i
  pub unused_entries : (i : ℕ) → 4096 ≤ i → packed_at b longs i ≡ 0
  pub unused_bits : (j : ℕ) → long_at longs j < 2 ^ (b * entries_in_long b)

-- entry i is now n; every other one is as it was, and so are the bits that hold none
pub record SetsEntry (b : ℕ) (old new : List ℤ) (i n : ℕ) : Type 0 where
  pub count : length new ≡ length old
  pub entry : packed_at b new i ≡ n
  pub others : (k : ℕ) → k ≢ i → packed_at b new k ≡ packed_at b old k
  pub unused_bits : (j : ℕ) → long_at new j / 2 ^ (b * entries_in_long b) ≡ long_at old j / 2 ^ (b * entries_in_long b)
