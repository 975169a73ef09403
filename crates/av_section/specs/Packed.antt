-- A palette of numbers, and the indices of 4,096 places into it, packed into longs.
use Rattle.std.specs.Prelude.{◌≡◌, ◌≢◌, ℕ, ◌<◌, ◌≤◌, ◌^◌, List, [], ℤ, length, All, AllPairs, IsTrue, nat_eq, slice_index}
use Rattle.std.specs.List.{list_any}
use Rattle.av_pack.specs.Packing.{bits_for, longs_for, packed_at}

-- No number is in the palette twice, the indices have the bits that its length asks for, and each is below its length.
-- Where one number is at every place there need be no longs.
pub record IsPackedSection (palette : List ℕ) (longs : List ℤ) (bits : ℕ) : Type 0 where
  pub distinct : AllPairs (λ x y. x ≢ y) palette
  pub small : All (λ number. number < 65536) palette
  pub few : length palette ≤ 65536
  pub bits_are : bits ≡ bits_for (length palette)
  pub low : 4 ≤ bits
  pub high : bits ≤ 16
  pub enough : length palette ≤ 2 ^ bits
  pub count : longs ≢ [] → length longs ≡ longs_for bits
  pub one : longs ≡ [] → length palette ≡ 1
  pub below : (i : ℕ) → i < 4096 → packed_at bits longs i < length palette

-- each number below a limit is in the palette
abbrev pub HasAllBelow : List ℕ → ℕ → Type 0
HasAllBelow palette limit = (number : ℕ) → number < limit → IsTrue (list_any (nat_eq number) palette)

-- the number at a place
abbrev pub number_in : List ℕ → List ℤ → ℕ → ℕ → ℕ
number_in palette longs bits place = slice_index palette (packed_at bits longs place)

-- the same indices with other bits each
pub record IsRepacked (bits : ℕ) (old : List ℤ) (wider : ℕ) (new : List ℤ) : Type 0 where
  pub count : length new ≡ longs_for wider
  pub entries : (i : ℕ) → i < 4096 → packed_at wider new i ≡ packed_at bits old i
