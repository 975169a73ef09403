-- How many bytes the numbers of an array are written as.
use Rattle.std.proofs.Common.{◌≡◌, ℤ, ◌*◌, List, [], ◌∷◌, length, flat_map, refl, arith}
use Rattle.std.specs.Int.{w32, w64}
use Rattle.av_nbt.specs.Writing.{signed_bytes}

pub ints_size : (zs : List ℤ) → length (flat_map (signed_bytes w32) zs) ≡ length zs * 4
ints_size [] = refl
ints_size (z ∷ zs) = omega (arith, ints_size zs)

pub longs_size : (zs : List ℤ) → length (flat_map (signed_bytes w64) zs) ≡ length zs * 8
longs_size [] = refl
longs_size (z ∷ zs) = omega (arith, longs_size zs)
