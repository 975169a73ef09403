-- Coordinates of chunks in regions, and numbers that fit an Int.
use Rattle.std.proofs.Common.{◌≡◌, ◌<◌, ℤ, pos, negsuc, ◌≤ℤ◌, true, refl, arith}
use Rattle.std.specs.Int.{w32}
use Rattle.std.specs.Int.RustNames.{FitsSigned}
use Rattle.std.specs.Ordering.{int_eq}
use Rattle.std.proofs.lemmas.Int.{ints}
use Rattle.std.proofs.lemmas.Bool.{and_parts, and_from}
use Rattle.std.proofs.lemmas.Bool.Decides.{Decides-int_eq}
use Rattle.av_types.specs.Division.{divided}
use Rattle.av_types.specs.declared.position.RegionPos.{RegionPos}
use Rattle.av_region_files.specs.Regions.{same_region}

pub fits_from : (z : ℤ) → negsuc 2147483647 ≤ℤ z → z ≤ℤ pos 2147483647 → FitsSigned w32 z
fits_from (pos n) low high = record { sfits = let e : n < 2147483648 = omega (arith, ints) in e }
fits_from (negsuc n) low high = record { sfits = let e : n < 2147483648 = omega (arith, ints) in e }

pub fits_low : (z : ℤ) → FitsSigned w32 z → negsuc 2147483647 ≤ℤ z
fits_low (pos n) f = omega (arith, ints)
fits_low (negsuc n) f = let e : n < 2147483648 = f.sfits in omega (arith, ints)

pub fits_high : (z : ℤ) → FitsSigned w32 z → z ≤ℤ pos 2147483647
fits_high (pos n) f = let e : n < 2147483648 = f.sfits in omega (arith, ints)
fits_high (negsuc n) f = omega (arith, ints)

pub same_region_is : (a b : RegionPos) → same_region a b ≡ true → a ≡ b
same_region_is a b h =
    let parts = and_parts (int_eq a.x b.x) (int_eq a.z b.z) h in
    let x = (Decides-int_eq a.x b.x).0 parts.0 in
    let z = (Decides-int_eq a.z b.z).0 parts.1 in
    λ i. record { x = x i; z = z i }

pub same_region-refl : (r : RegionPos) → same_region r r ≡ true
same_region-refl r = and_from (int_eq r.x r.x) (int_eq r.z r.z) ((Decides-int_eq r.x r.x).1 refl) ((Decides-int_eq r.z r.z).1 refl)

-- a coordinate whose region is within the limits
pub near : (z : ℤ) → negsuc 59999 ≤ℤ divided (divided z 16) 32 → divided (divided z 16) 32 ≤ℤ pos 60000 → FitsSigned w32 z
near (pos n) low high = fits_from (pos n) (omega (arith, ints)) (omega (arith, ints))
near (negsuc n) low high = fits_from (negsuc n) (omega (arith, ints)) (omega (arith, ints))
