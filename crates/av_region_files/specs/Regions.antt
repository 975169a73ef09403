-- The order of regions, and lists that have one twice.
use Rattle.std.specs.Prelude.{List, [], ◌∷◌, Bool, false, ◌||◌, ◌&&◌}
use Rattle.std.specs.Ordering.{int_eq, int_cmp, ordering_then}
use Rattle.std.specs.List.{list_any}
use Rattle.std.specs.declared.cmp.Ordering.{Ordering}
use Rattle.av_types.specs.declared.position.RegionPos.{RegionPos}

-- by (z, x)
abbrev pub region_order : RegionPos → RegionPos → Ordering
region_order a b = ordering_then (int_cmp a.z b.z) (int_cmp a.x b.x)

abbrev pub same_region : RegionPos → RegionPos → Bool
same_region a b = int_eq a.x b.x && int_eq a.z b.z

-- two of a list are of one region
abbrev pub repeats_a_region : {X : Type 0} → (X → RegionPos) → List X → Bool
repeats_a_region region [] = false
repeats_a_region region (x ∷ xs) = list_any (λ y. same_region (region x) (region y)) xs || repeats_a_region region xs
