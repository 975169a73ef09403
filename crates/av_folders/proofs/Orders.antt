-- Region files in the order of their names.
use Rattle.std.proofs.Common.{◌≡◌, ◌∙◌, ap₂, sym, List, [], ◌∷◌, map}
use Rattle.std.specs.List.{AllByRecursion}
use Rattle.std.specs.List.Sorted.{IsStrictlySortedBy}
use Rattle.std.specs.Ordering.{nat_cmp}
use Rattle.std.specs.Cmp.Lexicographic.{slice_cmp}
use Rattle.std.specs.declared.cmp.Ordering.TheVariants.{Less}
use Rattle.std.specs.Prelude.{string_cmp}
use Rattle.av_types.specs.declared.position.RegionPos.{RegionPos}
use Rattle.av_region_files.specs.Names.{region_name_of}
use Rattle.av_folders.specs.declared.reading.Listed.{Listed}
use Rattle.av_folders.specs.Folders.{AreInNameOrder, IsListed}

-- a file whose name is below others has a region whose name is below theirs
below : (x : Listed) (ys : List Listed) → IsListed x → AllByRecursion IsListed ys → AllByRecursion (λ y. string_cmp x.name y.name ≡ Less) ys
    → AllByRecursion (λ (r : RegionPos). slice_cmp nat_cmp (region_name_of x.region) (region_name_of r) ≡ Less) (map (λ y. y.region) ys)
below x [] named all less = tt
below x (y ∷ ys) named all less = (ap₂ (slice_cmp nat_cmp) (sym named) (sym all.0) ∙ less.0, below x ys named all.1 less.1)

pub in_name_order : (xs : List Listed) → AllByRecursion IsListed xs → IsStrictlySortedBy (λ a b. string_cmp a.name b.name) xs
    → AreInNameOrder (map (λ x. x.region) xs)
unfolding IsStrictlySortedBy
in_name_order [] all sorted = tt
in_name_order (x ∷ xs) all sorted = (below x xs all.0 all.1 sorted.0, in_name_order xs all.1 sorted.1)
