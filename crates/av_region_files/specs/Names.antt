-- The names of region files (minecraft.wiki, Region file format).
use Rattle.std.specs.Prelude.{ℕ, List, ◌++◌, codes}
use Rattle.std.specs.Fmt.{signed_decimal}
use Rattle.av_types.specs.declared.position.RegionPos.{RegionPos}

-- the texts between the dots of a name
abbrev pub name_with : List ℕ → List ℕ → List ℕ
name_with x z = codes "r." ++ (x ++ (codes "." ++ (z ++ codes ".mca")))

-- `r.X.Z.mca`: decimal numbers as they are printed, so without leading zeros, without `+` and `-0`
abbrev pub region_name_of : RegionPos → List ℕ
region_name_of region = name_with (signed_decimal region.x) (signed_decimal region.z)
