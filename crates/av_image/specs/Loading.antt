-- What is loaded. Working definitions: no public clause cites them.
use Rattle.std.specs.Prelude.{◌≡◌, List, ◌∷◌, map, Bool, true, false, int_lt, ◌||◌, ◌&&◌, Option, Some, None}
use Rattle.std.specs.Ordering.{int_eq}
use Rattle.av_types.specs.declared.position.RegionPos.{RegionPos}
use Rattle.std.specs.declared.cmp.Ordering.{Ordering}
use Rattle.av_types.specs.declared.fault.Fault.{Fault}
use Rattle.av_types.specs.declared.fault.Fault.TheVariants.{RegionRange, RepeatedRegion}
use Rattle.av_files.specs.Files.{File, in_order, regions_rise, share_a_region, chunk_order}
use Rattle.av_files.specs.FirstFault.{AllInLimits}
use Rattle.av_image.specs.declared.reading.splits.LoadedChunk.{LoadedChunk}

abbrev pub positioned_order : LoadedChunk → LoadedChunk → Ordering
positioned_order a b = chunk_order a.at b.at

pub record AreFilesInOrder (files sorted : List File) : Type 0 where
  pub limits : AllInLimits files
  pub apart : share_a_region files ≡ false
  pub order : sorted ≡ in_order files
  pub rise : regions_rise (map (λ f. f.pos) sorted) ≡ true

pub data IsRegionsFault (files : List File) (e : Fault) : Type 0 where
  range : ¬ AllInLimits files → e ≡ RegionRange → IsRegionsFault files e
  repeated : AllInLimits files → share_a_region files ≡ true → e ≡ RepeatedRegion → IsRegionsFault files e

abbrev pub region_before : RegionPos → RegionPos → Bool
region_before p q = int_lt p.z q.z || (int_eq p.z q.z && int_lt p.x q.x)

abbrev pub comes_after : Option RegionPos → RegionPos → Bool
comes_after None q = true
comes_after (Some p) q = region_before p q

-- what is left of a list rises, behind the last one
abbrev pub rises_from : Option RegionPos → List RegionPos → Bool
rises_from None ps = regions_rise ps
rises_from (Some p) ps = regions_rise (p ∷ ps)
