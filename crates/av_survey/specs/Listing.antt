-- A list of region files, and its faults.
use Rattle.std.specs.Prelude.{◌≡◌, ◌<◌, ◌≤◌, List, length, Bool, true, false}
use Rattle.std.specs.List.{All}
use Rattle.av_types.specs.Positions.{IsInLimits}
use Rattle.av_types.specs.declared.fault.Fault.{Fault}
use Rattle.av_types.specs.declared.fault.Fault.TheVariants.{BadCount, RegionRange, RepeatedRegion}
use Rattle.av_region_files.specs.Regions.{region_order, repeats_a_region}
use Rattle.av_types.specs.Order.{ordered}
use Rattle.av_region_files.specs.declared.files.RegionFile.{RegionFile}

-- by (z, x) of their regions
abbrev pub in_order : List RegionFile → List RegionFile
in_order files = ordered (λ f g. region_order f.pos g.pos) files

-- two files are of one region
abbrev pub share_a_region : List RegionFile → Bool
share_a_region files = repeats_a_region (λ (f : RegionFile). f.pos) files

-- A list without a fault: at most 1,024 files, of regions within the limits, each region once.
pub record IsList (files : List RegionFile) : Type 0 where
  pub few : length files ≤ 1024
  pub limits : All (λ f. IsInLimits f.pos) files
  pub apart : share_a_region files ≡ false

-- the fault of a list: of several the first of these
pub data IsListFault (files : List RegionFile) (e : Fault) : Type 0 where
  count : 1024 < length files → e ≡ BadCount → IsListFault files e
  range : length files ≤ 1024 → ¬ All (λ f. IsInLimits f.pos) files → e ≡ RegionRange → IsListFault files e
  repeated : length files ≤ 1024 → All (λ f. IsInLimits f.pos) files → share_a_region files ≡ true → e ≡ RepeatedRegion → IsListFault files e

-- a list without a fault, and the same files in order
pub record IsListInOrder (files sorted : List RegionFile) : Type 0 where
  pub good : IsList files
  pub order : sorted ≡ in_order files
  pub limits : All (λ f. IsInLimits f.pos) sorted
