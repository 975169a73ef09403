use Rattle.std.proofs.Common.{◌<◌, ℕ}
use Rattle.std.specs.Prelude.{slice_index_or}
use Rattle.av_types.specs.Positions.{IsInLimits}
use Rattle.av_region_files.specs.declared.files.RegionFile.{RegionFile}
use Rattle.av_region_files.proofs.files.are_in_limits.Given as goal

abbrev pub invariant-loop-file : goal.invariant-loop-file
invariant-loop-file l = (k : ℕ) (d : RegionFile) → k < l.file-index → IsInLimits (slice_index_or l.files k d).pos
