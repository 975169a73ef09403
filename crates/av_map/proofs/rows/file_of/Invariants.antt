use Rattle.std.proofs.Common.{◌≡◌, drop}
use Rattle.av_map.specs.Maps.{file_of}
use Rattle.av_map.proofs.rows.file_of.Given as goal

abbrev pub invariant-loop-file : goal.invariant-loop-file
invariant-loop-file l = file_of l.region (drop l.file-index l.files) ≡ file_of l.region l.files
