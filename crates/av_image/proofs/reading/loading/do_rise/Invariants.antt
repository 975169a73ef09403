use Rattle.std.proofs.Common.{◌≡◌, map, drop}
use Rattle.av_files.specs.Files.{regions_rise}
use Rattle.av_image.specs.Loading.{rises_from}
use Rattle.av_image.proofs.reading.loading.do_rise.Given as goal

abbrev pub invariant-loop-file : goal.invariant-loop-file
invariant-loop-file l = rises_from l.last (map (λ f. f.pos) (drop l.file-index l.files)) ≡ regions_rise (map (λ f. f.pos) l.files)
