use Rattle.std.proofs.Common.{◌≡◌, map, take}
use Rattle.av_folders.proofs.reading.read_each.Given as goal

-- the files that were read are the first of those that are listed
abbrev pub invariant-loop-file : goal.invariant-loop-file
invariant-loop-file g l = map (λ f. f.pos) l.files.items ≡ map (λ f. f.region) (take l.file-index l.listed)
