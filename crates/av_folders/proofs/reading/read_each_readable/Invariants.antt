use Rattle.std.proofs.Common.{map, take}
use Rattle.av_folders.specs.Folders.{AreRead}
use Rattle.av_folders.proofs.reading.read_each_readable.Given as goal

-- the files that were read, and those that were not, are the first of those that are listed
abbrev pub invariant-loop-file : goal.invariant-loop-file
invariant-loop-file g l = AreRead (map (λ f. f.region) (take l.file-index l.listed)) l.read
