use Rattle.std.proofs.Common.{take}
use Rattle.av_survey.specs.Counting.{IsChunkTotal}
use Rattle.av_survey.proofs.counting.count_chunks.Given as goal

-- the chunks of the first files
abbrev pub invariant-loop-file : goal.invariant-loop-file
invariant-loop-file l = IsChunkTotal (take l.file-index l.files) l.chunks
