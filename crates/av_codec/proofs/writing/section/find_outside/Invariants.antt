use Rattle.std.proofs.Common.{◌≡◌, drop}
use Rattle.av_chunk.specs.Rest.{found_outside}
use Rattle.av_codec.proofs.writing.section.find_outside.Given as goal

abbrev pub invariant-loop-section : goal.invariant-loop-section
invariant-loop-section l = found_outside l.y (drop l.section-index l.outside) ≡ found_outside l.y l.outside
