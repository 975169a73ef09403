use Rattle.av_section.specs.Packed.{HasAllBelow}
use Rattle.av_section.proofs.indices.first_missing.Given as goal

abbrev pub invariant-loop-number : goal.invariant-loop-number
invariant-loop-number l = HasAllBelow l.palette l.number
