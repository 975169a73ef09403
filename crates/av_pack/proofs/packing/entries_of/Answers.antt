use Rattle.std.proofs.Common.{[], ◌∙◌, length-set, arith}
use Rattle.std.proofs.lemmas.List.{take_more_set}
use Rattle.av_pack.proofs.Unpacked.{entries_of-more}
use Rattle.av_pack.proofs.packing.entries_of.Goals as goal

pub loop-i-preserved : goal.loop-i-preserved
loop-i-preserved c = record {
  long = simp length-set c.loop-i.invariant.long;
  filled = take_more_set c.loop-i.entries c.loop-i.i c.field.result (omega (arith, c.loop-i.invariant.long)) ∙ entries_of-more _ _ _ _ _ [] c.field.ensures.value c.loop-i.invariant.filled;
}
