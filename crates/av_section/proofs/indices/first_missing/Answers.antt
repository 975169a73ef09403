-- One more number that is in the palette.
use Rattle.av_section.proofs.Ready.{known_next}
use Rattle.av_section.proofs.indices.first_missing.Goals as goal

pub loop-number-preserved : goal.loop-number-preserved
loop-number-preserved c =
    known_next c.args.palette.now c.loop-number.number c.loop-number.invariant (c.marks_of-marks.ensures c.loop-number.number c.if-not-marks-number.false)
