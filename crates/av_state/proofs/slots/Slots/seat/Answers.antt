use Rattle.std.proofs.Common.{◌∙◌, refl}
use Rattle.std.proofs.Math.Facts.{Fits-lt-pow}
use Rattle.av_state.proofs.Seated.{first-more}
use Rattle.av_state.proofs.slots.Slots.seat.Goals as goal

pub loop-number-preserved : goal.loop-number-preserved
loop-number-preserved c = record {
  first = first-more c.args.fingerprints.now c.loop-number.number c.loop-number.self c.take.new.self _ c.take.ensures.shift c.loop-number.self.within (Fits-lt-pow (c.type_inv.fingerprints c.loop-number.number)) refl c.loop-number.invariant.first c.take.result c.take.ensures.slot;
  shift = c.take.ensures.shift ∙ c.loop-number.invariant.shift;
}
