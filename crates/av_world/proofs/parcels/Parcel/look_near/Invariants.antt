use Rattle.av_world.specs.ParcelViews.{IsParcelKept}
use Rattle.av_world.proofs.parcels.Parcel.look_near.Given as goal

abbrev pub invariant-loop-at : goal.invariant-loop-at
invariant-loop-at l = IsParcelKept l.fn.self l.self
