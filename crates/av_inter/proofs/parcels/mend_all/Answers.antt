use Rattle.std.proofs.Common.{◌≡◌, List, [], ◌∷◌, ◌++◌, Option, get_or, subst, All}
use Rattle.av_world.proofs.Steps.{IsSameButBlocks-trans}
use Rattle.av_world.specs.declared.parcels.Parcel.{Parcel}
use Rattle.av_inter.specs.Cut.{AreCut, HoldsPartOf}
use Rattle.av_inter.proofs.Cutting.{cut_less, slot_same, all_front}
use Rattle.av_inter.proofs.parcels.mend_all.Goals as goal

pub loop-slot-preserved : goal.loop-slot-preserved
loop-slot-preserved c =
    let i = c.loop-slot.invariant in let e = c.mend_one.ensures in
    let was : c.loop-slot.parcels.items ≡ c.pop.new.self.items ++ c.in-Some.slot ∷ [] = c.in-Some.ensures.items in
    record {
      parts = λ k d l. slot_same c.loop-slot.world c.mend_one.new.world (get_or c.pop.new.self.items k d) e.same
          (all_front (HoldsPartOf c.loop-slot.world) c.pop.new.self.items c.in-Some.slot (subst (λ (l : List (Option Parcel)). All (HoldsPartOf c.loop-slot.world) l) was i.parts) k d l);
      cut = λ g secs can cut. cut_less g secs can c.loop-slot.world c.mend_one.new.world c.pop.new.self.items c.in-Some.slot
          (subst (λ (l : List (Option Parcel)). AreCut g secs c.loop-slot.world l) was (i.cut g secs can cut)) e.same e.grid;
      same = IsSameButBlocks-trans c.args.world.now c.loop-slot.world c.mend_one.new.world i.same e.same;
    }
