use Rattle.std.proofs.Common.{length, sym, subst}
use Rattle.std.specs.List.{All}
use Rattle.av_dealt.specs.Dealt.{IsTaken}
use Rattle.av_dealt.proofs.Given.{all_given}
use Rattle.av_world.specs.Views.{positions_of}
use Rattle.av_light.specs.AtIndex.{IsChunkLightAt}
use Rattle.av_light.proofs.all.lights_by.Goals as goal

pub gathered-requires : goal.gathered-requires
gathered-requires g c =
    let k = c.args.lamps.now.kinds.now in let w = c.args.lamps.now.world.now in
    let made = IsTaken (length (positions_of w)) (IsChunkLightAt k w) in
    let h = c.in_ok-all.ensures {u = tt} in
    subst (All made) (sym h.2) (all_given _ made (λ x y a. rw c.map.ensures.f at a) h.1.0 h.0 h.1.2)
