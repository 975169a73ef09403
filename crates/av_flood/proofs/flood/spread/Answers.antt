use Rattle.std.proofs.Common.{arith, sym, subst, ◌∙◌}
use Rattle.av_types.specs.declared.position.Pos.{Pos}
use Rattle.av_flood.specs.Board.{light_of}
use Rattle.av_flood.specs.Flooding.{HasOffered, IsGrown, IsOffered, todo_of}
use Rattle.av_flood.proofs.Floods.{CanOffer-more, HasOffered-trans, IsGrown-none, IsGrown-trans, IsOffered-grown, IsOffered-later, IsOffered-all}
use Rattle.av_flood.proofs.flood.spread.Goals as goal

pub offer_both-requires-clause-first_beside : goal.offer_both-requires-clause-first_beside
offer_both-requires-clause-first_beside g c = (0, omega arith, sym c.spot_below-below.ensures.pos)

pub offer_both-requires-clause-second_beside : goal.offer_both-requires-clause-second_beside
offer_both-requires-clause-second_beside g c = (1, omega arith, sym c.spot_above-above.ensures.pos)

pub offer_both-requires-2-clause-first_beside : goal.offer_both-requires-2-clause-first_beside
offer_both-requires-2-clause-first_beside g c = (2, omega arith, sym c.spot_north-north.ensures.pos)

pub offer_both-requires-2-clause-second_beside : goal.offer_both-requires-2-clause-second_beside
offer_both-requires-2-clause-second_beside g c = (3, omega arith, sym c.spot_south-south.ensures.pos)

pub offer_both-requires-3-clause-first_beside : goal.offer_both-requires-3-clause-first_beside
offer_both-requires-3-clause-first_beside g c = (4, omega arith, sym c.spot_west-west.ensures.pos)

pub offer_both-requires-3-clause-second_beside : goal.offer_both-requires-3-clause-second_beside
offer_both-requires-3-clause-second_beside g c = (5, omega arith, sym c.spot_east-east.ensures.pos)

pub offer_both-requires-clause-can : goal.offer_both-requires-clause-can
offer_both-requires-clause-can g c = c.requires.can

pub offer_both-requires-2-clause-can : goal.offer_both-requires-2-clause-can
offer_both-requires-2-clause-can g c =
    let one = c.in_ok-offer_both.ensures {u = tt} in
    CanOffer-more _ _ _ _ _ _ _ _ one.chunk one.height one.came c.requires.can

pub offer_both-requires-3-clause-can : goal.offer_both-requires-3-clause-can
offer_both-requires-3-clause-can g c =
    let one = c.in_ok-offer_both.ensures {u = tt} in
    let two = c.in_ok-offer_both-2.ensures {u = tt} in
    CanOffer-more _ _ _ _ _ _ _ _ two.chunk two.height two.came (CanOffer-more _ _ _ _ _ _ _ _ one.chunk one.height one.came c.requires.can)

pub returns-clause-came : goal.returns-clause-came
returns-clause-came g c =
    let one = c.in_ok-offer_both.ensures {u = tt} in
    let two = c.in_ok-offer_both-2.ensures {u = tt} in
    let three = c.in_ok-offer_both-3.ensures {u = tt} in
    HasOffered-trans _ _ _ _ _ _ _ _ (two.chunk ∙ one.chunk) (HasOffered-trans _ _ _ _ _ _ _ _ one.chunk one.came two.came) three.came

pub returns-clause-offered : goal.returns-clause-offered
returns-clause-offered g c =
    let one = c.in_ok-offer_both.ensures {u = tt} in
    let two = c.in_ok-offer_both-2.ensures {u = tt} in
    let three = c.in_ok-offer_both-3.ensures {u = tt} in
    let t = g.B.Blocks.terrain c.args.blocks.now in
    let f = c.args.flood.now in
    let n = c.args.level in
    let start = todo_of c.args.buckets.now in
    let first = todo_of c.offer_both.new.buckets in
    let second = todo_of c.offer_both-2.new.buckets in
    let end = todo_of c.offer_both-3.new.buckets in
    let second_grown = subst (λ k. IsGrown t k n first second) one.chunk two.came.grown in
    let third_grown = subst (λ k. IsGrown t k n second end) (two.chunk ∙ one.chunk) three.came.grown in
    let both : HasOffered t n f c.offer_both-2.new.flood start second = HasOffered-trans _ _ _ _ _ _ _ _ one.chunk one.came two.came in
    let after_one = λ (q : Pos) (o : IsOffered t f.chunk n (light_of f) first q). IsOffered-grown t f.chunk n (light_of f) first end q (IsGrown-trans _ _ _ _ _ _ second_grown third_grown) o in
    let after_two = λ (q : Pos) (o : IsOffered t c.offer_both.new.flood.chunk n (light_of c.offer_both.new.flood) second q).
    IsOffered-later t n f c.offer_both.new.flood start first second end q one.chunk one.came third_grown o in
    let after_three = λ (q : Pos) (o : IsOffered t c.offer_both-2.new.flood.chunk n (light_of c.offer_both-2.new.flood) end q).
    IsOffered-later t n f c.offer_both-2.new.flood start second end end q (two.chunk ∙ one.chunk) both (IsGrown-none t f.chunk n end) o in
    IsOffered-all t f.chunk n (light_of f) end c.args.spot.pos
    (subst (IsOffered t f.chunk n (light_of f) end) c.spot_below-below.ensures.pos (after_one c.spot_below-below.result.pos one.first))
    (subst (IsOffered t f.chunk n (light_of f) end) c.spot_above-above.ensures.pos (after_one c.spot_above-above.result.pos one.second))
    (subst (IsOffered t f.chunk n (light_of f) end) c.spot_north-north.ensures.pos (after_two c.spot_north-north.result.pos two.first))
    (subst (IsOffered t f.chunk n (light_of f) end) c.spot_south-south.ensures.pos (after_two c.spot_south-south.result.pos two.second))
    (subst (IsOffered t f.chunk n (light_of f) end) c.spot_west-west.ensures.pos (after_three c.spot_west-west.result.pos three.first))
    (subst (IsOffered t f.chunk n (light_of f) end) c.spot_east-east.ensures.pos (after_three c.spot_east-east.result.pos three.second))
