use Rattle.std.proofs.Common.{subst}
use Rattle.av_flood.specs.Flooding.{IsGrown, todo_of}
use Rattle.av_flood.proofs.Floods.{CanOffer-more, HasOffered-trans, IsGrown-none, IsOffered-grown, IsOffered-later}
use Rattle.av_flood.proofs.flood.offer_both.Goals as goal

pub offer-requires-clause-can : goal.offer-requires-clause-can
offer-requires-clause-can g c = c.requires.can

pub offer-requires-2-clause-can : goal.offer-requires-2-clause-can
offer-requires-2-clause-can g c =
    let first = c.in_ok-offer.ensures {u = tt} in
    CanOffer-more _ _ _ _ _ _ _ _ first.chunk first.height first.came c.requires.can

pub returns-clause-came : goal.returns-clause-came
returns-clause-came g c =
    let first = c.in_ok-offer.ensures {u = tt} in
    let second = c.in_ok-offer-2.ensures {u = tt} in
    HasOffered-trans _ _ _ _ _ _ _ _ first.chunk first.came second.came

pub returns-clause-first : goal.returns-clause-first
returns-clause-first g c =
    let first = c.in_ok-offer.ensures {u = tt} in
    let second = c.in_ok-offer-2.ensures {u = tt} in
    let t = g.B.Blocks.terrain c.args.blocks.now in
    IsOffered-grown _ _ _ _ _ _ _ (subst (λ k. IsGrown t k c.args.level (todo_of c.offer.new.buckets) (todo_of c.offer-2.new.buckets)) first.chunk second.came.grown) first.offered

pub returns-clause-second : goal.returns-clause-second
returns-clause-second g c =
    let first = c.in_ok-offer.ensures {u = tt} in
    let second = c.in_ok-offer-2.ensures {u = tt} in
    let t = g.B.Blocks.terrain c.args.blocks.now in
    let end = todo_of c.offer-2.new.buckets in
    IsOffered-later t c.args.level c.args.flood.now c.offer.new.flood (todo_of c.args.buckets.now) (todo_of c.offer.new.buckets) end end c.args.second.pos first.chunk first.came
    (IsGrown-none t c.args.flood.now.chunk c.args.level end) second.offered
