use Rattle.std.proofs.Common.{◌≡◌, ◌∙◌, ◌/◌, take, drop, ap, sym, subst, w64, FitsSigned, rules}
use Rattle.std.proofs.lemmas.Int.{to_z-of_z}
use Rattle.av_pack.specs.Packing.{longs_for, IsPacked}
use Rattle.av_pack.proofs.Packed.{packs_none, packs_all, packed-more, packed-rest, group_all, IsPacked-packed}
use Rattle.av_pack.proofs.packing.pack_by.Goals as goal

pub loop-init : goal.loop-init
loop-init c = packs_none _ _ _ (search rules)

pub packed_long-requires-clause-fit : goal.packed_long-requires-clause-fit
packed_long-requires-clause-fit c =
    group_all c.args.bits (64 / c.args.bits) c.loop.counter c.args.values.now c.loop.rest.now c.split_at.result.0.now c.requires.fit c.loop.invariant.left
    (c.split_at.ensures.front ∙ ap (λ n. take n c.loop.rest.now) c.min.ensures)

pub loop-preserved : goal.loop-preserved
loop-preserved c =
    let fits : FitsSigned w64 c.packed_long.result = search rules in
    record {
      left = packed-rest _ _ _ _ _ c.loop.invariant.left (c.split_at.ensures.back ∙ ap (λ n. drop n c.loop.rest.now) c.min.ensures);
      longs_so_far = c.in_ok-push.ensures.items ∙ packed-more c.args.bits c.loop.counter c.args.values.now c.loop.rest.now c.split_at.result.0.now _ _ c.loop.invariant.left
          (c.split_at.ensures.front ∙ ap (λ n. take n c.loop.rest.now) c.min.ensures) (to_z-of_z w64 c.packed_long.result fits ∙ c.packed_long.ensures) c.loop.invariant.longs_so_far;
    }

pub returns-clause-layout : goal.returns-clause-layout
returns-clause-layout c =
    let all : c.loop.counter ≡ longs_for c.args.bits = search rules in
    packs_all _ _ _ _ _ c.loop.invariant all

pub returns-clause-meaning : goal.returns-clause-meaning
returns-clause-meaning c =
    let all : c.loop.counter ≡ longs_for c.args.bits = search rules in
    subst (IsPacked c.args.bits c.args.values.now) (sym (packs_all _ _ _ _ _ c.loop.invariant all))
    (IsPacked-packed c.args.bits c.args.values.now c.requires.low c.requires.high c.requires.count c.requires.fit)
