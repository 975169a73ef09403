use Rattle.std.proofs.Common.{◌≡◌, ◌<◌, ◌^◌, ◌∙◌, ap, arith, rules, length, of_z, w64, pos, get_or}
use Rattle.std.proofs.lemmas.Int.{of_z-to_z}
use Rattle.av_pack.specs.Packing.{longs_for}
use Rattle.av_pack.specs.Fields.{entries_of}
use Rattle.av_pack.specs.Seen.{seen_after}
use Rattle.av_pack.proofs.FirstUses.{order_told}
use Rattle.av_pack.proofs.InLongs.{seen_long, seen_all, seen_enough}
use Rattle.av_pack.proofs.in_longs.in_order_by.Goals as goal

pub returns-then-next-count : goal.returns-then-next-count
returns-then-next-count c = order_told c.args.bits c.args.count c.args.longs.now _ c.requires.few c.requires.below (seen_enough c.args.bits c.loop-i.i c.loop-i.next c.args.count c.args.longs.now c.requires.below c.if-next-count.true c.loop-i.invariant)

pub loop-i-preserved : goal.loop-i-preserved
loop-i-preserved c =
    let fits : of_z w64 (get_or c.args.longs.now c.loop-i.i (pos 0)) < 2 ^ 64 = search rules in
    let within : c.loop-i.i < longs_for c.args.bits = omega (arith, c.loop-i-test.true, c.requires.count) in
    let held = ap (λ k. seen_after c.loop-i.next (entries_of c.args.bits c.cast_unsigned.result k)) c.entries_held.ensures.value in
    seen_long _ _ c.cast_unsigned.result _ _ _ c.requires.low c.requires.high within (c.cast_unsigned.ensures ∙ of_z-to_z w64 _ fits) c.loop-i.invariant (c.seen_in_long-next.ensures.value ∙ held) c.seen_in_long-next.ensures.bound

pub returns : goal.returns
returns c =
    let all : c.loop-i.i ≡ length c.args.longs.now = omega arith in
    order_told c.args.bits c.args.count c.args.longs.now _ c.requires.few c.requires.below (seen_all c.args.bits c.loop-i.i c.loop-i.next c.args.count c.args.longs.now c.requires.low c.requires.high (all ∙ c.requires.count) c.loop-i.invariant)
