use Rattle.std.proofs.Common.{◌≡◌, ◌<◌, ◌+◌, ◌^◌, ◌∙◌, sym, ap, false, true, arith, rules, length, of_z, w64, pos, get_or}
use Rattle.std.proofs.lemmas.Int.{of_z-to_z}
use Rattle.av_pack.specs.Packing.{longs_for}
use Rattle.av_pack.specs.Fields.{entries_of}
use Rattle.av_pack.proofs.InLongs.{below, below-walked, below-refused, walked-all}
use Rattle.av_pack.proofs.in_longs.below_by.Goals as goal

pub returns-then-not-long_below : goal.returns-then-not-long_below
returns-then-not-long_below c =
    let fits : of_z w64 (get_or c.args.longs.now c.loop-i.i (pos 0)) < 2 ^ 64 = search rules in
    let within : c.loop-i.i < longs_for c.args.bits = omega (arith, c.loop-i-test.true, c.requires.count) in
    let refused : c.long_below.result ≡ false = search rules in
    let held = ap (λ k. below c.args.count (entries_of c.args.bits c.cast_unsigned.result k)) c.entries_held.ensures.value in
    sym (below-refused c.args.bits (c.loop-i.i + 1) c.args.count c.args.longs.now
    (below-walked _ _ _ _ _ c.requires.low c.requires.high within (c.cast_unsigned.ensures ∙ of_z-to_z w64 _ fits) c.loop-i.invariant ∙ sym (c.long_below.ensures ∙ held) ∙ refused))

pub loop-i-preserved : goal.loop-i-preserved
loop-i-preserved c =
    let fits : of_z w64 (get_or c.args.longs.now c.loop-i.i (pos 0)) < 2 ^ 64 = search rules in
    let within : c.loop-i.i < longs_for c.args.bits = omega (arith, c.loop-i-test.true, c.requires.count) in
    let accepted : c.long_below.result ≡ true = search rules in
    let held = ap (λ k. below c.args.count (entries_of c.args.bits c.cast_unsigned.result k)) c.entries_held.ensures.value in
    below-walked _ _ _ _ _ c.requires.low c.requires.high within (c.cast_unsigned.ensures ∙ of_z-to_z w64 _ fits) c.loop-i.invariant ∙ sym (c.long_below.ensures ∙ held) ∙ accepted

pub returns : goal.returns
returns c =
    let all : c.loop-i.i ≡ length c.args.longs.now = omega arith in
    sym (ap (below c.args.count) (sym (walked-all c.args.bits c.loop-i.i c.args.longs.now c.requires.low c.requires.high (all ∙ c.requires.count))) ∙ c.loop-i.invariant)
