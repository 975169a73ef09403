use Rattle.std.proofs.Common.{◌≡◌, ◌<◌, ◌%◌, ◌^◌, ◌∙◌, ap, arith, rules, length, of_z, to_z, w64, pos, get_or, FitsSigned}
use Rattle.std.proofs.lemmas.Int.{of_z-to_z, to_z-of_z}
use Rattle.av_pack.specs.Packing.{longs_for}
use Rattle.av_pack.proofs.InLongs.{cleaned-more, cleaned-all}
use Rattle.av_pack.proofs.in_longs.cleaned.Goals as goal

pub loop-i-preserved : goal.loop-i-preserved
loop-i-preserved c =
    let within : c.loop-i.i < longs_for c.args.bits = omega (arith, c.loop-i-test.true, c.requires.count) in
    let fits : FitsSigned w64 c.low_long.result = search rules in
    let same : of_z w64 (get_or c.args.longs.now c.loop-i.i (pos 0)) < 2 ^ 64 = search rules in
    let low = ap (λ n. to_z w64 (n % 2 ^ c.bits_held.result)) (of_z-to_z w64 _ same) in
    c.in_ok-push.ensures.items
    ∙ cleaned-more c.args.bits c.loop-i.i c.bits_held.result c.args.longs.now _ _ c.requires.low c.requires.high within c.bits_held.ensures.value (to_z-of_z w64 c.low_long.result fits ∙ c.low_long.ensures ∙ low) c.loop-i.invariant

pub returns : goal.returns
returns c =
    let all : c.loop-i.i ≡ length c.args.longs.now = omega arith in
    cleaned-all c.args.bits c.loop-i.i c.args.longs.now _ (all ∙ c.requires.count) c.loop-i.invariant
