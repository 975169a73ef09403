use Rattle.std.proofs.Common.{◌≡◌, ◌∙◌, ◌<◌, ◌^◌, ◌/◌, rules, of_z, w64, pos, get_or, length, map, subst, arith, ◌*◌}
use Rattle.std.specs.List.{range_with_len}
use Rattle.av_pack.specs.Packing.{longs_for, packed_at}
use Rattle.std.proofs.lemmas.Int.{of_z-to_z}
use Rattle.av_pack.proofs.Unpacked.{unpacked-more, unpacked-all}
use Rattle.av_pack.proofs.packing.unpack_by.Goals as goal

pub loop-long-preserved : goal.loop-long-preserved
loop-long-preserved c =
    let fits : of_z w64 (get_or c.args.longs.now c.loop-long.long-index (pos 0)) < 2 ^ 64 = search rules in
    c.in_ok-push_entries.ensures ∙ unpacked-more _ _ _ _ _ (c.cast_unsigned.ensures ∙ of_z-to_z w64 _ fits) c.loop-long.invariant

pub returns-clause-ok : goal.returns-clause-ok
returns-clause-ok c =
    let all : c.loop-long.long-index ≡ length c.args.longs.now = omega arith in
    let count : length c.args.longs.now ≡ longs_for c.args.bits = search rules in
    c.truncate.ensures.items ∙ unpacked-all _ _ _ c.requires.low c.requires.high count
    (subst (λ n. c.loop-long.values.items ≡ map (packed_at c.args.bits c.args.longs.now) (range_with_len 0 (64 / c.args.bits * n))) all c.loop-long.invariant)
