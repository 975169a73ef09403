use Rattle.std.proofs.Common.{refl, pos, get_or, ap, ◌∙◌, ◌++◌, rules, ◌≡◌, to_z, of_z}
use Rattle.std.specs.List.{flat_map}
use Rattle.std.specs.Int.{w64, to_be_bytes}
use Rattle.av_nbt.specs.Writing.{signed_bytes}
use Rattle.av_nbt.proofs.Loops.{written_more}
use Rattle.av_nbt.proofs.writer.write_longs.Goals as goal

pub loop-long-preserved : goal.loop-long-preserved
loop-long-preserved c =
    let x = get_or c.args.longs.now c.loop-long.long-index (pos 0) in
    let same : of_z w64 (to_z w64 (of_z w64 x)) ≡ of_z w64 x = search rules in
    let wrote : c.write_bytes.new.out.items ≡ c.loop-long.out.items ++ signed_bytes w64 x = c.in_ok-write_bytes.ensures ∙ ap (λ b. c.loop-long.out.items ++ b) (c.to_be_bytes.ensures ∙ ap (λ n. to_be_bytes w64 n) same) in
    written_more (signed_bytes w64) c.loop-long.out.items c.write_bytes.new.out.items c.args.longs.now c.loop-long.long-index x (pos 0) (c.args.out.now.items ++ flat_map (signed_bytes w64) c.args.longs.now) c.loop-long-test.true refl
    wrote c.loop-long.invariant
