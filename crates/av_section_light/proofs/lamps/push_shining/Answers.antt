use Rattle.std.proofs.Common.{arith, below_more, sym, ap, subst, ◌∙◌, ◌<◌, false, length, get_or}
use Rattle.std.specs.Prelude.{Contains}
use Rattle.av_types.specs.Positions.{block_at}
use Rattle.av_pack.proofs.Laws.{length-unpacked}
use Rattle.av_section_light.proofs.LampLemmas.{unpacked_index}
use Rattle.av_section_light.proofs.lamps.push_shining.Goals as goal

pub index-index-requires : goal.index-index-requires
index-index-requires c = omega (arith, c.from.ensures, ap length (c.in-Ok.ensures {u = tt}).ok, length-unpacked c.args.bits c.args.longs.now, c.loop-place-test.true, c.in-Ok.indices.ok.0)

pub bounds-shining-from : goal.bounds-shining-from
bounds-shining-from c =
    subst (λ i. i < length c.args.shining.now)
    (sym (unpacked_index c.args.bits c.args.longs.now _ _ _ _ _ _ c.loop-place-test.true (c.in-Ok.ensures {u = tt}).ok c.from.ensures c.index-index.ensures c.from-in-loop-place.ensures))
    (c.requires.below _ c.loop-place-test.true)

pub loop-place-preserved : goal.loop-place-preserved
loop-place-preserved c =
    let now = c.in_ok-push_lamp.ensures {u = tt} in
    let inv = c.loop-place.invariant in
    let is = unpacked_index c.args.bits c.args.longs.now _ _ _ _ _ _ c.loop-place-test.true (c.in-Ok.ensures {u = tt}).ok c.from.ensures c.index-index.ensures c.from-in-loop-place.ensures in
    record {
      kept = λ p w. now.kept p (inv.kept p w);
      lit = below_more _ _ (λ i less shines. now.kept _ (inv.lit i less shines))
          (λ shines. subst (λ i. Contains c.push_lamp.new.lamps.items (block_at c.args.at i)) c.new.ensures (now.lit (ap (λ i. get_or c.args.shining.now i false) is ∙ shines)));
    }

pub returns-clause-lit : goal.returns-clause-lit
returns-clause-lit c = λ i less. c.loop-place.invariant.lit i (let m = c.loop-place-test.false in omega arith)
