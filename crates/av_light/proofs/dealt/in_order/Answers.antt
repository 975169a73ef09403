use Rattle.std.proofs.Common.{◌<◌, length, ap, sym, subst, rules, arith}
use Rattle.std.specs.Prelude.{IfSome, pos}
use Rattle.av_types.specs.declared.position.ChunkPos.{ChunkPos}
use Rattle.av_world.specs.Views.{height_of, positions_of, blocks}
use Rattle.av_section_light.specs.Light.{IsChunkLight}
use Rattle.av_light.specs.AtIndex.{IsChunkLightAt}
use Rattle.av_light.proofs.LampLists.{at_index}
use Rattle.av_dealt.proofs.AtIndices.{at_indices-set}
use Rattle.av_light.proofs.InOrder.{own_at, lit_more}
use Rattle.av_light.proofs.dealt.in_order.Goals as goal

pub light_of-requires : goal.light_of-requires
light_of-requires c =
    let inv = c.loop-index.invariant in
    let slots = c.loop-index.slots.items in
    let same = c.positions-positions.ensures.value in
    let long = ap length same in
    let less : c.loop-index.index < length slots = omega (arith, inv.long, long, c.loop-index-test.true) in
    rw c.take.ensures.value (own_at _ c.args.lamps.now.world.now slots c.loop-index.index c.index_mut.result.now c.positions-positions.result.now _ inv.own less c.index_mut.ensures.value same)

pub loop-index-preserved : goal.loop-index-preserved
loop-index-preserved c =
    let k = c.args.lamps.now.kinds.now in let w = c.args.lamps.now.world.now in
    let inv = c.loop-index.invariant in
    let same = c.positions-positions.ensures.value in
    let long = ap length same in
    let chunk : ChunkPos = record { x = pos 0; z = pos 0 } in
    let light = at_index (λ p. IsChunkLight k (blocks w) (height_of w) p c.in_ok-light.light) c.positions-positions.result.now (positions_of w) c.loop-index.index _ same c.loop-index-test.true (c.in_ok-light.ensures {u = tt}) in
    record {
      lit = rw c.in_ok-push.ensures.items (lit_more (IsChunkLight k (blocks w) (height_of w)) (positions_of w) c.loop-index.lights.items c.loop-index.index chunk c.in_ok-light.light (omega (arith, long, c.loop-index-test.true)) inv.lit (light chunk));
      long = search rules;
      own = at_indices-set (IsChunkLightAt k w) c.loop-index.slots.items c.loop-index.index c.take.new.self inv.own (subst (λ o. IfSome o (IsChunkLightAt k w c.loop-index.index)) (sym c.take.ensures.after) tt);
    }
