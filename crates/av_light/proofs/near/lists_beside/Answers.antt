use Rattle.std.proofs.Common.{◌≡◌, [], length, get_or, arith, sym, ap, subst}
use Rattle.std.specs.Prelude.{map}
use Rattle.av_types.specs.declared.position.ChunkPos.{ChunkPos}
use Rattle.av_world.specs.Views.{positions_of}
use Rattle.av_light.proofs.LampLists.{IsList, list_more, at_index, AreKnown-beside}
use Rattle.av_light.proofs.near.lists_beside.Goals as goal

pub loop-other-preserved : goal.loop-other-preserved
loop-other-preserved c =
    let inv = c.loop-other.invariant in
    let ps = positions_of c.args.world.now in
    let P = IsList c.args.kinds.now c.args.world.now c.args.chunk in
    let ls = c.loop-other.lists.items in
    let made = c.in_ok-lamps.lamps.items in
    let many : length ls ≡ c.loop-other.other-index = omega (arith, inv.long, c.loop-other.lists.ok.0) in
    let here = at_index (λ q. P q made) c.positions-positions.result.now ps c.loop-other.other-index _ c.positions-positions.ensures.value c.loop-other-test.true (c.in_ok-lamps.ensures {u = tt}) in
    record {
      long = omega (arith, c.in_ok-push.ensures.len, inv.long);
      has = λ i less. subst (λ ms. (d : ChunkPos) → P (get_or ps i d) (get_or (map (λ v. v.items) ms) i [])) (sym c.in_ok-push.ensures.items)
          (list_more ls c.in_ok-lamps.lamps (λ j xs. (d : ChunkPos) → P (get_or ps j d) xs) (λ j l. inv.has j (omega arith))
          (subst (λ n. (d : ChunkPos) → P (get_or ps n d) made) (sym many) here) i (omega arith));
    }

pub returns : goal.returns
returns c =
    AreKnown-beside c.args.kinds.now c.args.world.now _ c.args.chunk
    (λ i d less. c.loop-other.invariant.has i (let long = ap length c.positions-positions.ensures.value in let m = c.loop-other-test.false in omega arith) d)
