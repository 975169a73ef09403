use Rattle.std.proofs.Common.{◌≡◌, ◌<◌, ◌||◌, nat_eq, sym, ap, ◌∙◌, List, length, get_or, arith}
use Rattle.av_types.specs.declared.tick.Entry.{Entry}
use Rattle.av_chunk.specs.declared.chunk.Chunk.{Chunk}
use Rattle.av_ticks.specs.Ticks.{entries}
use Rattle.av_world.specs.Due.{at_least, is_reached}
use Rattle.av_world.proofs.Soonest.{at_least_flat, reached_flat}
use Rattle.av_world.proofs.worlds.World.soonest.Goals as goal

pub loop-chunk-preserved : goal.loop-chunk-preserved
loop-chunk-preserved c =
    let r = c.soonest_of-soonest.result in
    let value = c.deref-chunk-items.ensures.value in
    let long = ap length value in
    let is : c.chunk-item.result ≡ get_or c.args.self.now.chunks.items c.loop-chunk.chunk-index c.chunk-item.result = c.chunk-item.is ∙ ap (λ (xs : List Chunk). get_or xs c.loop-chunk.chunk-index c.chunk-item.result) value in
    let below : c.loop-chunk.chunk-index < length c.args.self.now.chunks.items = omega (arith, c.loop-chunk-test.true, long) in
    let lists : Chunk → List Entry = λ (x : Chunk). entries x.ticks in
    record {
      none = at_least_flat lists r c.loop-chunk.soonest c.args.self.now.chunks.items c.loop-chunk.chunk-index c.chunk-item.result below c.soonest_of-soonest.ensures.low
          (sym (ap (λ (x : Chunk). at_least r (entries x.ticks)) is) ∙ c.soonest_of-soonest.ensures.none) c.loop-chunk.invariant.none;
      reached = reached_flat lists 18446744073709551615 c.loop-chunk.soonest r c.args.self.now.chunks.items c.loop-chunk.chunk-index c.chunk-item.result below
          (sym (ap (λ (x : Chunk). nat_eq r c.loop-chunk.soonest || is_reached r (entries x.ticks)) is) ∙ c.soonest_of-soonest.ensures.reached) c.loop-chunk.invariant.reached;
    }
