use Rattle.std.proofs.Common.{◌≡◌, ◌∙◌, refl}
use Rattle.av_types.specs.declared.position.ChunkPos.{ChunkPos}
use Rattle.av_ticks.specs.Ticks.{entries}
use Rattle.av_chunk.specs.declared.chunk.Chunk.{Chunk}
use Rattle.av_world.specs.Inserted.{chunk_grid, with_chunk, with_list}
use Rattle.av_world.specs.Lending.{IsExchanged}
use Rattle.av_world.specs.Views.{grid, lists, height_of, positions_of, is_broken}
use Rattle.av_world.specs.declared.worlds.World.{World}
use Rattle.av_world.proofs.LentChunks.{absent_slot, has_more, in_limits, lent_more}
use Rattle.av_world.proofs.worlds.World.lend_one.Goals as goal

pub insert-requires-clause-limits : goal.insert-requires-clause-limits
insert-requires-clause-limits c = in_limits c.args.self.now c.args.at c.requires.there

pub insert-requires-clause-absent : goal.insert-requires-clause-absent
insert-requires-clause-absent c = absent_slot (positions_of c.args.lent.now) c.args.at c.requires.absent

-- the spare chunks are none of the world
exchanged_of : (v w new : World) (c : ChunkPos) (x : Chunk) → grid w ≡ grid v → lists w ≡ lists v → height_of w ≡ height_of v → positions_of w ≡ positions_of v → is_broken w ≡ is_broken v → IsExchanged w new c x → IsExchanged v new c x
exchanged_of v w new c x grid_is lists_are height positions broken e = record {
  grid_is = e.grid_is ∙ (λ i. with_chunk (grid_is i) c (chunk_grid (height i) x));
  lists_are = e.lists_are ∙ (λ i. with_list (lists_are i) c (entries x.ticks));
  height_is = e.height_is ∙ height;
  positions_are = e.positions_are ∙ positions;
  broken_is = e.broken_is ∙ broken;
}

pub returns-clause-lent : goal.returns-clause-lent
returns-clause-lent c old was =
    let of = c.exchange_chunk-chunk.ensures.out in
    lent_more old c.args.self.now c.exchange_chunk-chunk.new.self c.args.lent.now c.insert.new.self c.args.at c.in_ok-bare.bare c.exchange_chunk-chunk.result was c.in_ok-bare.ensures
    (exchanged_of c.args.self.now _ c.exchange_chunk-chunk.new.self c.args.at c.in_ok-bare.bare refl refl refl refl refl c.exchange_chunk-chunk.ensures.exchanged) (record { sections = of.sections; entries_are = of.entries_are; count = of.count }) c.requires.absent c.requires.height c.insert.ensures.height c.in-Ok.ensures.grid c.in-Ok.ensures.lists
    c.in-Ok.ensures.positions

pub returns-clause-chunks : goal.returns-clause-chunks
returns-clause-chunks c d = has_more (positions_of c.args.lent.now) (positions_of c.insert.new.self) c.args.at d c.in-Ok.ensures.positions
