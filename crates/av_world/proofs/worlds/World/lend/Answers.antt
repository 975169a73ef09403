use Rattle.std.proofs.Common.{◌||◌, get_or, pos, sym, ap, ◌∙◌}
use Rattle.av_types.specs.declared.position.ChunkPos.{ChunkPos}
use Rattle.av_cells.specs.Positions.{same_chunk}
use Rattle.av_world.proofs.LentChunks.{has_next, not_before}
use Rattle.av_world.proofs.worlds.World.lend.Goals as goal

abbrev origin : ChunkPos
origin = record { x = pos 0; z = pos 0 }

pub lend_one-requires-clause-absent : goal.lend_one-requires-clause-absent
lend_one-requires-clause-absent c =
    let at = c.args.at.now in
    let i = c.loop-at.at-index in c.loop-at.invariant.chunks (get_or at i origin) ∙ not_before at i origin c.requires.distinct c.loop-at-test.true

pub loop-at-preserved : goal.loop-at-preserved
loop-at-preserved c =
    let at = c.args.at.now in
    let i = c.loop-at.at-index in
    record {
      lent_is = c.in_ok-lend_one.ensures.lent c.args.self.now c.loop-at.invariant.lent_is;
      chunks = λ d. c.in_ok-lend_one.ensures.chunks d ∙ ap (λ t. same_chunk (get_or at i origin) d || t) (c.loop-at.invariant.chunks d) ∙ sym (has_next at i origin d c.loop-at-test.true);
      broken = c.in_ok-lend_one.ensures.broken ∙ c.loop-at.invariant.broken;
    }
