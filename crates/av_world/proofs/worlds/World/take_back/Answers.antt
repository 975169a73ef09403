use Rattle.std.proofs.Common.{◌++◌, ◌∷◌, [], sym, ap, subst, ◌∙◌, append_assoc, arith}
use Rattle.av_world.specs.Chunks.{IsChunkOf}
use Rattle.av_world.specs.Inserted.{IsNewChunk}
use Rattle.av_world.specs.Lending.{IsExchanged}
use Rattle.av_world.proofs.ExchangedChunks.{chunk_fits}
use Rattle.av_world.proofs.TakenChunks.{IsNextChunk, mid_length, next_chunk, taken_next}
use Rattle.av_world.proofs.worlds.World.take_back.Goals as goal

pub exchange_chunk-out-requires-clause-fits : goal.exchange_chunk-out-requires-clause-fits
exchange_chunk-out-requires-clause-fits c =
    let i = c.loop-chunk.invariant in
    let n : IsNextChunk c.args.lent c.loop-chunk.index c.index.result.now c.in-Some.chunk =
    next_chunk c.args.lent c.loop-chunk.index c.index.result.now c.in-Some.chunk c.loop-chunk.yielded c.next.new.self.rest.items i.2 (i.3 ∙ ap (λ l. c.loop-chunk.yielded ++ l) c.in-Some.ensures.steps.0) c.index.ensures in
    subst (λ h. IsNewChunk c.index.result.now h c.in-Some.chunk) (c.requires.height ∙ sym i.4.height_is) (chunk_fits c.args.lent c.index.result.now c.in-Some.chunk n.of)

pub loop-chunk-preserved : goal.loop-chunk-preserved
loop-chunk-preserved c =
    let i = c.loop-chunk.invariant in
    let n : IsNextChunk c.args.lent c.loop-chunk.index c.index.result.now c.in-Some.chunk =
    next_chunk c.args.lent c.loop-chunk.index c.index.result.now c.in-Some.chunk c.loop-chunk.yielded c.next.new.self.rest.items i.2 (i.3 ∙ ap (λ l. c.loop-chunk.yielded ++ l) c.in-Some.ensures.steps.0) c.index.ensures in (
      tt,
      tt,
      (let m = mid_length c.loop-chunk.yielded (c.in-Some.chunk ∷ []) in let k = i.2 in omega (arith, m, k)),
      i.3 ∙ ap (λ l. c.loop-chunk.yielded ++ l) c.in-Some.ensures.steps.0 ∙ sym (append_assoc c.loop-chunk.yielded (c.in-Some.chunk ∷ []) c.next.new.self.rest.items),
      (let t =
          taken_next c.args.self.now c.loop-chunk.self c.exchange_chunk-out.new.self c.args.lent c.loop-chunk.index c.index.result.now c.in-Some.chunk i.4 n.below c.requires.height
          (subst (λ d. IsChunkOf c.args.lent d c.in-Some.chunk) n.is n.of) (subst (λ d. IsExchanged c.loop-chunk.self c.exchange_chunk-out.new.self d c.in-Some.chunk) n.is c.exchange_chunk-out.ensures.exchanged) in
          record { grid_is = t.grid_is; lists_are = t.lists_are; height_is = t.height_is; positions_are = t.positions_are; broken_is = t.broken_is }),
    )
