use Rattle.std.proofs.Common.{◌<◌, length, get_or, refl, sym, ap, subst, ◌∙◌}
use Rattle.std.proofs.lemmas.Option.{slice_get_read}
use Rattle.av_world.specs.Inserted.{IsNewChunk}
use Rattle.av_world.proofs.ChunkReads.{chunk_of_index}
use Rattle.av_world.proofs.ExchangedChunks.{below_at, chunk_fits, grid_exchanged, lawful_exchanged, lists_exchanged, stands_at}
use Rattle.av_world.proofs.worlds.World.exchange_chunk.Goals as goal

pub invariant_of-self : goal.invariant_of-self
invariant_of-self c =
    let w = c.args.self.now in
    let i = c.chunk_slot-index.result in
    let e = c.chunk_slot-index.ensures in
    let l = c.requires.there in
    let fits = subst (IsNewChunk c.args.at w.height) (sym c.replace.ensures.after) c.requires.fits in
    record { lawful = lawful_exchanged w.height w.positions.items w.chunks.items i c.args.at c.replace.new.dest w.lawful (below_at w.positions.items c.args.at i e l) (stands_at w.positions.items c.args.at i e l) fits }

pub returns-clause-exchanged : goal.returns-clause-exchanged
returns-clause-exchanged c = rw (sym c.replace.ensures.after) (
    let w = c.args.self.now in
    let i = c.chunk_slot-index.result in
    let e = c.chunk_slot-index.ensures in
    let l = c.requires.there in
    let fits = subst (IsNewChunk c.args.at w.height) (sym c.replace.ensures.after) c.requires.fits in
    let below = below_at w.positions.items c.args.at i e l in
    let at = stands_at w.positions.items c.args.at i e l in
    record {
      grid_is = grid_exchanged w.height w.positions.items w.chunks.items i c.args.at c.replace.new.dest w.lawful below at fits;
      lists_are = lists_exchanged w.height w.positions.items w.chunks.items i c.args.at c.replace.new.dest w.lawful below at fits;
      height_is = refl;
      positions_are = refl;
      broken_is = refl;
    })

pub returns-clause-out : goal.returns-clause-out
returns-clause-out c =
    let w = c.args.self.now in
    let i = c.chunk_slot-index.result in
    let e = c.chunk_slot-index.ensures in
    let below = below_at w.positions.items c.args.at i e c.requires.there in
    let v = c.replace.ensures.value in
    chunk_of_index w i c.args.at c.replace.result (stands_at w.positions.items c.args.at i e c.requires.there)
    (slice_get_read w.chunks.items (length w.chunks.items) i c.replace.result refl (subst (λ n. i < n) w.lawful.parallel below) (v ∙ c.index_mut.ensures.value ∙ ap (get_or w.chunks.items i) (sym v)))

pub returns-clause-new : goal.returns-clause-new
returns-clause-new c = chunk_fits c.args.self.now c.args.at c.replace.result (returns-clause-out c)
