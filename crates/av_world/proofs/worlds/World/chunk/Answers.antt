use Rattle.std.proofs.Common.{length, ◌<◌, refl, rules, pos}
use Rattle.std.proofs.lemmas.Option.{slice_get_read}
use Rattle.av_world.specs.Views.{chunks_of}
use Rattle.av_world.proofs.ChunkReads.{chunk_of_index}
use Rattle.av_world.proofs.Filled.{full_at_index}
use Rattle.av_world.proofs.worlds.World.chunk.Goals as goal

pub returns-clause-value : goal.returns-clause-value
returns-clause-value c =
    let w = c.args.self.now in
    let below : c.args.index < length (chunks_of w) = search rules in
    slice_get_read (chunks_of w) (length (chunks_of w)) c.args.index c.index.result.now refl below c.index.ensures

pub returns-clause-contents : goal.returns-clause-contents
returns-clause-contents c =
    let w = c.args.self.now in
    let below : c.args.index < length (chunks_of w) = search rules in
    λ d at. chunk_of_index w c.args.index d c.index.result.now at
    (slice_get_read (chunks_of w) (length (chunks_of w)) c.args.index c.index.result.now refl below c.index.ensures)

pub returns-clause-full : goal.returns-clause-full
returns-clause-full c =
    let w = c.args.self.now in
    let below : c.args.index < length (chunks_of w) = search rules in
    full_at_index w c.args.index c.index.result.now (record { x = pos 0; z = pos 0 }) c.requires
    (λ d at. chunk_of_index w c.args.index d c.index.result.now at
    (slice_get_read (chunks_of w) (length (chunks_of w)) c.args.index c.index.result.now refl below c.index.ensures))
