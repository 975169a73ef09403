-- A block that is loaded and had room was not refused.
use Rattle.std.proofs.Common.{◌≡◌, ◌≤◌, IsTrue, sym, subst, ◌∙◌, ap, rules}
use Rattle.av_types.specs.Positions.{chunk_of, chunk_of_section}
use Rattle.av_types.specs.declared.position.ChunkPos.{ChunkPos}
use Rattle.av_world.specs.Views.{blocks, room}
use Rattle.av_world.proofs.Steps.{loaded_before, not_refused}
use Rattle.av_world.proofs.worlds.World.reserve_at.Goals as goal

pub returns-clause-succeeds : goal.returns-clause-succeeds
returns-clause-succeeds c = λ h.
    let old = c.args.self.now in let new = c.reserve_chunk.new.self in let p = c.args.at in
    let there : IsTrue ((blocks new).loaded p) = search rules in
    let same : c.chunk.result ≡ chunk_of p = c.chunk.ensures ∙ ap chunk_of_section c.section-section.ensures in
    not_refused c.reserve_chunk.result c.in-Err.refused _ c.in-Err.is
    (c.reserve_chunk.ensures.succeeds (subst (λ (d : ChunkPos). c.args.count ≤ room old d) (sym same) (h (loaded_before old new p c.reserve_chunk.ensures.kept there))))
