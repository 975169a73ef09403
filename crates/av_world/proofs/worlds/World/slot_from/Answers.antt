use Rattle.std.proofs.Common.{◌≡◌, ◌<◌, pos, get_or, true, sym, ap, ◌∙◌, rules, length}
use Rattle.std.proofs.lemmas.List.{get_or_default}
use Rattle.av_types.specs.declared.position.ChunkPos.{ChunkPos}
use Rattle.av_types.proofs.SamePositions.{same_chunk_is}
use Rattle.av_cells.specs.Positions.{same_chunk}
use Rattle.av_world.specs.Index.{slot}
use Rattle.av_world.proofs.Search.{near_is_slot}
use Rattle.av_world.proofs.worlds.World.slot_from.Goals as goal

abbrev zero_chunk : ChunkPos
zero_chunk = record { x = pos 0; z = pos 0 }

pub returns-then-eq : goal.returns-then-eq
returns-then-eq c =
    let w = c.args.self.now in let ps = w.positions.items in let i = c.args.last in let at = c.chunk.result in
    let below : i < length ps = search rules in
    let same : same_chunk (get_or ps i zero_chunk) at ≡ true = ap (λ p. same_chunk p at) (get_or_default ps i zero_chunk c.index.result.now below ∙ sym c.index.ensures) ∙ (sym c.eq.ensures ∙ c.if-eq.true) in
    sym (near_is_slot ps at zero_chunk i w.lawful.rising below (same_chunk_is (get_or ps i zero_chunk) at same)) ∙ ap (slot ps) c.chunk.ensures
