use Rattle.std.proofs.Common.{◌≡◌, ◌<◌, ◌≤◌, ℕ, length, get_or, subst, sym, ◌∙◌}
use Rattle.std.proofs.lemmas.List.{get_or_default}
use Rattle.std.proofs.lemmas.Result.{on_ok_weaker}
use Rattle.av_types.specs.declared.position.ChunkPos.{ChunkPos}
use Rattle.av_world.specs.Index.{slot}
use Rattle.av_world.specs.Views.{room, positions_of}
use Rattle.av_world.proofs.Search.{near_is_slot}
use Rattle.av_world.proofs.worlds.World.reserve_count.Goals as goal

pub returns-clause-room : goal.returns-clause-room
returns-clause-room c =
    let w = c.args.self.now in let ps = positions_of w in let new = c.reserve_chunk.new.self in let i = c.args.index in let at = c.index-at.result.now in
    let is : at ≡ get_or ps i at = c.index-at.ensures in
    let here : slot ps at < length ps = subst (λ (j : ℕ). j < length ps) (sym (near_is_slot ps at at i w.lawful.rising c.requires (sym is))) c.requires in
    on_ok_weaker {P = slot ps at < length ps → c.args.count ≤ room new at} c.reserve_chunk.result (λ h d. subst (λ (e : ChunkPos). c.args.count ≤ room new e) (is ∙ get_or_default ps i at d c.requires) (h here)) c.reserve_chunk.ensures.room
