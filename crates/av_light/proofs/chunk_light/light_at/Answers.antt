use Rattle.std.proofs.Common.{◌∙◌}
use Rattle.av_light.proofs.LampLists.{known_by}
use Rattle.av_light.proofs.chunk_light.light_at.Goals as goal

pub light_in-requires : goal.light_in-requires
light_in-requires c =
    let l = c.args.lamps.now in
    known_by l.kinds.now l.world.now c.new-around.result.world.now l.lists.items c.new-around.result.lamps.now _ c.new-around.ensures.world (c.new-around.ensures.lamps ∙ c.as_slice.ensures.value) l.known
