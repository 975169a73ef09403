use Rattle.std.proofs.Common.{◌∙◌}
use Rattle.av_light.proofs.LampLists.{known_as}
use Rattle.av_light.proofs.chunk_light.flood.Goals as goal

pub flood_in-requires : goal.flood_in-requires
flood_in-requires c =
    known_as c.args.kinds.now c.args.world.now c.new-around.result.world.now c.in_ok-lists.lists.items c.new-around.result.lamps.now _ c.new-around.ensures.world (c.new-around.ensures.lamps ∙ c.as_slice.ensures.value)
    (c.in_ok-lists.ensures {u = tt})
