-- A world may be read by several threads, and go from one to another.
use Rattle.std.proofs.Crossing.{crosses}
use Rattle.std.proofs.MapsCrossing as maps
use denote.Param.Send.{IsSend, IsSync, sendable}
use Rattle.av_ticks.specs.contracts.positions.Positions as Positions
use Rattle.av_ticks.specs.contracts.list.TickList as TickList
use Rattle.av_world.specs.contracts.worlds.World as World

-- a list of ticks may have an ordered map
positions_sync : IsSync Positions.the_row
positions_sync = search (sendable, crosses, maps.crosses) depth 60 fits 20000

positions_send : IsSend Positions.the_row
positions_send = search (sendable, crosses, maps.crosses) depth 60 fits 20000

ticks_sync : IsSync (TickList.the_field).row
ticks_sync = search (sendable, crosses, positions_sync) depth 60 fits 20000

pub ticks_send : IsSend (TickList.the_field).row
ticks_send = search (sendable, crosses, positions_send) depth 60 fits 20000

pub world_sync : IsSync World.the_row
world_sync = search (sendable, crosses, ticks_sync) depth 60 fits 20000

pub world_send : IsSend World.the_row
world_send = search (sendable, crosses, ticks_send) depth 60 fits 20000

pub world_field : IsSend (World.the_field).row
world_field = search (sendable, crosses, ticks_send) depth 60 fits 20000
