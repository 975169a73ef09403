use Rattle.std.proofs.Common.{rules}
use Rattle.std.proofs.Crossing.{crosses}
use denote.Param.Send.{sendable}
use Rattle.av_team.proofs.Crossings.{kinds_sync, passes_send, desk_sync}
use Rattle.av_team.proofs.serve.start_one.Goals as goal

pub spawn-started-requires-send-F : goal.spawn-started-requires-send-F
spawn-started-requires-send-F g c κs within = search (rules, sendable, crosses, kinds_sync, passes_send, desk_sync) depth 80 fits 40000
