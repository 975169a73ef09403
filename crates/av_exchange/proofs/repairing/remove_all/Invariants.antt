use Rattle.std.proofs.Common.{◌≡◌, map, take, string_bytes}
use Rattle.av_exchange.specs.Steps.{with_steps, Removed}
use Rattle.av_exchange.proofs.repairing.remove_all.Given as goal

abbrev pub invariant-loop-name : goal.invariant-loop-name
invariant-loop-name g l = g.F.Folder.history l.folder ≡ with_steps (g.F.Folder.history l.fn.folder) (map Removed (map string_bytes (take l.name-index l.names)))
