use Rattle.std.proofs.Common.{◌≡◌, map, take}
use Rattle.av_exchange.specs.Steps.{with_steps}
use Rattle.av_exchange.specs.Exchange.{renamed}
use Rattle.av_exchange.specs.Outcomes.{name_of}
use Rattle.av_exchange.proofs.moving.move_waiting.Given as goal

abbrev pub invariant-loop-file : goal.invariant-loop-file
invariant-loop-file g l = g.F.Folder.history l.folder ≡ with_steps (g.F.Folder.history l.fn.folder) (map renamed (map name_of (take l.file-index l.moves)))
