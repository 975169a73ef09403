use Rattle.av_world.proofs.LentChunks.{IsLending}
use Rattle.av_world.proofs.worlds.World.lend.Given as goal

abbrev pub invariant-loop-at : goal.invariant-loop-at
invariant-loop-at l = IsLending l.fn.self l.self l.lent l.at l.at-index
