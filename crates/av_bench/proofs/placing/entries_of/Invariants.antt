use Rattle.std.proofs.Common.{All, IsTrue}
use Rattle.av_world.specs.Views.{blocks}
use Rattle.av_bench.proofs.placing.entries_of.Given as goal

abbrev pub invariant-loop-number : goal.invariant-loop-number
invariant-loop-number l = All (λ e. IsTrue ((blocks l.world).loaded e.pos)) l.entries.items
