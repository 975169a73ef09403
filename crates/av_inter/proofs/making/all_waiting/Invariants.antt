use Rattle.std.proofs.Common.{◌≡◌, replicate}
use Rattle.av_play.specs.declared.event.Stage.TheVariants.{Waits}
use Rattle.av_inter.proofs.making.all_waiting.Given as goal

abbrev pub invariant-loop-index : goal.invariant-loop-index
invariant-loop-index l = l.stages.items ≡ replicate l.index Waits
