use Rattle.av_rules.specs.Kinds.{kind_count}
use Rattle.av_serial.specs.Ready.{IsReady}
use Rattle.av_bench.proofs.refusing.run_ticks.Given as goal

abbrev pub invariant-loop-done : goal.invariant-loop-done
invariant-loop-done g l = IsReady (kind_count l.kinds) l.world
