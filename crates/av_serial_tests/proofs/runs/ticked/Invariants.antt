use Rattle.av_rules.specs.Kinds.{kind_count}
use Rattle.av_serial.specs.Ready.{IsReady}
use Rattle.av_serial_tests.proofs.runs.ticked.Given as goal

abbrev pub invariant-loop-done : goal.invariant-loop-done
invariant-loop-done l = IsReady (kind_count l.kinds) l.world
