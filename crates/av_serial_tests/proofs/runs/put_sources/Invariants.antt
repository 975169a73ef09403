use Rattle.av_world_tests.specs.Flat.{IsPlain}
use Rattle.av_serial_tests.proofs.runs.put_sources.Given as goal

abbrev pub invariant-loop-pos : goal.invariant-loop-pos
invariant-loop-pos l = IsPlain l.world
