-- The only number that was prepared is the one that is set.
use Rattle.std.proofs.Common.{arith}
use Rattle.av_chunk_tests.proofs.palettes.set_prepared.Goals as goal

pub set-requires : goal.set-requires
set-requires c = c.in_ok-prepare.ensures.ok 0 0 (omega arith)
