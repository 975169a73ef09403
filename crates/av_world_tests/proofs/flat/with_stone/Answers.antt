-- The only number that was prepared is the one that is set.
use Rattle.std.proofs.Common.{arith}
use Rattle.av_world_tests.proofs.flat.with_stone.Goals as goal

pub lay_stone-requires-clause-stone : goal.lay_stone-requires-clause-stone
lay_stone-requires-clause-stone c = c.in_ok-prepare.ensures.ok 0 0 (omega arith)
