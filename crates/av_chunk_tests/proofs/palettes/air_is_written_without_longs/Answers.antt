-- Air is one of the ten first states.
use Rattle.std.proofs.Common.{arith}
use Rattle.av_chunk_tests.proofs.palettes.air_is_written_without_longs.Goals as goal

pub expect_written-requires : goal.expect_written-requires
expect_written-requires g c i low = rw (c.in_ok-section.ensures.ok.numbers i low, c.in_ok-table.ensures.ok) (omega arith)
