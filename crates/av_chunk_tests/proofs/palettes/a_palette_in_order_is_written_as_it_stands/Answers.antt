-- The number at each place has a state.
use Rattle.std.proofs.lemmas.Option.{slice_get_within}
use Rattle.av_chunk_tests.proofs.palettes.a_palette_in_order_is_written_as_it_stands.Goals as goal

pub expect_written-requires : goal.expect_written-requires
expect_written-requires g c i low = slice_get_within _ _ _ (c.in_ok-section.ensures.ok.numbers i low)
