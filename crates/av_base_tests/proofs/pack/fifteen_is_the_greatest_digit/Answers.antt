use Rattle.std.proofs.Common.{length, ap, ◌∙◌}
use Rattle.av_pack.specs.Packing.{longs_for}
use Rattle.av_base_tests.proofs.pack.fifteen_is_the_greatest_digit.Goals as goal

pub entries_below-requires-clause-count : goal.entries_below-requires-clause-count
unfolding longs_for
entries_below-requires-clause-count g c = ap length c.deref.ensures.value ∙ c.in_ok-longs.ensures

pub entries_below-requires-2-clause-count : goal.entries_below-requires-2-clause-count
unfolding longs_for
entries_below-requires-2-clause-count g c = ap length c.deref-2.ensures.value ∙ c.in_ok-longs.ensures
