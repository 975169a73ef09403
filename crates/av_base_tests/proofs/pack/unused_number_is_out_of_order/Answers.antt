use Rattle.std.proofs.Common.{length, ap, ◌∙◌, arith}
use Rattle.av_pack.proofs.Laws.{packed_at-lt}
use Rattle.av_pack.specs.Packing.{longs_for}
use Rattle.av_base_tests.proofs.pack.unused_number_is_out_of_order.Goals as goal

pub used_in_order-requires-clause-count : goal.used_in_order-requires-clause-count
unfolding longs_for
used_in_order-requires-clause-count g c = ap length c.deref.ensures.value ∙ c.in_ok-longs.ensures

pub used_in_order-requires-clause-below : goal.used_in_order-requires-clause-below
used_in_order-requires-clause-below g c i low = omega (arith, packed_at-lt 4 c.deref.result.now i)
