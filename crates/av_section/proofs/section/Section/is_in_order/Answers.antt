-- The indices are those of the palette.
use Rattle.std.proofs.Common.{arith}
use Rattle.av_section.proofs.section.Section.is_in_order.Goals as goal

pub used_in_order-requires-clause-below : goal.used_in_order-requires-clause-below
used_in_order-requires-clause-below c i low =
    let s = c.args.self.now in
    rw (c.as_slice.ensures.value) (omega (arith, s.packed.below i low, c.len.ensures))
