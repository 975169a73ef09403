-- A palette that lacks a number is not full.
use Rattle.std.proofs.Common.{length, refl, true≢false, arith, sym, ◌∙◌, ap}
use Rattle.av_section.proofs.Grown.{room_for}
use Rattle.av_section.proofs.section.Section.prepare_one.Goals as goal

pub bits_for-bits-requires : goal.bits_for-bits-requires
bits_for-bits-requires c =
    let s = c.args.self.now in
    let room = room_for s.palette.items c.args.number s.packed.distinct (λ there. true≢false (sym (c.has_number.ensures.1 (rw c.as_slice.ensures.value there)) ∙ c.if-has_number.false)) s.packed.small c.ranges.number.fits in
    omega (arith, room, c.as_slice.ensures.len, ap length c.as_slice.ensures.value, ap (λ p. length p.items) c.in_ok-add_longs.ensures.palette)

pub returns-then-has_number-clause-succeeds : goal.returns-then-has_number-clause-succeeds
returns-then-has_number-clause-succeeds c = λ there. refl
