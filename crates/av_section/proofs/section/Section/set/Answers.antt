-- The index of the place is that of the number now.
use Rattle.std.proofs.Common.{◌≡◌, length, drop, arith, ap, sym, ◌∙◌}
use Rattle.std.proofs.lemmas.Bool.{eqb-false}
use Rattle.std.proofs.lemmas.List.{take_at}
use Rattle.av_pack.specs.Packing.{longs_for}
use Rattle.av_section.proofs.PackedLemmas.{packed_set}
use Rattle.av_section.proofs.section.Section.set.Goals as goal

pub invariant_of-self-clause-packed : goal.invariant_of-self-clause-packed
invariant_of-self-clause-packed c =
    let s = c.args.self.now in
    let some = eqb-false s.longs.len 0 (sym c.is_empty.ensures ∙ c.if-is_empty.false) in
    let many : length s.longs.items ≡ longs_for s.bits = s.packed.count (λ none. some (omega (arith, ap length none))) in
    let e = take_at c.set_at.new.longs (drop (length c.set_at.new.longs) s.longs.items) s.longs.len (c.set_at.ensures.count ∙ c.as_mut_slice.ensures.len) in
    let sets = rw c.as_mut_slice.ensures.value at c.set_at.ensures in
    rw e (packed_set s.palette.items s.longs.items c.set_at.new.longs s.bits c.args.place.index c.index_of-index.result s.packed many (rw c.as_slice.ensures.value at c.index_of-index.ensures.bound) sets)

pub invariant_of-self-clause-known : goal.invariant_of-self-clause-known
invariant_of-self-clause-known c = c.args.self.now.known
