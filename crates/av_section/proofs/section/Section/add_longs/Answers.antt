-- The index of each place is 0, as it was.
use Rattle.std.proofs.Common.{◌≡◌, [], ◌∙◌, sym, arith}
use Rattle.std.proofs.lemmas.Bool.{eqb-true}
use Rattle.std.proofs.lemmas.List.{nil_from_length}
use Rattle.av_section.proofs.PackedLemmas.{packed_zeros}
use Rattle.av_section.proofs.section.Section.add_longs.Goals as goal

pub invariant_of-self-clause-packed : goal.invariant_of-self-clause-packed
invariant_of-self-clause-packed c =
    let s = c.args.self.now in
    let none : s.longs.items ≡ [] = nil_from_length s.longs.items (omega (arith, eqb-true s.longs.len 0 (sym c.is_empty.ensures ∙ c.if-not-is_empty.false))) in
    packed_zeros s.palette.items s.longs.items c.in_ok-self.field-0.items s.bits c.longs_for.result s.packed none c.longs_for.ensures (c.in_ok-self.ensures.items_if_clones_equal (λ y e. e))

pub invariant_of-self-clause-known : goal.invariant_of-self-clause-known
invariant_of-self-clause-known c = c.args.self.now.known
