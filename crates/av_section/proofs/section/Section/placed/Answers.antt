-- Each place has the number of its index.
use Rattle.std.proofs.Common.{◌∙◌, sym, length, arith}
use Rattle.std.proofs.lemmas.List.{get_or_default}
use Rattle.av_pack.specs.Packing.{bits_for, unpacked}
use Rattle.av_section.specs.BlockStates.{all_zero}
use Rattle.av_section.proofs.FromLongs.{from_longs}
use Rattle.av_section.proofs.KnownRead.{zero_at, zeros_there, packed_there, indices_there}
use Rattle.av_section.proofs.section.Section.placed.Goals as goal

pub returns-then-is_empty-clause-ok : goal.returns-then-is_empty-clause-ok
returns-then-is_empty-clause-ok c =
    let numbers = c.args.numbers.items in
    let s = c.in_ok-section.ensures.ok in
    let number = c.index.ensures ∙ get_or_default numbers 0 c.index.result.now 0 c.requires.some in
    record {
      found = all_zero;
      found_are = zeros_there (length numbers) c.args.longs.now (sym c.is_empty.ensures ∙ c.if-is_empty.true) c.requires.fit;
      within = λ i low. rw (zero_at i low) c.requires.some;
      numbers_are = λ i low. rw (s.numbers i low, zero_at i low) number;
      pending = s.pending;
    }

pub returns-clause-ok : goal.returns-clause-ok
returns-clause-ok c =
    let count = length c.args.numbers.items in
    let longs = c.args.longs.now in
    let s = c.in_ok-section-2.ensures.ok in
    let some = sym c.is_empty.ensures ∙ c.if-is_empty.false in
    let indices = unpacked (bits_for count) longs in
    let f = from_longs count longs indices (packed_there count longs some c.requires.fit) in
    record {
      found = indices;
      found_are = indices_there count longs some c.requires.fit;
      within = λ i low. f.below i 0 (omega (arith, f.long, low));
      numbers_are = s.numbers_are;
      pending = s.pending;
    }
