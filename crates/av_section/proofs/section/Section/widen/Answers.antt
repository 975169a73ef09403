-- The palette has one number more, and the indices are the same with more bits.
use Rattle.std.proofs.Common.{refl}
use Rattle.std.proofs.lemmas.List.Elements.{Contains-append_left}
use Rattle.av_section.proofs.Grown.{packed_pushed, number_pushed}
use Rattle.av_section.proofs.Ready.{known_pushed}
use Rattle.av_section.proofs.section.Section.widen.Goals as goal

pub invariant_of-self-2-clause-packed : goal.invariant_of-self-2-clause-packed
invariant_of-self-2-clause-packed c =
    let s = c.args.self.now in
    let same = rw c.as_slice.ensures.value at c.in_ok-longs.ensures.ok in
    let all = packed_pushed s.palette.items s.longs.items c.in_ok-longs.longs.items s.bits c.args.bits c.args.number c.ranges.number.fits s.packed c.requires.new c.requires.room c.requires.bits same in
    rw c.in_ok-push_number.ensures.items all

pub invariant_of-self-2-clause-known : goal.invariant_of-self-2-clause-known
invariant_of-self-2-clause-known c =
    let s = c.args.self.now in
    rw c.in_ok-push_number.ensures.items (known_pushed s.palette.items s.ready c.args.number s.known)

pub returns-clause-same : goal.returns-clause-same
returns-clause-same c =
    let s = c.args.self.now in
    let same = rw c.as_slice.ensures.value at c.in_ok-longs.ensures.ok in
    record {
      numbers = λ i. rw c.in_ok-push_number.ensures.items (number_pushed s.palette.items _ s.longs.items c.in_ok-longs.longs.items s.bits c.args.bits s.packed same i);
      pending = λ i. refl;
      prepared = λ m h. rw c.in_ok-push_number.ensures.items (Contains-append_left s.palette.items _ m h);
    }
