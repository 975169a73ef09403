-- The palette has one number more, or is as it was.
use Rattle.std.proofs.Common.{is_ok}
use Rattle.av_section.proofs.Grown.{grown}
use Rattle.av_section.proofs.Ready.{known_grown}
use Rattle.av_section.proofs.section.Section.append.Goals as goal

pub invariant_of-self-clause-packed : goal.invariant_of-self-clause-packed
invariant_of-self-clause-packed c =
    let s = c.args.self.now in
    let g = grown (is_ok c.push_number.result) s.palette.items c.push_number.new.palette.items s.longs.items s.bits c.args.number c.ranges.number.fits s.packed c.requires.new c.requires.room c.requires.count c.requires.bits c.push_number.ensures.items in
    g.packed

pub invariant_of-self-clause-known : goal.invariant_of-self-clause-known
invariant_of-self-clause-known c =
    let s = c.args.self.now in
    rw c.push_number.ensures.items (known_grown (is_ok c.push_number.result) s.palette.items s.ready c.args.number s.known)
