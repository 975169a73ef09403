use Rattle.std.proofs.Common.{pos, negsuc, arith, rules, sym, subst, to_z-of_z, w32, FitsSigned}
use Rattle.std.proofs.lemmas.Int.{ints}
use Rattle.av_map.specs.Within.{AreWithin}
use Rattle.av_map.proofs.Bounded.{greater_below, greater_within, lesser_above, lesser_within}
use Rattle.av_map.proofs.bounds.Bounds.with.Goals as goal

pub returns-clause-value : goal.returns-clause-value
returns-clause-value c =
    let f0 : FitsSigned w32 c.lesser.result = search rules in
    let f1 : FitsSigned w32 c.greater.result = search rules in
    let f2 : FitsSigned w32 c.lesser-2.result = search rules in
    let f3 : FitsSigned w32 c.greater-2.result = search rules in
    let west : FitsSigned w32 c.args.self.west = search rules in
    let east : FitsSigned w32 c.args.self.east = search rules in
    let north : FitsSigned w32 c.args.self.north = search rules in
    let south : FitsSigned w32 c.args.self.south = search rules in
    let x : FitsSigned w32 c.args.file.now.pos.x = search rules in
    let z : FitsSigned w32 c.args.file.now.pos.z = search rules in
    let e0 = rw (to_z-of_z west, to_z-of_z x) at c.lesser.ensures in
    let e1 = rw (to_z-of_z east, to_z-of_z x) at c.greater.ensures in
    let e2 = rw (to_z-of_z north, to_z-of_z z) at c.lesser-2.ensures in
    let e3 = rw (to_z-of_z south, to_z-of_z z) at c.greater-2.ensures in
    rw (to_z-of_z f0, to_z-of_z f1, to_z-of_z f2, to_z-of_z f3)
    (λ i. record { west = e0 i; east = e1 i; north = e2 i; south = e3 i })

pub returns-clause-within : goal.returns-clause-within
returns-clause-within c =
    let s = c.args.self in
    let at = c.args.file.now.pos in
    let w = c.requires.within in
    let l = c.requires.limits in
    let x0 = lesser_within s.west at.x in
    let x1 = greater_within s.east at.x in
    let z0 = lesser_within s.north at.z in
    let z1 = greater_within s.south at.z in
    subst AreWithin (sym (returns-clause-value c))
    (record {
      west = lesser_above (negsuc 59999) s.west at.x w.west l.west;
      east = greater_below (pos 60000) s.east at.x w.east l.east;
      north = lesser_above (negsuc 59999) s.north at.z w.north l.north;
      south = greater_below (pos 60000) s.south at.z w.south l.south;
      across = omega (arith, ints, x0, x1);
      down = omega (arith, ints, z0, z1);
    })
