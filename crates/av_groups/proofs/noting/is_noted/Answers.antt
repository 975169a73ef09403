use Rattle.std.proofs.Common.{◌∙◌, Some, sym}
use Rattle.av_types.proofs.SamePositions.{same_chunk_is}
use Rattle.av_groups.proofs.noting.is_noted.Goals as goal

pub returns-then-eq : goal.returns-then-eq
returns-then-eq c = λ e.
    let n = same_chunk_is c.in-Some.one.north_west c.args.reach.north_west (sym c.eq.ensures ∙ c.if-eq.true) in
    let s = same_chunk_is c.in-Some.one.south_east c.args.reach.south_east (sym c.eq-then-eq.ensures ∙ e) in
    c.in-Some.is ∙ (λ i. Some (record { north_west = n i; south_east = s i }))
