use Rattle.std.proofs.Common.{◌∙◌, ap, sym, arith, map, Some, ◌++◌, ◌||◌}
use Rattle.std.specs.List.{flat_map, list_any}
use Rattle.std.proofs.lemmas.List.Elements.{All-pop}
use Rattle.av_ring.specs.Shown.{IsSeatOf}
use Rattle.av_ring.proofs.Ends.{all-taken, all-whole, any-dry}
use Rattle.av_ring.proofs.ring.JobRing.close.Goals as goal

pub take_back-requires-clause-pass : goal.take_back-requires-clause-pass
take_back-requires-clause-pass g c κs within =
    let both = All-pop (IsSeatOf c.args.self) c.args.seats.items c.pop.new.self.items (Some c.in-Some.first) c.in-Some.ensures.items c.requires.seats in
    let one = ap (λ v. v.parts) c.first.invariant.1 in
    ((ap (λ s. s.ring) c.first.view_is ∙ both.1.ring ∙ sym (ap (λ r. r.ring) c.self.view_is), c.first.invariant.0), omega arith)

pub take_back-requires-clause-seats : goal.take_back-requires-clause-seats
take_back-requires-clause-seats g c κs within =
    let both = All-pop (IsSeatOf c.args.self) c.args.seats.items c.pop.new.self.items (Some c.in-Some.first) c.in-Some.ensures.items c.requires.seats in
    λ k d lt. (both.0 k d lt).ring ∙ sym (ap (λ r. r.ring) c.self.view_is)

pub returns-clause-whole : goal.returns-clause-whole
returns-clause-whole g c =
    let rest = c.pop.new.self.items in
    let last = c.in-Some.first in
    let left = c.drain.result.items in
    let told = c.take_back.ensures.told.0 ∙ ap (λ s. s.jobs) c.first.view_is in
    let taken = c.take_back.ensures.taken ∙ ap (λ s. s.taken ++ flat_map (λ r. r.taken) rest) c.first.view_is in
    let heard = c.take_back.ensures.heard ∙ ap (λ v. v.heard ++ map (λ s. s.jobs) rest) c.first.invariant.1 in
    let whole = all-taken last.jobs left c.args.seats.items rest last c.in-Some.ensures.items (rw (told, taken) at c.drain.ensures.whole) in
    all-whole (flat_map (λ r. r.taken) c.args.seats.items ++ left) c.args.seats.items rest last c.in-Some.ensures.items whole (rw (told, heard) at c.drain.ensures.heard)

pub returns-clause-dry : goal.returns-clause-dry
returns-clause-dry g c = λ some.
    let dry = c.take_back.ensures.dry ∙ ap (λ v. v.dry || list_any (λ r. r.dry) c.pop.new.self.items) c.first.invariant.1 ∙ ap (λ s. s.dry || list_any (λ r. r.dry) c.pop.new.self.items) c.first.view_is in
    c.drain.ensures.dry (dry ∙ any-dry c.args.seats.items c.pop.new.self.items c.in-Some.first c.in-Some.ensures.items some)
