-- The places that came find their numbers.
use Rattle.av_section.proofs.FirstPlaces.{WrittenSome}
use Rattle.av_section.proofs.order.written_order.Given as goal

abbrev pub invariant-loop-index : goal.invariant-loop-index
invariant-loop-index l = WrittenSome l.palette l.indices l.seen.items l.numbers.items l.found.items l.index-index
