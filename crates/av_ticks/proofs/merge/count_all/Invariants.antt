-- What is counted and what is left are no more than all of it.
use Rattle.std.proofs.Common.{◌+◌, ◌≤◌, length, drop}
use Rattle.std.specs.List.{flat_map}
use Rattle.av_ticks.proofs.merge.count_all.Given as goal

abbrev pub invariant-loop-part : goal.invariant-loop-part
invariant-loop-part l = l.count + length (flat_map (λ part. part.items) (drop l.part-index l.parts)) ≤ length (flat_map (λ part. part.items) l.parts)
