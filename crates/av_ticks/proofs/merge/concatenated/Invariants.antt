-- What is gathered and what is left are all of it.
use Rattle.std.proofs.Common.{◌≡◌, ◌++◌, drop}
use Rattle.std.specs.List.{flat_map}
use Rattle.av_ticks.proofs.merge.concatenated.Given as goal

abbrev pub invariant-loop-part : goal.invariant-loop-part
invariant-loop-part l = l.all.items ++ flat_map (λ part. part.items) (drop l.part-index l.parts) ≡ flat_map (λ part. part.items) l.parts
