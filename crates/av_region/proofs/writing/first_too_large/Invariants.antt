use Rattle.std.proofs.Common.{option_map}
use Rattle.av_region.specs.Layout.{is_too_large}
use Rattle.av_region.proofs.Positions.{NoneBelow}
use Rattle.av_region.proofs.writing.first_too_large.Given as goal

abbrev pub invariant-loop-index : goal.invariant-loop-index
invariant-loop-index g l = NoneBelow is_too_large (option_map g.P.AsSlice.items) l.payloads l.index
