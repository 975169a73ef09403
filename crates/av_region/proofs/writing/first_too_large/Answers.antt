use Rattle.std.proofs.Common.{◌∙◌, sym, arith}
use Rattle.av_region.proofs.Positions.{found_first, found_none}
use Rattle.av_region.proofs.writing.first_too_large.Goals as goal

pub returns-then-is_too_large : goal.returns-then-is_too_large
returns-then-is_too_large g c = found_first _ _ _ _ c.index-payloads-index.result c.loop-index.invariant (omega arith) c.index-payloads-index.is (sym c.is_too_large.ensures ∙ c.if-is_too_large.true)

pub returns : goal.returns
returns g c = found_none _ _ _ c.loop-index.index c.loop-index.invariant (omega arith)
