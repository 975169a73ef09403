use Rattle.std.proofs.Common.{◌<◌, arith, length}
use Rattle.av_exchange.proofs.Marked.{one_checked}
use Rattle.av_exchange.proofs.marks.check_marks.Goals as goal

pub loop-index-preserved : goal.loop-index-preserved
loop-index-preserved g c =
    let j = c.args.journal.now in
    let named : c.loop-index.index < length j.names.items = omega (arith, j.names.ok.0) in
    let marked : c.loop-index.index < length j.marks.items = omega (arith, named, j.each, j.names.ok.0, j.marks.ok.0) in
    one_checked _ _ j.names.items j.marks.items c.loop-index.index c.index.result.now c.index-in-loop-index.result.now c.as_str-name.result.now c.as_str.result.now
    named c.index.ensures c.as_str-name.ensures.value marked c.index-in-loop-index.ensures c.as_str.ensures.value c.loop-index.invariant
    c.in_ok-check_mark.ensures
