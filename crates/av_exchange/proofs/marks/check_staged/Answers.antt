use Rattle.std.proofs.Common.{◌<◌, ◌∙◌, ap, not, arith, length}
use Rattle.av_exchange.proofs.Marked.{one_staged}
use Rattle.av_exchange.proofs.marks.check_staged.Goals as goal

pub loop-file-preserved : goal.loop-file-preserved
loop-file-preserved g c =
    let moves = c.args.moves.now in
    let i = c.loop-file.file-index in
    let within : i < length moves = omega arith in
    one_staged _ _ moves i c.file-item.result c.as_str.result.now c.in_ok-mark.field-0 within c.file-item.is c.as_str.ensures.value c.loop-file.invariant
    c.in_ok-mark.ensures (c.is_none.ensures ∙ ap not c.if-is_none.false)
