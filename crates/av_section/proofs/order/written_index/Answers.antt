-- An entry that was not seen goes last.
use Rattle.std.proofs.Common.{◌≡◌, ◌<◌, ◌∙◌, arith, length, ap, get_or, set, ◌++◌, ◌∷◌, []}
use Rattle.av_section.proofs.FirstPlaces.{knows_more}
use Rattle.av_section.proofs.order.written_index.Goals as goal

pub returns-clause-knows : goal.returns-clause-knows
returns-clause-knows c =
    let written = c.args.written.now.items in
    let long : c.len-last.result ≡ length written = omega (arith, c.len-last.ensures) in
    let small : c.len-last.result < 65535 = omega (arith, long, c.requires.few) in
    let next = ap (λ i. set c.args.seen.now.items i c.len-last.result) c.from-index.ensures in
    let new = c.in_ok-push.ensures.items ∙ ap (λ i. written ++ get_or c.args.palette.now i 0 ∷ []) c.from-index.ensures in
    knows_more c.args.palette.now c.args.seen.now.items written _ _ c.args.index c.len-last.result c.requires.distinct c.requires.knows c.requires.below small long next new
