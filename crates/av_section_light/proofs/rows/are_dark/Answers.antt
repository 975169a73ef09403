use Rattle.std.proofs.Common.{arith, below_more, sym, ◌∙◌, ◌≡◌}
use Rattle.av_section_light.proofs.rows.are_dark.Goals as goal

pub loop-number-preserved : goal.loop-number-preserved
loop-number-preserved c = below_more _ _ c.loop-number.invariant (let dark : c.emission.result ≡ 0 = omega arith in sym c.emission.ensures ∙ dark)
