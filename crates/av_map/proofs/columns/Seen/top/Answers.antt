use Rattle.std.proofs.Common.{◌≡◌, ◌∙◌, ◌<◌, ◌-◌, true, ap, sym, arith}
use Rattle.std.proofs.lemmas.Bool.{not-false}
use Rattle.av_map.specs.Sections.{look_at}
use Rattle.av_map.proofs.Alike.{top_step}
use Rattle.av_map.proofs.columns.Seen.top.Goals as goal

pub loop-block-preserved : goal.loop-block-preserved
loop-block-preserved c =
    let f = look_at c.args.self.now.sections.now c.args.self.now.looks.now c.args.column in
    let block = c.loop-block.block in
    let low : 0 < block = c.loop-block-test.true in
    let air : (f (block - 1)).is_air ≡ true = sym (ap (λ x. x.is_air) c.look_at.ensures) ∙ not-false c.look_at.result.is_air c.if-not-look_at.false in
    record { value = top_step f c.args.blocks block low air c.loop-block.invariant.value; bound = omega (arith, c.loop-block.invariant.bound) }
