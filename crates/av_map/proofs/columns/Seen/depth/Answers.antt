use Rattle.std.proofs.Common.{◌≡◌, ◌∙◌, ◌<◌, ◌-◌, true, ap, sym, arith}
use Rattle.std.proofs.lemmas.Bool.{not-false}
use Rattle.av_map.specs.Sections.{look_at}
use Rattle.av_map.proofs.Alike.{depth_step}
use Rattle.av_map.proofs.columns.Seen.depth.Goals as goal

pub loop-block-preserved : goal.loop-block-preserved
loop-block-preserved c =
    let f = look_at c.args.self.now.sections.now c.args.self.now.looks.now c.args.column in
    let block = c.loop-block.block in
    let low : 0 < block = c.loop-block-test.true in
    let water : (f (block - 1)).is_water ≡ true = sym (ap (λ x. x.is_water) c.look_at.ensures) ∙ not-false c.look_at.result.is_water c.if-not-look_at.false in
    record { value = depth_step f c.args.blocks block low c.loop-block.invariant.bound water c.loop-block.invariant.value; bound = omega (arith, c.loop-block.invariant.bound) }
