use Rattle.std.proofs.Common.{◌<◌, length, ap, ◌∙◌, rules, arith}
use Rattle.av_world.specs.Index.{slot}
use Rattle.av_world.specs.Views.{positions_of}
use Rattle.av_light.specs.Columns.{column}
use Rattle.av_light.proofs.Filling.{set_more}
use Rattle.av_light.proofs.around.Around.new.Goals as goal

pub loop-n-preserved : goal.loop-n-preserved
loop-n-preserved c =
    let ps = positions_of c.args.world.now in
    let less : c.loop-n.n < length c.loop-n.slots = omega (arith, c.loop-n.invariant.0, c.loop-n-test.true) in
    (search rules, set_more c.loop-n.slots (λ k. slot ps (column _ k)) c.loop-n.n c.slot.result less c.loop-n.invariant.1 (c.slot.ensures ∙ ap (slot ps) c.column.ensures))
