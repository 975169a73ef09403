use Rattle.av_world.specs.Views.{positions_of}
use Rattle.av_groups.proofs.Touched.{touched_more}
use Rattle.av_groups.proofs.cutting.touch_all.Goals as goal

pub loop-chunk-preserved : goal.loop-chunk-preserved
loop-chunk-preserved c =
    let i = c.loop-chunk.invariant in (
      c.in_ok-touch.ensures.gathered,
      (λ d h. c.in_ok-touch.ensures.touched.kept d (i.1 d h)),
      touched_more (positions_of c.args.world.now) c.args.chunks.now c.args.touches.now.items c.loop-chunk.touches.items c.touch.new.touches.items c.loop-chunk.chunk-index _ i.1 i.2 c.loop-chunk-test.true c.in_ok-touch.ensures.touched,
    )
