use Rattle.av_map.specs.Pixels.{pixel_at}
use Rattle.av_map.specs.Rows.{patches_of}
use Rattle.av_map.proofs.Each.{values_push}
use Rattle.av_map.proofs.painting.pixel_row.Goals as goal

pub loop-x-preserved : goal.loop-x-preserved
loop-x-preserved c = values_push (λ x. pixel_at (patches_of c.args.patches.now) x c.args.z) c.loop-x.row.items c.push.new.self.items c.pixel_at.result c.loop-x.x c.in_ok-push.ensures.items c.loop-x.invariant c.pixel_at.ensures
