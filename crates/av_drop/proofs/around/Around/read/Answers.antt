use Rattle.av_drop.proofs.Marks.{left_first}
use Rattle.av_drop.proofs.around.Around.read.Goals as goal

pub loop-middle-init : goal.loop-middle-init
loop-middle-init g c = record { seen = c.requires.seen; left = left_first c.args.squares c.args.self.now.known c.apart_from-left.result c.apart_from-left.ensures }
