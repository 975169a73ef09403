use Rattle.av_world.proofs.Whole.{whole_kept}
use Rattle.av_world.proofs.worlds.World.take_due.Goals as goal

pub returns-clause-whole : goal.returns-clause-whole
returns-clause-whole c = whole_kept c.args.self.now c.leave_due.new.self c.leave_due.ensures.site c.leave_due.ensures.loaded
