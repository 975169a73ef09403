use Rattle.std.proofs.Common.{◌∙◌, ap, length}
use Rattle.av_lending.proofs.Ends.{begun}
use Rattle.av_lending.proofs.lender.Lender.new.Goals as goal

pub returns : goal.returns
returns c = begun c.args.plan.now c.requires.plan c.args.world.now c.requires.start c.in_ok-unturned.field-0.items c.in_ok-unturned.ensures.zero (c.in_ok-unturned.ensures.long ∙ ap length c.positions-chunks.ensures.value)
