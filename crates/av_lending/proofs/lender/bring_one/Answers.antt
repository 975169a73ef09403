use Rattle.std.proofs.Common.{arith}
use Rattle.std.proofs.lemmas.Option.{slice_get_within}
use Rattle.av_world.specs.Views.{positions_of}
use Rattle.av_lending.proofs.Stages.{one_more}
use Rattle.av_lending.proofs.lender.bring_one.Goals as goal

pub returns-then-touch-len : goal.returns-then-touch-len
returns-then-touch-len c = λ w chunks before at was. one_more w chunks c.args.touch.now.chunk c.args.touch.now.index c.args.stage before c.args.stages.now.items at was

pub returns-else-touch-len : goal.returns-else-touch-len
returns-else-touch-len c = λ w chunks before at was.
    let within = slice_get_within (positions_of w) c.args.touch.now.index c.args.touch.now.chunk at in
    let long = was.long in
    let past = c.if-touch-len.false in
    absurd (omega (arith, within, long, past))
