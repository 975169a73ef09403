use Rattle.av_state.specs.States.{state_of}
use Rattle.av_state.specs.Table.{states}
use Rattle.av_map.specs.Looks.{look_of}
use Rattle.av_map.specs.Views.{colours_of}
use Rattle.av_map.proofs.Each.{mapped_push}
use Rattle.av_map.proofs.colours.Colours.looks.Goals as goal

pub loop-number-preserved : goal.loop-number-preserved
loop-number-preserved c =
    mapped_push (look_of (colours_of c.args.self.now)) (states c.args.table.now) c.loop-number.number (state_of c.state.result.now) c.loop-number.looks.items c.push.new.self.items c.look.result
    c.state.ensures.there c.loop-number.invariant c.look.ensures c.in_ok-push.ensures.items
