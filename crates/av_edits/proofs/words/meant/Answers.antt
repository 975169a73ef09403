use Rattle.av_state.specs.States.{state_of}
use Rattle.av_edits.proofs.Meant.{meant_again}
use Rattle.av_edits.proofs.words.meant.Goals as goal

pub returns-in-Ok-clause-form : goal.returns-in-Ok-clause-form
returns-in-Ok-clause-form c = meant_again (state_of c.args.state.now) _ c.in-Ok.ensures.ok
