use Rattle.std.proofs.Common.{arith}
use Rattle.std.proofs.lemmas.List.{length-map}
use Rattle.av_state.specs.States.{state_of}
use Rattle.av_state.proofs.table.StateTable.len.Goals as goal

pub returns : goal.returns
returns c = omega (arith, length-map c.args.self.now.states.items state_of)
