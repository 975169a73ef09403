use Rattle.std.proofs.Common.{option_and_then, sym, ap, ◌∙◌}
use Rattle.av_state.specs.BlockState.{meant}
use Rattle.av_state.specs.States.{state_of}
use Rattle.av_state.specs.StateList.{number_in}
use Rattle.av_state.specs.Table.{states}
use Rattle.av_state.proofs.Numbering.{first_number_of, number_of-there}
use Rattle.av_state.proofs.table.StateTable.number_of.Goals as goal

pub returns-in-Fixed-clause-value : goal.returns-in-Fixed-clause-value
returns-in-Fixed-clause-value c =
    let xs = states c.args.self.now in
    sym (ap (option_and_then (number_in xs)) c.in-Fixed.ensures.1 ∙ first_number_of xs c.args.self.now.numbered c.in-Fixed.number c.in-Fixed.ensures.0)

pub returns-in-Same-clause-there : goal.returns-in-Same-clause-there
returns-in-Same-clause-there c =
    let xs = states c.args.self.now in
    number_of-there xs (meant (state_of c.args.state.now)) c.find.result (c.find.ensures ∙ ap (option_and_then (number_in xs)) (sym c.in-Same.ensures))
