use Rattle.std.proofs.Common.{◌<◌, ◌∙◌, option_map, length, ap, refl, arith}
use Rattle.std.proofs.lemmas.List.{length-map}
use Rattle.std.proofs.lemmas.Option.{slice_get-map, slice_get_read}
use Rattle.av_state.specs.States.{state_of}
use Rattle.av_state.specs.Table.{states}
use Rattle.av_state.proofs.Numbering.{number_in-state}
use Rattle.av_state.proofs.table.StateTable.state.Goals as goal

pub returns-clause-there : goal.returns-clause-there
returns-clause-there c =
    let kept = c.args.self.now.states.items in
    let known : c.args.number < length kept = omega (arith, length-map kept state_of, c.requires) in
    slice_get-map state_of kept c.args.number ∙ ap (option_map state_of) (slice_get_read kept (length kept) c.args.number c.index.result.now refl known c.index.ensures)

pub returns-clause-only : goal.returns-clause-only
returns-clause-only c = number_in-state (states c.args.self.now) (state_of c.index.result.now) c.args.number c.args.self.now.numbered (returns-clause-there c)
