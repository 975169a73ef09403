use Rattle.std.proofs.Common.{Some, option_map, ap, ◌∙◌, sym}
use Rattle.std.proofs.lemmas.Option.{slice_get-map}
use Rattle.av_state.specs.BlockState.{wet_of}
use Rattle.av_state.specs.Table.{states}
use Rattle.av_state.proofs.table.StateTable.wet.Goals as goal

pub returns : goal.returns
returns c = slice_get-map wet_of (states c.args.self.now) c.args.number ∙ ap (option_map wet_of) c.state.ensures.there ∙ ap Some (sym c.wet.ensures)
