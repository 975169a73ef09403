use Rattle.av_tags.specs.View.{document}
use Rattle.av_state.specs.StateList.{first_states}
use Rattle.av_state.specs.Table.{states}
use Rattle.av_chunk.specs.Reading.{IsLoaded}
use Rattle.av_map.specs.Arrays.{arrays_of}
use Rattle.av_map.specs.Views.{colours_of}
use Rattle.av_map.proofs.Denoted.{document_from}
use Rattle.av_map.proofs.reading.Scene.lit_patch.Goals as goal

pub returns-clause-ok : goal.returns-clause-ok
returns-clause-ok c =
    let s = c.args.self.now in
    let new = states c.read_chunk.new.table in
    let read = rw c.in_ok-table.ensures.ok at c.in_ok-read.ensures.ok in
    let loaded : IsLoaded c.args.at s.height (document c.args.root) first_states new c.in-Full.chunk _ = rw c.in-Full.is at read in
    document_from s.view (colours_of s.colours.now) c.args.at s.height (document c.args.root) new c.in-Full.chunk _ (arrays_of c.args.lights.now) c.in_ok-shown-in-Full.field-0 loaded
    c.requires.lights c.in_ok-shown-in-Full.ensures
