use Rattle.std.proofs.Common.{refl}
use Rattle.av_tags.specs.View.{views}
use Rattle.av_state.specs.Table.{states}
use Rattle.av_chunk.specs.Rest.{opened}
use Rattle.av_codec.proofs.Slots.{AreSectionsRead-filled}
use Rattle.av_codec.proofs.reading.sections.read_sections.Goals as goal

pub returns-clause-ok : goal.returns-clause-ok
returns-clause-ok g c =
    AreSectionsRead-filled c.args.height (opened (views c.args.sections.items)) (states (g.N.Numbering.table c.args.numbering.now)) (states (g.N.Numbering.table c.find_sections.new.numbering)) c.in_ok-read.read
    (record { sections = c.fill_all.new.sections; kept = c.in_ok-read.read.kept; outside = c.in_ok-read.read.outside })
    (g.N.Numbering.table c.find_sections.new.numbering).numbered.begins c.in_ok-read.ensures.ok c.in_ok-fill_all.ensures refl refl
