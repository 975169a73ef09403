-- One state is at every place.
use Rattle.std.proofs.Common.{◌∙◌, sym, ap, map}
use Rattle.std.specs.Prelude.{slice_index_or}
use Rattle.av_state.specs.BlockState.{air}
use Rattle.av_state.specs.Table.{states}
use Rattle.av_section.specs.Palette.{states_tag}
use Rattle.av_section.proofs.WrittenOne.{writes_one}
use Rattle.av_section.proofs.section.Section.write_one.Goals as goal

pub palette_tag-requires : goal.palette_tag-requires
palette_tag-requires c = rw c.as_slice.ensures.value (writes_one (states c.args.table.now) c.args.self.now c.args.table.now.numbered c.requires.below c.requires.one).below

pub returns-clause-palette : goal.returns-clause-palette
returns-clause-palette c =
    let all = writes_one (states c.args.table.now) c.args.self.now c.args.table.now.numbered c.requires.below c.requires.one in
    let numbers = ap (λ ns. states_tag (map (λ n. slice_index_or (states c.args.table.now) n air) ns)) c.as_slice.ensures.value in
    c.in_ok-palette.ensures ∙ numbers ∙ sym all.palette

pub returns-clause-longs : goal.returns-clause-longs
returns-clause-longs c = sym (writes_one (states c.args.table.now) c.args.self.now c.args.table.now.numbered c.requires.below c.requires.one).indices
