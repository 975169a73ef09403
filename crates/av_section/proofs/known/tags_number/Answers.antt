-- What the tags describe is known.
use Rattle.std.proofs.Common.{◌∙◌, sym, ap}
use Rattle.av_tags.specs.View.{view, named_views}
use Rattle.av_state.specs.Table.{states}
use Rattle.av_state.specs.Texts.{properties_told}
use Rattle.av_section.specs.Palette.{properties_in}
use Rattle.av_section.proofs.KnownEntries.{known_state, written}
use Rattle.av_section.proofs.known.tags_number.Goals as goal

pub returns : goal.returns
returns c =
    let tags = named_views c.args.tags.now in
    let w = written tags (view c.in-Some.name.now) c.in-Some-as_text.name.now (properties_told c.read_properties.new.texts.items) (sym c.in-Some.ensures) (sym c.in-Some-as_text.ensures)
    (ap properties_in (sym c.find-else-not-are_of_entry.ensures) ∙ c.in_ok-read_properties.ensures c.if-not-branch.false) (sym c.are_of_entry.ensures ∙ c.if-not-are_of_entry.false) in
    rw w (known_state (states c.args.table.now) _ _ c.in-Ok.ensures.value)
