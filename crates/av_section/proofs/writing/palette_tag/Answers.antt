-- The entries, as a List of Compounds.
use Rattle.std.proofs.Common.{◌∙◌, sym, ap}
use Rattle.std.specs.Prelude.{slice_index_or}
use Rattle.std.proofs.lemmas.Simd.{map-map}
use Rattle.av_tags.specs.declared.tag.TagType.TheVariants as tag_type
use Rattle.av_tags.specs.Nbt.{list, items_of}
use Rattle.av_state.specs.BlockState.{air}
use Rattle.av_state.specs.Table.{states}
use Rattle.av_section.specs.Palette.{state_tag}
use Rattle.av_section.proofs.writing.palette_tag.Goals as goal

pub returns : goal.returns
returns c =
    c.list.ensures ∙ ap (λ ts. list tag_type.Compound (items_of ts)) (c.in_ok-tags.ensures ∙ sym (map-map state_tag (λ n. slice_index_or (states c.args.table.now) n air) c.args.numbers.now))
