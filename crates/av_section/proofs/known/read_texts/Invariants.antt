-- The properties of the tags that came.
use Rattle.std.proofs.Common.{◌≡◌, Some, take}
use Rattle.av_tags.specs.Shape.{each}
use Rattle.av_tags.specs.View.{named_views}
use Rattle.av_state.specs.Texts.{properties_told}
use Rattle.av_section.specs.Palette.{property_in}
use Rattle.av_section.proofs.known.read_texts.Given as goal

abbrev pub invariant-loop-named : goal.invariant-loop-named
invariant-loop-named l = each property_in (named_views (take l.named-index l.tags)) ≡ Some (properties_told l.texts.items)
