-- The tags of the properties that came.
use Rattle.std.proofs.Common.{◌≡◌, map, take}
use Rattle.av_tags.specs.View.{named_views}
use Rattle.av_state.specs.Views.{properties_of}
use Rattle.av_section.specs.Palette.{property_tag}
use Rattle.av_section.proofs.writing.property_tags.Given as goal

abbrev pub invariant-loop-property : goal.invariant-loop-property
invariant-loop-property l = named_views l.tags.items ≡ map property_tag (properties_of (take l.property-index l.properties))
