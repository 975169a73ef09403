-- The properties of the tags that came.
use Rattle.std.proofs.Common.{◌≡◌, Some, take}
use Rattle.av_tags.specs.Shape.{each}
use Rattle.av_tags.specs.View.{named_views}
use Rattle.av_state.specs.Views.{properties_of}
use Rattle.av_section.specs.Palette.{property_in}
use Rattle.av_section.proofs.palette.properties.Given as goal

abbrev pub invariant-loop-named : goal.invariant-loop-named
invariant-loop-named l = each property_in (named_views (take l.named-index l.tags)) ≡ Some (properties_of l.found.items)
