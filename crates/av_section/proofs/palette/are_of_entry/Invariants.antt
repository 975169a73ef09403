-- Each tag that came is one of an entry.
use Rattle.std.proofs.Common.{◌≡◌, true, take}
use Rattle.std.specs.List.{list_all}
use Rattle.av_tags.specs.View.{named_views}
use Rattle.av_section.specs.Palette.{is_of_entry}
use Rattle.av_section.proofs.palette.are_of_entry.Given as goal

abbrev pub invariant-loop-named : goal.invariant-loop-named
invariant-loop-named l = list_all is_of_entry (named_views (take l.named-index l.tags)) ≡ true
