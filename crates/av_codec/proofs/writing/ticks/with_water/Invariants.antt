use Rattle.std.proofs.Common.{◌≡◌, ◌++◌, map, take}
use Rattle.std.specs.List.{All}
use Rattle.av_tags.specs.View.{views}
use Rattle.av_document.specs.Law.{HasInts}
use Rattle.av_codec.specs.WritingSteps.{written_entry}
use Rattle.av_codec.proofs.writing.ticks.with_water.Given as goal

abbrev pub invariant-loop-entry : goal.invariant-loop-entry
invariant-loop-entry l =
    (views l.ticks.items ≡ views l.fn.ticks.items ++ map (written_entry l.chunk l.rest l.kinds l.elapsed) (take l.entry-index l.entry-items))
    × All (HasInts l.elapsed) (take l.entry-index l.entry-items)
