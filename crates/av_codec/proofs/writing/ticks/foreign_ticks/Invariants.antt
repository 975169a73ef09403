use Rattle.std.proofs.Common.{◌≡◌, map, take}
use Rattle.av_tags.specs.View.{views}
use Rattle.av_document.specs.Layout.{compound_with}
use Rattle.av_chunk.specs.Rest.{opened}
use Rattle.av_codec.proofs.writing.ticks.foreign_ticks.Given as goal

abbrev pub invariant-loop-tag : goal.invariant-loop-tag
invariant-loop-tag l = views l.ticks.items ≡ map compound_with (opened (views (take l.tag-index l.foreign)))
