use Rattle.std.proofs.Common.{◌≡◌, drop}
use Rattle.av_tags.specs.View.{views}
use Rattle.av_document.specs.Chunk.{numbered}
use Rattle.av_chunk.specs.Rest.{opened}
use Rattle.av_map.proofs.light.section_of.Given as goal

abbrev pub invariant-loop-section : goal.invariant-loop-section
invariant-loop-section l = numbered l.y (opened (views (drop l.section-index l.sections))) ≡ numbered l.y (opened (views l.sections))
