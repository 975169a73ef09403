use Rattle.std.proofs.Common.{◌≡◌}
use Rattle.av_tags.specs.View.{views}
use Rattle.av_codec.specs.WritingSteps.{first_sections}
use Rattle.av_codec.proofs.writing.sections.all_sections.Given as goal

abbrev pub invariant-loop-index : goal.invariant-loop-index
invariant-loop-index l = views l.sections.items ≡ first_sections l.chunk l.rest l.kinds l.light l.index
