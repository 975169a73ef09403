use Rattle.av_survey.specs.Survey.{FindsUpTo}
use Rattle.av_survey.proofs.surveying.survey_indices.Given as goal

abbrev pub invariant-loop-index : goal.invariant-loop-index
invariant-loop-index l = FindsUpTo l.height l.pos l.region.bytes.now l.index l.found.items
