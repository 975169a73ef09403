use Rattle.std.proofs.Common.{◌≡◌, ◌++◌}
use Rattle.std.specs.List.{All}
use Rattle.std.specs.Vec.Iter.{into_iter_items}
use Rattle.av_types.specs.Positions.{IsInLimits}
use Rattle.av_survey.specs.Survey.{FindsInAll}
use Rattle.av_survey.proofs.surveying.survey_all.Given as goal

abbrev pub invariant-loop-file : goal.invariant-loop-file
invariant-loop-file l = record {
  split : l.yielded ++ into_iter_items l.file-iterator ≡ l.fn.files.items;
  limits : All (λ f. IsInLimits f.pos) (into_iter_items l.file-iterator);
  found : FindsInAll l.height l.yielded l.found.items;
}
