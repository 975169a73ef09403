use Rattle.std.proofs.Common.{rules}
use Rattle.std.proofs.lemmas.List.Sorted.{answers_always}
use Rattle.av_types.proofs.OrderLemmas.{sorted_is_ordered}
use Rattle.av_census.specs.Census.{most_first}
use Rattle.av_census.proofs.Adding.{most_laws}
use Rattle.av_census.proofs.tally.sorted.Goals as goal

pub returns : goal.returns
returns c =
    let s = c.in_ok-sort_by.ensures in
    sorted_is_ordered most_first most_laws _ _ (s.sorted _ most_laws (answers_always _ _ _ (λ f a r f' k. search rules))) (s.stable _ most_laws (answers_always _ _ _ (λ f a r f' k. search rules)))
