use Rattle.std.proofs.Common.{map, subst, List, ℕ, Bor}
use Rattle.std.specs.Prelude.{IsTrue, ◌↔◌}
use Rattle.av_tags.specs.View.{named_views}
use Rattle.av_nbt.specs.Order.{Rise}
use Rattle.av_nbt.proofs.Sorting.{sorted_answer}
use Rattle.av_nbt.proofs.distinct.are_distinct_by_order.Goals as goal

pub returns : goal.returns
returns c =
    let ys = c.sort_unstable.new.self.items in
    let answer = subst (λ (zs : List (Bor (List ℕ))). IsTrue c.rise.result ↔ Rise (map (λ b. b.now) zs)) c.as_slice.ensures.value c.rise.ensures in
    sorted_answer c.in_ok-names.names.items ys (named_views c.args.tags.now) c.rise.result c.in_ok-names.ensures c.sort_unstable.ensures.permutation c.sort_unstable.ensures.sorted answer
