use Rattle.std.proofs.Common.{◌≡◌, ℤ, rules}
use Rattle.std.proofs.lemmas.Fn.{always_returns_same}
use Rattle.av_types.proofs.OrderLemmas.{sorted_is_ordered}
use Rattle.av_image.specs.declared.reading.splits.LoadedChunk.{LoadedChunk}
use Rattle.av_image.specs.Loading.{positioned_order}
use Rattle.av_image.proofs.Sorting.{positioned_laws}
use Rattle.av_image.proofs.reading.loading.chunks_in_order.Goals as goal

pub returns : goal.returns
returns c =
    let key : LoadedChunk → ℤ × ℤ = λ x. (x.at.z, x.at.x) in
    let keys = always_returns_same _ (λ a r. r ≡ key a.0.now) _ (λ a r f' call. (search rules, search rules)) in
    sorted_is_ordered positioned_order positioned_laws _ _ (c.in_ok-sort_by_key.ensures.sorted key keys) (c.in_ok-sort_by_key.ensures.stable key keys)
