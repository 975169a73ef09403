use Rattle.std.proofs.Common.{◌≡◌, ℤ, rules, ◌∙◌, ap, map}
use Rattle.std.proofs.lemmas.Fn.{always_returns_same}
use Rattle.av_types.proofs.OrderLemmas.{sorted_is_ordered}
use Rattle.av_region_files.specs.declared.files.RegionFile.{RegionFile}
use Rattle.av_image.specs.Views.{file_in}
use Rattle.av_image.proofs.Sorting.{file_order, file_laws, map_ordered}
use Rattle.av_image.proofs.reading.loading.files_in_order.Goals as goal

pub returns : goal.returns
returns c =
    let key : RegionFile → ℤ × ℤ = λ f. (f.pos.z, f.pos.x) in
    let keys = always_returns_same _ (λ a r. r ≡ key a.0.now) _ (λ a r f' call. (search rules, search rules)) in
    ap (map file_in) (sorted_is_ordered file_order file_laws _ _ (c.in_ok-sort_by_key.ensures.sorted key keys) (c.in_ok-sort_by_key.ensures.stable key keys)) ∙ map_ordered c.args.files.items
