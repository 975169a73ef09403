-- The order of files.
use Rattle.std.specs.Ordering.{is_lt}
use Rattle.std.specs.declared.cmp.Ordering.{Ordering}
use Rattle.std.specs.Cmp.{IsStrictWeakOrder}
use Rattle.std.proofs.lemmas.Cmp.{then_total, on_total, int_cmp_total}
use Rattle.std.proofs.lemmas.List.Sorted.{ranks_by}
use Rattle.av_region_files.specs.declared.files.RegionFile.{RegionFile}
use Rattle.av_region_files.specs.Regions.{region_order}

abbrev pub file_order : RegionFile → RegionFile → Ordering
file_order a b = region_order a.pos b.pos

pub file_laws : IsStrictWeakOrder (λ x y. is_lt (file_order x y))
file_laws = ranks_by (then_total (on_total (λ (e : RegionFile). e.pos.z) int_cmp_total) (on_total (λ (e : RegionFile). e.pos.x) int_cmp_total)) (λ (e : RegionFile). e)
