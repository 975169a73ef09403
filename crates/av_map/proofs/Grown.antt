-- Rows of patches that grow at their end.
use Rattle.std.proofs.Common.{◌≡◌, ◌∙◌, ℕ, ◌+◌, ◌<◌, ◌≤◌, List, [], ◌∷◌, ◌++◌, Vec, Global, length, get_or, sym, ap, arith}
use Rattle.std.specs.List.{All}
use Rattle.std.proofs.lemmas.List.{get_or-map, length-map, length_push}
use Rattle.av_region_files.specs.declared.files.RegionFile.{RegionFile}
use Rattle.av_types.specs.declared.position.Height.{Height}
use Rattle.av_map.specs.Colours.{NamedColour}
use Rattle.av_map.specs.Maps.{ArePatches, IsPatchRow, Shows, index_at, region_at}
use Rattle.av_map.specs.Rows.{patches_of}
use Rattle.av_map.specs.declared.bounds.Bounds.{Bounds}
use Rattle.av_map.specs.declared.patch.Patch.{Patch}
use Rattle.av_map.specs.declared.patch.Patch.TheVariants.{Clear}
use Rattle.av_map.specs.declared.view.View.{View}
use Rattle.av_map.proofs.Each.{each_push}

pub row_more : (view : View) (named : List NamedColour) (h : Height) (files : List RegionFile) (b : Bounds) (z n : ℕ) (row : List Patch) (patch : Patch) → IsPatchRow view named h files b z n row
    → Shows view named h files (region_at b n z) (index_at n z) patch → IsPatchRow view named h files b z (n + 1) (row ++ patch ∷ [])
row_more view named h files b z n row patch are shows = record {
  count_is = length_push row patch ∙ ap (λ k. k + 1) are.count_is;
  each = each_push Clear (λ x p. Shows view named h files (region_at b x z) (index_at x z) p) row patch n are.count_is are.each shows;
}

pub rows_more : (view : View) (named : List NamedColour) (h : Height) (files : List RegionFile) (b : Bounds) (width n : ℕ) (rows : List (List Patch)) (row : List Patch)
    → ArePatches view named h files b width n rows → IsPatchRow view named h files b n width row → ArePatches view named h files b width (n + 1) (rows ++ row ∷ [])
rows_more view named h files b width n rows row are is = record {
  count_is = length_push rows row ∙ ap (λ k. k + 1) are.count_is;
  each_row = each_push [] (λ z r. IsPatchRow view named h files b z width r) rows row n are.count_is are.each_row is;
}

-- no row is longer than the rectangle is wide
pub rows_short : (view : View) (named : List NamedColour) (h : Height) (files : List RegionFile) (b : Bounds) (width n : ℕ) (rows : List (Vec Patch Global)) → ArePatches view named h files b width n (patches_of rows)
    → width ≤ 1024 → All (λ row. length row.items ≤ 1024) rows
rows_short view named h files b width n rows are narrow k d low =
    let here : get_or (patches_of rows) k [] ≡ (get_or rows k d).items = get_or-map (λ (row : Vec Patch Global). row.items) rows k d [] low in
    let within : k < n = omega (arith, low, sym (length-map rows (λ (row : Vec Patch Global). row.items)) ∙ are.count_is) in
    let long : length (get_or rows k d).items ≡ width = ap length (sym here) ∙ (are.each_row k within).count_is in
    omega (arith, long, narrow)

pub rows_few : (view : View) (named : List NamedColour) (h : Height) (files : List RegionFile) (b : Bounds) (width n : ℕ) (rows : List (Vec Patch Global)) → ArePatches view named h files b width n (patches_of rows)
    → length rows ≡ n
rows_few view named h files b width n rows are = sym (length-map rows (λ (row : Vec Patch Global). row.items)) ∙ are.count_is
