use Rattle.std.proofs.Common.{◌∙◌, ◌*◌, ◌≤◌, ℕ, List, Vec, Global, length, ap, sym, subst, arith}
use Rattle.std.specs.List.{All}
use Rattle.av_map.specs.Maps.{ArePatches, width_of_bounds, height_of_bounds}
use Rattle.av_map.specs.Pixels.{pixel_rows, count_unread}
use Rattle.av_map.specs.Rows.{patches_of}
use Rattle.av_map.specs.Views.{colours_of}
use Rattle.av_map.specs.declared.patch.Patch.{Patch}
use Rattle.av_map.proofs.Grown.{rows_short}
use Rattle.av_map.proofs.reading.Scene.map_of.Goals as goal

pub count_unread-requires-clause-short : goal.count_unread-requires-clause-short
count_unread-requires-clause-short c =
    let s = c.args.self.now in
    let rows = c.in_ok-patches.patches.items in
    subst (λ (xs : List (Vec Patch Global)). All (λ row. length row.items ≤ 1024) xs) (sym c.as_slice-2.ensures.value)
    (rows_short s.view (colours_of s.colours.now) s.height c.args.files.now c.args.bounds _ _ rows c.in_ok-patches.ensures (omega (arith, c.width-width.ensures, c.requires.drawable.narrow)))

pub returns : goal.returns
returns c =
    let s = c.args.self.now in
    let rows = c.in_ok-patches.patches.items in
    let wide = c.width-width.ensures in
    let high = c.height-height.ensures in
    let patches : List (List Patch) = patches_of rows in
    let A : ℕ → ℕ → Type 0 = λ w h. ArePatches s.view (colours_of s.colours.now) s.height c.args.files.now c.args.bounds (32 * w) (32 * h) patches in
    record {
      patches = patches;
      are_patches = subst (λ w. A w (height_of_bounds c.args.bounds)) wide (subst (A c.width-width.result) high c.in_ok-patches.ensures);
      width = c.new.ensures.width ∙ ap (λ w. 512 * w) wide;
      pixels = c.new.ensures.rows ∙ c.in_ok-rows.ensures.pixels ∙ ap (λ (xs : List (Vec Patch Global)). pixel_rows (patches_of xs) (512 * c.width-width.result) (512 * c.height-height.result)) c.as_slice.ensures.value
          ∙ ap (λ w. pixel_rows patches (512 * w) (512 * c.height-height.result)) wide ∙ ap (λ h. pixel_rows patches (512 * width_of_bounds c.args.bounds) (512 * h)) high;
      unread = c.count_unread.ensures ∙ ap (λ (xs : List (Vec Patch Global)). count_unread (patches_of xs)) c.as_slice-2.ensures.value;
      short = c.count_short.ensures.value;
    }
