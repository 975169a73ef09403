use Rattle.std.proofs.Common.{◌≡◌, ◌∙◌, ◌∷◌, [], Vec, Global, length, map, ap, sym, subst, ◌+◌}
use Rattle.std.specs.List.{All}
use Rattle.std.proofs.lemmas.List.{map-append, length_push}
use Rattle.std.proofs.lemmas.List.Elements.{All-push}
use Rattle.std.proofs.lemmas.List.FromFn.{length-map-range_with_len}
use Rattle.av_png.specs.declared.picture.Pixel.{Pixel}
use Rattle.av_map.specs.Pixels.{pixel_at, pixel_row}
use Rattle.av_map.specs.Rows.{patches_of}
use Rattle.av_map.proofs.Each.{values_push}
use Rattle.av_map.proofs.painting.pixel_rows.Goals as goal

pub loop-z-preserved : goal.loop-z-preserved
loop-z-preserved c =
    let patches = patches_of c.args.patches.now in
    let rows = c.loop-z.rows.items in
    let row = c.in_ok-pixel_row.field-0 in
    let is = c.in_ok-push.ensures.items in
    let wide : length row.items ≡ c.args.width = ap length c.in_ok-pixel_row.ensures ∙ length-map-range_with_len (λ x. pixel_at patches x c.loop-z.z) 0 c.args.width in
    record {
      pixels = values_push (pixel_row patches c.args.width) _ _ row.items c.loop-z.z (ap (λ rs. map (λ (r : Vec Pixel Global). r.items) rs) is ∙ map-append (λ (r : Vec Pixel Global). r.items) rows (row ∷ [])) c.loop-z.invariant.pixels c.in_ok-pixel_row.ensures;
      count = ap length is ∙ length_push rows row ∙ ap (λ k. k + 1) c.loop-z.invariant.count;
      even = subst (All (λ r. length r.items ≡ c.args.width)) (sym is) (All-push (λ (r : Vec Pixel Global). length r.items ≡ c.args.width) rows row c.loop-z.invariant.even wide);
    }
