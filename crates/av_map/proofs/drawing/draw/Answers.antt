use Rattle.std.proofs.Common.{rules, ◌≡◌, ◌∙◌, ◌∷◌, List, sym, subst}
use Rattle.av_region_files.specs.declared.files.RegionFile.{RegionFile}
use Rattle.av_survey.specs.Listing.{in_order}
use Rattle.av_map.specs.Maps.{IsDrawable, IsMapOf}
use Rattle.av_map.specs.Views.{colours_of}
use Rattle.av_map.specs.declared.bounds.Bounds.{Bounds}
use Rattle.av_map.proofs.drawing.draw.Goals as goal

pub returns-then-not-is_drawable-clause-err : goal.returns-then-not-is_drawable-clause-err
returns-then-not-is_drawable-clause-err c =
    let list = c.in_ok-files.ensures.ok in
    record {
      good = list.good;
      first = c.in-Some.first.now;
      more = c.in-Some.more.now;
      split = sym list.order ∙ sym c.deref.ensures.value ∙ c.in-Some.ensures.cases.0;
      wide = λ small. (let yes = c.is_drawable.ensures.1 (subst IsDrawable (sym c.of-bounds.ensures.value) small) in absurd cc);
    }

pub returns-clause-ok : goal.returns-clause-ok
returns-clause-ok c =
    let list = c.in_ok-files.ensures.ok in
    let split : in_order c.args.files.items ≡ c.in-Some.first.now ∷ c.in-Some.more.now = sym list.order ∙ sym c.deref.ensures.value ∙ c.in-Some.ensures.cases.0 in
    let files : c.as_slice.result.now ≡ c.in-Some.first.now ∷ c.in-Some.more.now = c.as_slice.ensures.value ∙ list.order ∙ split in
    let M : List RegionFile → Bounds → Type 0 = λ fs b. IsMapOf c.args.view (colours_of c.args.colours.now) c.args.height fs b c.in_ok-map_of.field-0 in
    record {
      good = list.good;
      first = c.in-Some.first.now;
      more = c.in-Some.more.now;
      split = split;
      drawable = subst IsDrawable c.of-bounds.ensures.value (c.is_drawable.ensures.0 (search rules));
      map_of = subst (M (c.in-Some.first.now ∷ c.in-Some.more.now)) c.of-bounds.ensures.value (subst (λ fs. M fs c.of-bounds.result) files c.in_ok-map_of.ensures);
    }
