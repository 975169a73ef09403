use Rattle.std.proofs.Common.{◌≡◌, ◌∙◌, refl, ap, sym, subst, true, false, map, List, [], ◌∷◌, All, Bool}
use Rattle.std.proofs.lemmas.Bool.{false≢true}
use Rattle.av_types.specs.Positions.{IsInLimits}
use Rattle.av_files.specs.Files.{File, in_order, regions_rise}
use Rattle.av_files.specs.FirstFault.{AllInLimits}
use Rattle.av_region_files.specs.declared.files.RegionFile.{RegionFile}
use Rattle.av_image.specs.Loading.{range, repeated}
use Rattle.av_image.specs.Views.{file_in}
use Rattle.av_image.proofs.FileLists.{all_limits, limits_all, limits_ordered, rises_apart, rises_not}
use Rattle.av_image.proofs.reading.loading.judged.Goals as goal

positions : (fs : List RegionFile) → map (λ f. f.pos) (map file_in fs) ≡ map (λ f. f.pos) fs
positions [] = refl
positions (f ∷ fs) = let more = positions fs in λ i. f.pos ∷ more i

limits_in : (fs gs : List RegionFile) (b : Bool) → gs ≡ fs → (b ≡ true → All (λ f. IsInLimits f.pos) gs) → b ≡ true → AllInLimits (map file_in fs)
limits_in fs gs b is all e = all_limits fs (subst (λ (xs : List RegionFile). All (λ f. IsInLimits f.pos) xs) is (all e))

limits_out : (fs gs : List RegionFile) (b : Bool) → gs ≡ fs → (All (λ f. IsInLimits f.pos) gs → b ≡ true) → b ≡ false → ¬ AllInLimits (map file_in fs)
limits_out fs gs b is all e h = false≢true (sym e ∙ all (subst (λ (xs : List RegionFile). All (λ f. IsInLimits f.pos) xs) (sym is) (limits_all fs h)))

rise_is : (fs gs : List RegionFile) (b t : Bool) → gs ≡ fs → (sorted : List File) → map file_in fs ≡ sorted → b ≡ regions_rise (map (λ f. f.pos) gs) → b ≡ t → regions_rise (map (λ f. f.pos) sorted) ≡ t
rise_is fs gs b t is sorted order e f =
    ap (λ (l : List File). regions_rise (map (λ g. g.pos) l)) (sym order) ∙ (ap regions_rise (positions fs) ∙ (ap (λ (l : List RegionFile). regions_rise (map (λ g. g.pos) l)) (sym is) ∙ (sym e ∙ f)))

pub returns-then-not-are_in_limits-clause-err : goal.returns-then-not-are_in_limits-clause-err
returns-then-not-are_in_limits-clause-err c =
    λ other. range (limits_out c.args.files.items c.as_slice.result.now c.are_in_limits.result c.as_slice.ensures.value c.are_in_limits.ensures.1 c.if-not-are_in_limits.true) refl

pub returns-then-not-do_rise-clause-err : goal.returns-then-not-do_rise-clause-err
returns-then-not-do_rise-clause-err c =
    let fs = map file_in c.args.files.items in
    let low = limits_in c.args.files.items c.as_slice.result.now c.are_in_limits.result c.as_slice.ensures.value c.are_in_limits.ensures.0 c.if-not-are_in_limits.false in
    λ other. repeated low (rises_not fs (rise_is c.in_ok-files.files.items c.as_slice-2.result.now c.do_rise.result false c.as_slice-2.ensures.value (in_order fs) c.in_ok-files.ensures c.do_rise.ensures c.if-not-do_rise.true)) refl

pub returns-clause-ok : goal.returns-clause-ok
returns-clause-ok c =
    let fs = map file_in c.args.files.items in
    let low = limits_in c.args.files.items c.as_slice.result.now c.are_in_limits.result c.as_slice.ensures.value c.are_in_limits.ensures.0 c.if-not-are_in_limits.false in
    let rise : regions_rise (map (λ f. f.pos) (in_order fs)) ≡ true = rise_is c.in_ok-files.files.items c.as_slice-2.result.now c.do_rise.result true c.as_slice-2.ensures.value (in_order fs) c.in_ok-files.ensures c.do_rise.ensures c.if-not-do_rise.false in
    record {
      limits = low;
      apart = rises_apart fs rise;
      order = c.in_ok-files.ensures;
      rise = subst (λ (gs : List File). regions_rise (map (λ f. f.pos) gs) ≡ true) (sym c.in_ok-files.ensures) rise;
    }

pub returns-clause-limits : goal.returns-clause-limits
returns-clause-limits c =
    let fs = map file_in c.args.files.items in
    let low = limits_in c.args.files.items c.as_slice.result.now c.are_in_limits.result c.as_slice.ensures.value c.are_in_limits.ensures.0 c.if-not-are_in_limits.false in
    limits_all c.in_ok-files.files.items (subst AllInLimits (sym c.in_ok-files.ensures) (limits_ordered fs low))
