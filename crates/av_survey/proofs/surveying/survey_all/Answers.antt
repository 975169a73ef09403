use Rattle.std.proofs.Common.{◌≡◌, ◌∙◌, ◌++◌, ◌∷◌, [], List, append_assoc, subst}
use Rattle.std.specs.List.{All}
use Rattle.std.specs.Vec.Iter.{into_iter_items}
use Rattle.std.proofs.lemmas.List.Elements.{All-tail}
use Rattle.av_types.specs.Positions.{IsInLimits}
use Rattle.av_region_files.specs.declared.files.RegionFile.{RegionFile}
use Rattle.av_survey.proofs.Gathering.{finds_more}
use Rattle.av_survey.proofs.surveying.survey_all.Goals as goal

pub loop-file-preserved : goal.loop-file-preserved
loop-file-preserved c =
    let file : RegionFile = c.in-Some.file in
    let rest : List RegionFile = into_iter_items c.next.new.self in
    let step : into_iter_items c.loop-file.file-iterator ≡ file ∷ rest = c.in-Some.ensures.steps.0 in
    let limits : All (λ f. IsInLimits f.pos) (file ∷ rest) = subst (λ (xs : List RegionFile). All (λ f. IsInLimits f.pos) xs) step c.loop-file.invariant.limits in
    record {
      split = append_assoc c.loop-file.yielded (file ∷ []) rest ∙ subst (λ (xs : List RegionFile). c.loop-file.yielded ++ xs ≡ c.args.files.items) step c.loop-file.invariant.split;
      limits = All-tail (λ f. IsInLimits f.pos) file rest limits;
      found = finds_more c.args.height c.loop-file.yielded file c.loop-file.found.items c.in_ok-more.more.items c.append.new.self.items c.loop-file.invariant.found c.in_ok-more.ensures c.in_ok-append.ensures.items;
    }
