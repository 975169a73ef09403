use Rattle.std.proofs.Common.{rules, ◌≡◌, ◌∙◌, ◌≤◌, length, false, List, ap, sym, subst}
use Rattle.std.specs.List.{All}
use Rattle.std.proofs.lemmas.List.Sorted.{All-permutation}
use Rattle.av_types.specs.Positions.{IsInLimits}
use Rattle.av_region_files.specs.declared.files.RegionFile.{RegionFile}
use Rattle.av_survey.specs.Listing.{share_a_region}
use Rattle.av_survey.proofs.listing.judged.Goals as goal

pub returns-clause-ok : goal.returns-clause-ok
returns-clause-ok c =
    let files : List RegionFile = c.args.files.items in
    let few : length files ≤ 1024 = search rules in
    let limits : All (λ f. IsInLimits f.pos) files =
    subst (λ (xs : List RegionFile). All (λ f. IsInLimits f.pos) xs) c.as_slice.ensures.value (c.are_in_limits.ensures.0 c.if-not-are_in_limits.false) in
    let apart : share_a_region files ≡ false = ap share_a_region (sym c.as_slice-2.ensures.value) ∙ sym c.share_a_region.ensures ∙ c.if-share_a_region.false in
    record {
      good = record { few = few; limits = limits; apart = apart };
      order = c.in_ok-sorted.ensures.ok;
      limits = All-permutation (λ f. IsInLimits f.pos) files c.in_ok-sorted.field-0.items c.in_ok-sorted.ensures.same limits;
    }
