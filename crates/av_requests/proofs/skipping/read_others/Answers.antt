use Rattle.std.proofs.Common.{◌≡◌, ◌∙◌, ap, sym, rules, tests, List, ℕ, [], Bor, length, map}
use Rattle.std.proofs.lemmas.Result.{IfOk-weaker}
use Rattle.std.proofs.lemmas.List.{nil_from_length}
use Rattle.av_region_files.specs.Names.{region_name_of}
use Rattle.av_region_files.specs.declared.files.RegionFile.{RegionFile}
use Rattle.av_folders.specs.Folders.{AreInNameOrder}
use Rattle.av_requests.specs.Skipping.{AreOthers, others}
use Rattle.av_requests.proofs.Others.{names_of_regions, none_skipped}
use Rattle.av_requests.proofs.skipping.read_others.Goals as goal

all_of : (skip : List (Bor (List ℕ))) (files : List RegionFile) → skip ≡ [] → AreInNameOrder (map (λ f. f.pos) files) → AreOthers skip files
all_of skip files is order = record {
  listed = map (λ f. f.pos) files;
  order = order;
  kept = names_of_regions files
      ∙ sym (ap (λ (s : List (Bor (List ℕ))). others s (map region_name_of (map (λ f. f.pos) files))) is ∙ none_skipped (map region_name_of (map (λ f. f.pos) files)));
}

pub returns-then-is_empty-clause-read : goal.returns-then-is_empty-clause-read
returns-then-is_empty-clause-read g c =
    let is : length c.args.skip.now ≡ 0 = search (rules, tests, c.if-is_empty.ensures) in
    IfOk-weaker c.read_folder.result _ _ (λ files order. all_of c.args.skip.now files.items (nil_from_length c.args.skip.now is) order) c.read_folder.ensures.read
