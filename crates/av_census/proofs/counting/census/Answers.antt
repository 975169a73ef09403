use Rattle.std.proofs.Common.{◌≡◌, ◌≤◌, List, length, ap, ◌∙◌, subst, arith}
use Rattle.av_region_files.specs.declared.files.RegionFile.{RegionFile}
use Rattle.av_census.specs.Census.{HaveBlocks}
use Rattle.av_census.proofs.Files.{ordered-length}
use Rattle.av_census.proofs.counting.census.Goals as goal

pub tally_files-requires-clause-few : goal.tally_files-requires-clause-few
tally_files-requires-clause-few c =
    let list = c.in_ok-files.ensures.ok in
    let long : length c.in_ok-files.files.items ≡ length c.args.files.items = ap (λ (fs : List RegionFile). length fs) list.order ∙ ordered-length _ c.args.files.items in
    let few : length c.args.files.items ≤ 1024 = list.good.few in
    omega (arith, long, few)

pub returns-clause-ok : goal.returns-clause-ok
returns-clause-ok c =
    let list = c.in_ok-files.ensures.ok in
    let totals = c.in_ok-totals.ensures in
    record {
      good = list.good;
      blocks = totals.blocks;
      read = subst (λ (fs : List RegionFile). HaveBlocks c.args.height fs totals.blocks c.in_ok-totals.totals.left_out) list.order totals.read;
      rising = c.in_ok-listed.field-0.items;
      counted = c.in_ok-listed.ensures totals.blocks totals.sound totals.counts;
      sorted = c.in_ok-counts.ensures;
    }
