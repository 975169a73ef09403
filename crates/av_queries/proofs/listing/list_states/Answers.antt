use Rattle.std.proofs.Common.{◌∙◌, ap₂, refl, List, Option, option_map}
use Rattle.av_rules.specs.Tables.{table_of}
use Rattle.av_rules.specs.declared.rules.Rules.{Rules}
use Rattle.av_census.specs.Listing.{listing}
use Rattle.av_census.specs.declared.counts.StateCount.{StateCount}
use Rattle.av_queries.proofs.listing.list_states.Goals as goal

pub returns : goal.returns
returns g c = record {
  table = option_map table_of c.in_ok-rules.rules;
  read = c.in_ok-rules.ensures.table;
  height = c.world_height.result;
  world = c.world_height.ensures;
  files = c.in_ok-files.files.items;
  census = c.in_ok-census.census;
  counted = c.in_ok-census.ensures.ok;
  printed = c.in_ok-text.ensures.ok
      ∙ ap₂ (λ (rules : Option Rules) (counts : List StateCount). listing (option_map table_of rules) counts) c.as_ref.ensures.value c.as_slice.ensures.value;
  others = refl;
}
