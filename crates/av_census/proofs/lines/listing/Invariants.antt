use Rattle.std.proofs.Common.{◌≡◌, ◌++◌, drop, option_map}
use Rattle.std.specs.Option.{option_copied}
use Rattle.av_rules.specs.Tables.{table_of}
use Rattle.av_census.specs.Listing.{listing}
use Rattle.av_census.proofs.lines.listing.Given as goal

abbrev pub invariant-loop-count : goal.invariant-loop-count
invariant-loop-count l = l.text.items ++ listing (option_map table_of (option_copied l.rules)) (drop l.count-index l.counts) ≡ listing (option_map table_of (option_copied l.rules)) l.counts
