use Rattle.std.proofs.Common.{◌≡◌, ◌++◌}
use Rattle.std.specs.List.{All}
use Rattle.std.specs.Vec.Iter.{into_iter_items}
use Rattle.av_types.specs.Positions.{IsInLimits}
use Rattle.av_census.specs.Counting.{TalliesFiles}
use Rattle.av_census.proofs.regions.tally_files.Given as goal

abbrev pub invariant-loop-file : goal.invariant-loop-file
invariant-loop-file l = record {
  split : l.yielded ++ into_iter_items l.file-iterator ≡ l.fn.files.items;
  limits : All (λ f. IsInLimits f.pos) (into_iter_items l.file-iterator);
  counted : TalliesFiles l.height l.yielded l.tally l.left_out;
}
