use Rattle.std.proofs.Common.{◌≡◌, ◌++◌}
use Rattle.std.specs.Vec.Iter.{into_iter_items}
use Rattle.av_requests.specs.Skipping.{names_of, others}
use Rattle.av_requests.proofs.skipping.keep_others.Given as goal

-- the files that are kept are those of the first that are not skipped
abbrev pub invariant-loop-file : goal.invariant-loop-file
invariant-loop-file g l = record {
  split : l.yielded ++ into_iter_items l.file-iterator ≡ l.fn.files.items;
  kept : names_of l.kept.items ≡ others l.skip (names_of l.yielded);
}
