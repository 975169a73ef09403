use Rattle.std.proofs.Common.{◌≡◌, ◌++◌, [], map, string_bytes}
use Rattle.std.specs.Vec.Iter.{into_iter_items}
use Rattle.av_requests.specs.Skipping.{others}
use Rattle.av_requests.proofs.skipping.first_unread.Given as goal

-- all files so far are skipped
abbrev pub invariant-loop-file : goal.invariant-loop-file
invariant-loop-file g l = record {
  split : l.yielded ++ into_iter_items l.file-iterator ≡ l.fn.unread.items;
  skipped : others l.skip (map (λ u. string_bytes u.name) l.yielded) ≡ [];
}
