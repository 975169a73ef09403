use Rattle.std.proofs.Common.{◌≡◌, ◌++◌, map}
use Rattle.std.specs.Vec.Iter.{into_iter_items}
use Rattle.av_sink.specs.Account.{with_files}
use Rattle.av_sink.specs.Saving.{entry_of}
use Rattle.av_sink.proofs.saving.hand_over_all.Given as goal

abbrev pub invariant-loop-file : goal.invariant-loop-file
invariant-loop-file g l = record {
  split : l.yielded ++ into_iter_items l.file-iterator ≡ l.fn.all.items;
  taken : g.S.Sink.account l.sink ≡ with_files (g.S.Sink.account l.fn.sink) (map entry_of l.yielded);
}
