use Rattle.std.proofs.Common.{◌≡◌, ◌++◌}
use Rattle.std.specs.Vec.Iter.{into_iter_items}
use Rattle.av_commands.specs.CheckCommand.{TellsUnread}
use Rattle.av_commands.proofs.checking.write_unread.Given as goal

abbrev pub invariant-loop-file : goal.invariant-loop-file
invariant-loop-file g l = record {
  split : l.yielded ++ into_iter_items l.file-iterator ≡ l.fn.unread.items;
  told : TellsUnread l.explains l.yielded (g.E.Write.contents l.fn.err) (g.E.Write.contents l.err);
}
