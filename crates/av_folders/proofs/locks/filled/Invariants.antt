use Rattle.std.proofs.Common.{◌≡◌, ◌++◌}
use Rattle.std.specs.Prelude.{filter}
use Rattle.std.specs.Vec.Iter.{into_iter_items}
use Rattle.av_folders.specs.Locks.{is_filled, texts}
use Rattle.av_folders.proofs.locks.filled.Given as goal

-- the words are the parts so far that are not empty
abbrev pub invariant-loop-part : goal.invariant-loop-part
invariant-loop-part l = record {
  split : l.yielded ++ into_iter_items l.part-iterator ≡ l.fn.parts.items;
  filled : texts l.words.items ≡ filter is_filled (texts l.yielded);
}
