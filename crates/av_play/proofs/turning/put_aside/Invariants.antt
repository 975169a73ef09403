use Rattle.std.proofs.Common.{◌≡◌, ◌≤◌, ◌+◌, ◌++◌, ◌-◌, take, vec_len, vec_capacity}
use Rattle.av_play.specs.Play.{labelled}
use Rattle.av_play.proofs.turning.put_aside.Given as goal

abbrev pub invariant-loop-entry : goal.invariant-loop-entry
invariant-loop-entry l =
    record {
      counted : l.number ≡ l.entry-index;
      put : l.made.items ≡ l.fn.made.items ++ labelled l.maker 0 (take l.entry-index l.entries);
      room : vec_len l.made + (42 - l.entry-index) ≤ vec_capacity l.made;
    }
