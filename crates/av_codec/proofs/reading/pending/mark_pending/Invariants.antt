use Rattle.std.proofs.Common.{◌≡◌, true, length, take, drop}
use Rattle.std.specs.List.{list_all}
use Rattle.av_codec.specs.Pending.{is_in_height, MarksPending}
use Rattle.av_codec.proofs.reading.pending.mark_pending.Given as goal

abbrev pub invariant-loop-entry : goal.invariant-loop-entry
invariant-loop-entry l = record {
  count : length l.sections.items ≡ l.height.sections;
  inside : list_all (is_in_height l.height) (drop l.entry-index l.entries) ≡ true;
  marked : MarksPending l.height (take l.entry-index l.entries) l.fn.sections.items l.sections.items;
}
