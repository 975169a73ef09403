use Rattle.std.proofs.Common.{◌≡◌, ℕ, ◌≤◌, None, length, get_or}
use Rattle.av_codec.proofs.reading.sections.Sections.missing.Given as goal

abbrev pub invariant-loop : goal.invariant-loop
invariant-loop l = record {
  within : l.counter ≤ l.fn.height.sections;
  end : l.end ≡ l.fn.height.sections;
  count : length l.sections.items ≡ l.counter;
  count_kept : length l.kept.items ≡ l.counter;
  empty_sections : (i : ℕ) → get_or l.sections.items i None ≡ None;
  empty : (i : ℕ) → get_or l.kept.items i None ≡ None;
}
