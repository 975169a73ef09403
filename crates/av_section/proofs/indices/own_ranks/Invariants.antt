-- The ranks that came are their own.
use Rattle.std.proofs.Common.{◌≡◌, ◌<◌, ℕ, length, get_or}
use Rattle.av_section.proofs.indices.own_ranks.Given as goal

abbrev pub invariant-loop-index : goal.invariant-loop-index
invariant-loop-index l = record {
  many : length l.ranks.items ≡ length l.fn.list.items;
  own : (j : ℕ) → j < l.index → get_or l.ranks.items j 0 ≡ j;
}
