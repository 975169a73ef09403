-- All places are as they were, and the numbers that came can be set.
use Rattle.std.proofs.Common.{ℕ, ◌<◌, get_or}
use Rattle.av_section.specs.Section.{KeepsPlaces, CanSet}
use Rattle.av_section.proofs.section.Section.prepare_each.Given as goal

abbrev pub invariant-loop-number : goal.invariant-loop-number
invariant-loop-number l = record {
  same : KeepsPlaces l.initial.self l.self;
  prepared : (k d : ℕ) → k < l.number-index → CanSet l.self (get_or l.numbers k d);
}
