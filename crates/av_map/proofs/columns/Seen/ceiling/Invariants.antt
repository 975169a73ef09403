use Rattle.std.proofs.Common.{◌≡◌, ◌≤◌, ◌<◌, ◌*◌, ℕ, length, true}
use Rattle.av_map.specs.Sections.{look_at}
use Rattle.av_map.proofs.columns.Seen.ceiling.Given as goal

abbrev pub invariant-loop-count : goal.invariant-loop-count
invariant-loop-count l = record {
  bound : l.count ≤ length l.self.sections.now;
  air : (column block : ℕ) → column < 256 → 16 * l.count ≤ block → (look_at l.self.sections.now l.self.looks.now column block).is_air ≡ true;
}

abbrev pub decreases-loop-count : goal.decreases-loop-count
decreases-loop-count l = l.count
