use Rattle.std.proofs.Common.{◌≡◌}
use Rattle.av_state.specs.Index.{AreFirst}
use Rattle.av_state.proofs.slots.Slots.seat.Given as goal

abbrev pub invariant-loop-number : goal.invariant-loop-number
invariant-loop-number l = record {
  first : AreFirst l.fingerprints l.number l.self;
  shift : l.self.shift ≡ l.fn.self.shift;
}
