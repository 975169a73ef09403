use Rattle.av_state.proofs.Seated.{seated-doubled}
use Rattle.std.proofs.Common.{◌∙◌, ◌≡◌, ◌+◌, ap, sym}
use Rattle.av_state.proofs.slots.Slots.reserve.Goals as goal

pub returns : goal.returns
returns c = record {
  seated = λ order seated.
      let shift : c.args.self.now.shift ≡ c.seat.new.self.shift + 1 = c.in_ok-double.ensures.shift ∙ ap (λ n. n + 1) (sym c.seat.ensures.shift) in
      seated-doubled c.args.fingerprints.now order c.args.self.now c.seat.new.self c.requires seated c.seat.ensures.first shift;
}
