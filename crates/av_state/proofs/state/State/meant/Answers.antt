use Rattle.std.proofs.Common.{◌∙◌, sym, ap, arith, Some}
use Rattle.av_state.proofs.Numbering.{first_states-water}
use Rattle.av_state.proofs.state.State.meant.Goals as goal

pub returns-in_ok-water-in-Fixed-clause-ok : goal.returns-in_ok-water-in-Fixed-clause-ok
returns-in_ok-water-in-Fixed-clause-ok c =
    let ne = c.in-Fixed.number-test.1 in
    c.in-Fixed.ensures.1 ∙ (first_states-water c.in-Fixed.number (omega arith) c.in-Fixed.ensures.0 ∙ ap Some (sym c.in_ok-water-in-Fixed.ensures))
