use Rattle.av_rewrite.specs.Rewriting.{IsKeptAt, kept}
use Rattle.av_rewrite.proofs.rewriting.write_slot.Goals as goal

pub returns-in_ok-from_slice-in-Kept : goal.returns-in_ok-from_slice-in-Kept
returns-in_ok-from_slice-in-Kept c = λ h region index s.
    let k : IsKeptAt region index c.in-Kept.payload.now = rw c.in-Kept.is at s in
    (c.in-Kept.payload.now, k.held, kept k.document k.spelled k.not_full c.in_ok-from_slice-in-Kept.ensures.items)

pub returns-in_ok-dark_bytes-in-Full : goal.returns-in_ok-dark_bytes-in-Full
returns-in_ok-dark_bytes-in-Full c = λ h region index s. c.in_ok-dark_bytes-in-Full.ensures h region index (rw c.in-Full.is at s)
