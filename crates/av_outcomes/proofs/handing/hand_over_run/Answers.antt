use Rattle.av_outcomes.proofs.handing.hand_over_run.Goals as goal

pub returns-in-Done-clause-ok : goal.returns-in-Done-clause-ok
returns-in-Done-clause-ok g c = rw c.in-Done.is (rw c.as_slice.ensures.value at c.hand_over.ensures.ok)

pub returns-in-Done-clause-err : goal.returns-in-Done-clause-err
returns-in-Done-clause-err g c = rw c.in-Done.is (rw c.as_slice.ensures.value at c.hand_over.ensures.err)
