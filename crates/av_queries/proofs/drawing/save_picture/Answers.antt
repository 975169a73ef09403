use Rattle.av_queries.proofs.drawing.save_picture.Goals as goal

pub returns-clause-ok : goal.returns-clause-ok
returns-clause-ok g c = rw c.in_ok-bytes.ensures at (rw c.as_slice.ensures.value at c.save.ensures.ok)
