use Rattle.av_survey.proofs.Gathering.{finds_none, finds_next}
use Rattle.av_survey.proofs.surveying.survey_indices.Goals as goal

pub loop-index-init : goal.loop-index-init
loop-index-init c = finds_none c.args.height c.args.pos c.args.region.now.bytes.now c.new-found.result.items c.new-found.ensures.items

pub loop-index-preserved : goal.loop-index-preserved
loop-index-preserved c =
    finds_next c.args.height c.args.pos c.args.region.now.bytes.now c.loop-index.index c.loop-index.found.items c.note.new.found.items c.in_ok-fault.fault
    c.loop-index.invariant c.in_ok-fault.ensures (rw c.chunk_at.ensures at c.in_ok-note.ensures)
