use Rattle.std.proofs.lemmas.Result.{on_ok_weaker}
use Rattle.av_serial.proofs.Keeps.{chunks_on}
use Rattle.av_crew.proofs.ticks.work_tick.Goals as goal

pub returns-clause-chunks : goal.returns-clause-chunks
returns-clause-chunks g c =
    on_ok_weaker c.turn_due.result (chunks_on c.args.world.now c.apply_all.new.world c.turn_due.new.world c.apply_all.ensures.chunks) c.turn_due.ensures.chunks
