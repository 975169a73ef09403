use Rattle.std.proofs.Common.{◌≡◌, ◌≤◌, ◌*◌}
use Rattle.av_rules.specs.Kinds.{kind_count}
use Rattle.av_cells.specs.Kinds.{kinds_of}
use Rattle.av_land.specs.Tick.{run, run_count}
use Rattle.av_world.specs.Lands.{land_of}
use Rattle.av_edits.specs.Numbered.{number_sets}
use Rattle.av_serial.specs.Ready.{IsReady, HasSameChunks}
use Rattle.av_serial.specs.Schedule.{IsAfterTicks}
use Rattle.av_serial.proofs.runs.run_sorted.Given as goal

abbrev pub invariant-loop-done : goal.invariant-loop-done
invariant-loop-done g l = record {
  run_is : land_of l.world ≡ run (kinds_of l.kinds) (number_sets l.edits) l.done (land_of l.initial.world);
  count_is : l.total ≡ run_count (kinds_of l.kinds) (number_sets l.edits) l.done (land_of l.initial.world);
  few : l.total ≤ l.done * 18446744073709551615;
  ready : IsReady (kind_count l.kinds) l.world;
  chunks : HasSameChunks l.initial.world l.world;
  stands : IsAfterTicks l.done l.schedule.from l.schedule.next l.edits (land_of l.world);
}
