use Rattle.std.proofs.Common.{◌≡◌, drop, take}
use Rattle.av_rules.specs.Kinds.{kind_count}
use Rattle.av_cells.specs.Kinds.{kinds_of}
use Rattle.av_land.specs.Tick.{turned_all}
use Rattle.av_world.specs.Lands.{land_of}
use Rattle.av_serial.specs.Ready.{IsReady, HasSameChunks}
use Rattle.av_serial.proofs.ticks.turn_all.Given as goal

abbrev pub invariant-loop-entry : goal.invariant-loop-entry
invariant-loop-entry l = record {
  turned : turned_all (kinds_of l.kinds) l.now (drop l.entry-index l.entries) (land_of l.world) ≡ turned_all (kinds_of l.kinds) l.now l.entries (land_of l.initial.world);
  begun : land_of l.world ≡ turned_all (kinds_of l.kinds) l.now (take l.entry-index l.entries) (land_of l.initial.world);
  ready : IsReady (kind_count l.kinds) l.world;
  chunks : HasSameChunks l.initial.world l.world;
}
