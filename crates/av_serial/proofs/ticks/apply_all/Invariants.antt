use Rattle.std.proofs.Common.{◌≡◌, drop, take}
use Rattle.av_rules.specs.Kinds.{kind_count}
use Rattle.av_cells.specs.Kinds.{kinds_of}
use Rattle.av_land.specs.Tick.{edited}
use Rattle.av_world.specs.Lands.{land_of}
use Rattle.av_edits.specs.Numbered.{number_sets}
use Rattle.av_serial.specs.Ready.{IsReady, HasSameChunks}
use Rattle.av_serial.proofs.ticks.apply_all.Given as goal

abbrev pub invariant-loop-edit : goal.invariant-loop-edit
invariant-loop-edit l = record {
  begun : land_of l.world ≡ edited (kinds_of l.kinds) l.now (number_sets (take l.edit-index l.edits)) (land_of l.initial.world);
  edited : edited (kinds_of l.kinds) l.now (number_sets (drop l.edit-index l.edits)) (land_of l.world) ≡ edited (kinds_of l.kinds) l.now (number_sets l.edits) (land_of l.initial.world);
  ready : IsReady (kind_count l.kinds) l.world;
  chunks : HasSameChunks l.initial.world l.world;
}
