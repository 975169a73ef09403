use Rattle.std.proofs.Common.{◌≡◌, drop}
use Rattle.av_cells.specs.World.{listed_all}
use Rattle.av_world.specs.Appended.{entries_made}
use Rattle.av_world.specs.Appending.{entered_all, CanAppend, HasRoomForAll}
use Rattle.av_world.specs.Views.{blocks, lists, site}
use Rattle.av_world.proofs.worlds.World.add_all.Given as goal

abbrev pub invariant-loop-one : goal.invariant-loop-one
invariant-loop-one l = record {
  new : CanAppend (blocks l.self) (entries_made (drop l.one-index l.made));
  room : HasRoomForAll l.self (entries_made (drop l.one-index l.made));
  blocks_are : entered_all (blocks l.self) (entries_made (drop l.one-index l.made)) ≡ entered_all (blocks l.fn.self) (entries_made l.made);
  lists_are : listed_all (lists l.self) (entries_made (drop l.one-index l.made)) ≡ listed_all (lists l.fn.self) (entries_made l.made);
  site_is : site l.self ≡ site l.fn.self;
}
