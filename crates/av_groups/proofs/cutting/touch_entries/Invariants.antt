use Rattle.std.proofs.Common.{All, take}
use Rattle.av_land.specs.Land.{has_chunk}
use Rattle.av_world.specs.Lands.{land_of}
use Rattle.av_world.specs.Views.{positions_of}
use Rattle.av_groups.specs.Open.{IsOpen, AreNoted, chunks_in}
use Rattle.av_groups.specs.Parts.{StaysIn}
use Rattle.av_groups.proofs.cutting.touch_entries.Given as goal

abbrev pub invariant-loop-entry : goal.invariant-loop-entry
invariant-loop-entry l = record {
  is_open : IsOpen (positions_of l.world) l.closed l.marks.last.items l.touches.items;
  noted : AreNoted (positions_of l.world) l.touches.items l.noted;
  stay : All (StaysIn (land_of l.world) (has_chunk (chunks_in l.touches.items))) (take l.entry-index l.entries);
}
