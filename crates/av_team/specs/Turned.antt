-- A world after the groups of a tick. A working definition: no public clause cites it.
use Rattle.std.specs.Prelude.{◌≡◌, ℕ, List}
use Rattle.av_types.specs.declared.tick.Entry.{Entry}
use Rattle.av_rules.specs.Kinds.{kind_count}
use Rattle.av_rules.specs.declared.kinds.Kinds.{Kinds}
use Rattle.av_cells.specs.Kinds.{kinds_of}
use Rattle.av_land.specs.Tick.{turned_all, without_due}
use Rattle.av_world.specs.Lands.{land_of}
use Rattle.av_world.specs.declared.worlds.World.{World}
use Rattle.av_serial.specs.Ready.{IsReady, HasSameChunks}

-- The world v is what these entries leave of w in tick now. Entries that are due may still be in its lists.
pub record AreTurned (k : Kinds) (now : ℕ) (es : List Entry) (w v : World) : Type 0 where
  pub land_is : without_due now (land_of v) ≡ turned_all (kinds_of k) now es (without_due now (land_of w))
  pub ready : IsReady (kind_count k) v
  pub chunks : HasSameChunks w v
