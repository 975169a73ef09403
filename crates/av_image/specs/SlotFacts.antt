-- What is said of a slot has at most one proof, so that a job can keep it.
use Rattle.std.specs.Prelude.{List}
use Rattle.std.proofs.Props.{props}
use Rattle.av_types.specs.declared.position.ChunkPos.{ChunkPos}
use Rattle.av_types.specs.declared.position.Height.{Height}
use Rattle.av_image.specs.declared.rest.Slot.{Slot}
use Rattle.av_image.specs.declared.rest.Slot.TheVariants.{Absent, Kept, Loaded}
use Rattle.av_image.specs.Saving.{IsSlotOf}

pub IsSlotOf-prop : (h : Height) (cs : List ChunkPos) (c : ChunkPos) (s : Slot) → IsProp (IsSlotOf h cs c s)
IsSlotOf-prop h cs c Absent = Prim.hlevel props
IsSlotOf-prop h cs c (Kept p) = Prim.hlevel props
IsSlotOf-prop h cs c (Loaded r) = Prim.hlevel props
