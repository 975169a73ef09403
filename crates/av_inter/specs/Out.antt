-- Parcels that are out of a world, as the rule sees them.
use Rattle.std.specs.Prelude.{List, map, Option, Some, None}
use Rattle.av_cells.specs.World.{World, Lists}
use Rattle.av_world.specs.ParcelViews.{blocks, lists}
use Rattle.av_world.specs.declared.parcels.Parcel.{Parcel}

-- a parcel's blocks, and what was put aside in it
pub record Out : Type 0 where
  pub blocks : World
  pub aside : Lists

abbrev pub out_of : Parcel → Out
out_of c = record { blocks = blocks c; aside = lists c }

abbrev pub out_in : Option Parcel → Option Out
out_in None = None
out_in (Some c) = Some (out_of c)

abbrev pub outs : List (Option Parcel) → List (Option Out)
outs cs = map out_in cs
