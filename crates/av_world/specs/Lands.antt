-- A world as the definitions of a tick see it.
use Rattle.std.specs.Prelude.{◌≡◌, ℕ}
use Rattle.av_land.specs.Land.{Land, is_loaded}
use Rattle.av_world.specs.Views.{blocks, lists}
use Rattle.av_world.specs.declared.worlds.World.{World}

abbrev pub land_of : World → Land ℕ
land_of w = record { height = w.height; chunks = w.positions.items; at = (blocks w).number; lists = lists w }

-- no section is out
abbrev pub IsUncarved : World → Type 0
IsUncarved w = (blocks w).loaded ≡ is_loaded (land_of w)
