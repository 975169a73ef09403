-- What `map` draws, and where it puts it. Which bytes the table, the colours and the files have, no clause can say.
use Rattle.std.specs.Prelude.{◌≡◌, ◌⊎◌, ℕ, List, [], ◌∷◌, Option, Some, None, Bool, if◌then◌else◌}
use Rattle.av_types.specs.declared.fault.Fault.{Fault}
use Rattle.av_types.specs.declared.fault.Fault.TheVariants.{OutOfMemory}
use Rattle.av_types.specs.declared.position.Height.{Height}
use Rattle.av_sink.specs.Account.{Account, IsDevice, file_named, in_folder, with_failure, with_files}
use Rattle.av_region_files.specs.declared.files.RegionFile.{RegionFile}
use Rattle.av_png.specs.Png.{png_of}
use Rattle.av_map.specs.Colours.{NamedColour, colours_spelled}
use Rattle.av_map.specs.Maps.{IsMap}
use Rattle.av_map.specs.declared.drawing.Map.{Map}
use Rattle.av_map.specs.declared.view.View.{View}
use Rattle.av_map.specs.declared.view.View.TheVariants.{Blocks, Light}
use Rattle.av_reports.specs.Names.{IsFileIn}
use Rattle.av_commands.specs.Tables.{IsHeightBy}

-- ---- what is drawn

-- the colours that the text of their file spells, if one is named
pub data AreColoursBy : Option (List ℕ) → List NamedColour → Type 0 where
  none : AreColoursBy None []
  read : (name text : List ℕ) (named : List NamedColour) → colours_spelled text ≡ Some named → AreColoursBy (Some name) named

abbrev pub view_by : Bool → View
view_by light = if light then Light else Blocks

-- the map of some region files, under the table and the colours that are named
pub record IsMapBy (table colours : Option (List ℕ)) (light : Bool) (m : Map) : Type 0 where
  pub height : Height
  pub by_table : IsHeightBy table height
  pub named : List NamedColour
  pub by_colours : AreColoursBy colours named
  pub files : List RegionFile
  pub drawn : IsMap (view_by light) named height files m

-- ---- where it is put

-- the folder of the path was opened, and has taken the file
pub record IsSaved (path bytes : List ℕ) (old new : Account) : Type 0 where
  pub folder : List ℕ
  pub name : List ℕ
  pub split : IsFileIn path folder name
  pub taken : new ≡ with_files (in_folder folder old) (file_named name bytes ∷ [])

-- why it was not: memory ran out first, or the folder did not take it, which the fault says unless memory ran out for it
pub data IsNotSaved (path : List ℕ) (old new : Account) (e : Fault) : Type 0 where
  memory : e ≡ OutOfMemory → new ≡ old → IsNotSaved path old new e
  device : (folder name : List ℕ) → IsFileIn path folder name → (e ≡ OutOfMemory) ⊎ IsDevice path e → new ≡ with_failure (in_folder folder old) → IsNotSaved path old new e

-- What the command leaves in the account of a sink, and its status: the file of the picture and 0, even where chunks with a fault are not shown;
-- or nothing and 1.
pub data HasMapped (path : List ℕ) (table colours : Option (List ℕ)) (light : Bool) (old new : Account) (status : ℕ) : Type 0 where
  drawn : (m : Map) → IsMapBy table colours light m → IsSaved path (png_of m.picture) old new → status ≡ 0 → HasMapped path table colours light old new status
  not_saved : (m : Map) (e : Fault) → IsMapBy table colours light m → IsNotSaved path old new e → status ≡ 1 → HasMapped path table colours light old new status
  not_drawn : new ≡ old → status ≡ 1 → HasMapped path table colours light old new status
