-- The block table that a command names, and the height that it gives the world. Which bytes a table's file has, no clause can say.
use Rattle.std.specs.Prelude.{◌≡◌, ◌⊎◌, List, ℕ, Option, Some, None, negsuc}
use Rattle.av_types.specs.declared.position.Height.{Height}
use Rattle.av_types.specs.declared.fault.Fault.{Fault}
use Rattle.av_types.specs.declared.fault.Fault.TheVariants.{OutOfMemory, BadTable}
use Rattle.av_rules.specs.Rows.{BlockTable}
use Rattle.av_rules.specs.Document.{table_spelled}
use Rattle.av_sink.specs.Account.{IsDevice}

-- the table that the text of its file spells, if one is named
pub data IsTableBy : Option (List ℕ) → Option BlockTable → Type 0 where
  none : IsTableBy None None
  read : (name text : List ℕ) (t : BlockTable) → table_spelled text ≡ Some t → IsTableBy (Some name) (Some t)

-- the world's height, by its table: without one it is the game's, sections -4 to 19
abbrev pub IsWorldHeight : Option BlockTable → Height → Type 0
IsWorldHeight None h = (h.min_section ≡ negsuc 3) × (h.sections ≡ 24)
IsWorldHeight (Some t) h = (h.min_section ≡ t.min_section) × (h.sections ≡ t.sections)

-- the world's height for the table that is named
pub record IsHeightBy (name : Option (List ℕ)) (h : Height) : Type 0 where
  pub table : Option BlockTable
  pub read : IsTableBy name table
  pub height : IsWorldHeight table h

-- why there is no table: one that is named can't be read, or is none
abbrev pub IsUnreadTable : Option (List ℕ) → Fault → Type 0
IsUnreadTable None e = e ≡ OutOfMemory
IsUnreadTable (Some table) e = (e ≡ OutOfMemory) ⊎ ((e ≡ BadTable) ⊎ IsDevice table e)
