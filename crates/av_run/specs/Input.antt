-- What a run begins with: its world, the rest, the kinds of states, and its edits.
use Rattle.std.specs.Prelude.{◌≡◌, ◌≢◌, ◌↔◌, ℕ, ◌≤◌, List, map, false, Result, Err, IfOk, IfErr, OnOk}
use Rattle.std.specs.List.{AllByRecursion}
use Rattle.av_types.specs.declared.position.Height.{Height}
use Rattle.av_types.specs.declared.fault.Fault.{Fault}
use Rattle.av_types.specs.declared.fault.Fault.TheVariants.{OutOfMemory, BadCount}
use Rattle.av_state.specs.BlockState.{BlockState}
use Rattle.av_state.specs.Table.{states}
use Rattle.av_rules.specs.Rows.{BlockTable, row_of, wet_in}
use Rattle.av_rules.specs.Kinds.{rows_in, wets_in, table_in, kind_count}
use Rattle.av_rules.specs.declared.kinds.Kinds.{Kinds}
use Rattle.av_land.specs.Land.{is_loaded}
use Rattle.av_land.specs.Good.{Good, IsTimely, HasIntCoordinates, IsSetOf}
use Rattle.av_edits.specs.Edits.{lines_of_edits}
use Rattle.av_edits.specs.Numbered.{number_sets}
use Rattle.av_world.specs.Lands.{land_of, IsUncarved}
use Rattle.av_world.specs.Views.{height_of, positions_of, is_broken}
use Rattle.av_files.specs.Files.{File}
use Rattle.av_files.specs.FirstFault.{AreCountsGood, IsTable, IsFirstFault}
use Rattle.av_files.specs.Layers.{IsLoad, AreEdits}
use Rattle.av_image.specs.Views.{rest_in}
use Rattle.av_image.specs.Saving.{IsRestOf}
use Rattle.av_run.specs.declared.input.Loaded.{Loaded}
use Rattle.av_run.specs.declared.input.Input.{Input}

-- the kinds are those that a block table says
pub record AreKindsBy (t : BlockTable) (k : Kinds) : Type 0 where
  pub rows : rows_in k ≡ map (row_of t) (states (table_in k))
  pub wets : wets_in k ≡ map (wet_in t) (states (table_in k))

-- the world and the rest of files, by a new table of states
pub record IsLoadedFrom (h : Height) (files : List File) (l : Loaded) : Type 0 where
  pub load : IsLoad h files (states l.table) (land_of l.world) (rest_in l.rest)
  pub whole : IsUncarved l.world
  pub sound : is_broken l.world ≡ false
  pub rest_of : IsRestOf h (positions_of l.world) l.rest

-- the world and the rest of files, the edits of a text with their lines, and the kinds that a block table says
pub record IsInput (files : List File) (table edits : List ℕ) (n : ℕ) (i : Input) : Type 0 where
  pub rules : BlockTable
  pub height : Height
  pub known : List BlockState
  pub spelled : IsTable table rules height
  pub kinds : AreKindsBy rules i.kinds
  pub load : IsLoad height files known (land_of i.world) (rest_in i.rest)
  pub read : AreEdits (is_loaded (land_of i.world)) n edits known (states (table_in i.kinds)) (number_sets i.edits.items)
  pub lines : map (λ e. e.line) i.edits.items ≡ lines_of_edits edits
  pub whole : IsUncarved i.world
  pub sound : is_broken i.world ≡ false
  pub rest_of : IsRestOf height (positions_of i.world) i.rest

-- the first fault of an input, where its counts are good
abbrev pub IsInputFault : List File → List ℕ → List ℕ → ℕ → Fault → Type 0
IsInputFault files table edits n e = (k : ℕ) → AreCountsGood files n k → IsFirstFault files table edits n k e

-- no more ticks and files than a run may have: with one worker, its counts are good
abbrev pub AreFew : List File → ℕ → Type 0
AreFew files n = AreCountsGood files n 1

-- `BadCount`, and nothing else, exactly where there are more; else what a run begins with, or its first fault, or want of memory
pub record IsInputAnswer (files : List File) (table edits : List ℕ) (n : ℕ) (answer : Result Input Fault) : Type 0 where
  pub counts : (answer ≡ Err BadCount) ↔ (¬ AreFew files n)
  pub few : OnOk answer (AreFew files n)
  pub ok : IfOk answer (IsInput files table edits n)
  pub err : IfErr answer (λ e. e ≢ OutOfMemory → IsInputFault files table edits n e)

-- what ticks and writing ask of it
pub record CanRun (n : ℕ) (i : Input) : Type 0 where
  pub few_ticks : n ≤ 1000000
  pub whole : IsUncarved i.world
  pub sound : is_broken i.world ≡ false
  pub good : Good (kind_count i.kinds) (IsTimely 0) (land_of i.world)
  pub ints : HasIntCoordinates (land_of i.world)
  pub edits : AllByRecursion (IsSetOf (kind_count i.kinds) (land_of i.world)) (number_sets i.edits.items)
  pub rest_of : IsRestOf (height_of i.world) (positions_of i.world) i.rest
