-- What a run comes to from its input. Working definitions.
use Rattle.std.specs.Prelude.{◌≡◌, ℕ, length, map}
use Rattle.av_state.specs.BlockState.{BlockState}
use Rattle.av_state.specs.Table.{states}
use Rattle.av_rules.specs.Rows.{BlockTable}
use Rattle.av_rules.specs.Kinds.{table_in}
use Rattle.av_cells.specs.Kinds.{kinds_of}
use Rattle.av_land.specs.Land.{Land}
use Rattle.av_land.specs.Tick.{run, run_count}
use Rattle.av_edits.specs.Numbered.{number_sets}
use Rattle.av_world.specs.Lands.{land_of}
use Rattle.av_world.specs.Views.{positions_of}
use Rattle.av_files.specs.Run.{stated}
use Rattle.av_image.specs.Views.{rest_in, file_in}
use Rattle.av_run.specs.Written.{AreFilesOf}
use Rattle.av_run.specs.Input.{AreKindsBy}
use Rattle.av_run.specs.declared.input.Input.{Input}
use Rattle.av_answers.specs.declared.answers.Outcome.{Outcome}

-- the world after the ticks
abbrev pub reached_from : ℕ → Input → Land BlockState
reached_from n i = stated (states (table_in i.kinds)) (run (kinds_of i.kinds) (number_sets i.edits.items) n (land_of i.world))

pub record IsFinished (n : ℕ) (i : Input) (o : Outcome) : Type 0 where
  pub turns : o.turns ≡ run_count (kinds_of i.kinds) (number_sets i.edits.items) n (land_of i.world)
  pub chunks : o.chunks ≡ length (positions_of i.world)
  pub files : (t : BlockTable) → AreKindsBy t i.kinds → AreFilesOf t (reached_from n i) (rest_in i.rest) n (map file_in o.files.items)
