-- Files that a world is written as, with its light. Working definitions: no public clause cites them.
use Rattle.std.specs.Prelude.{◌≡◌, ℕ, List, Some, None}
use Rattle.av_types.specs.declared.position.ChunkPos.{ChunkPos}
use Rattle.av_types.specs.declared.fault.Fault.{Fault}
use Rattle.av_types.specs.declared.fault.Fault.TheVariants.{ChunkTooLarge}
use Rattle.av_state.specs.BlockState.{BlockState}
use Rattle.av_rules.specs.Rows.{BlockTable}
use Rattle.av_land.specs.Land.{Land}
use Rattle.av_files.specs.Files.{File}
use Rattle.av_files.specs.Denotes.{Rest}
use Rattle.av_files.specs.Layout.{Lights, layout, too_large}
use Rattle.av_files.specs.Light.{IsLit}

-- with the light of its brightest paths
pub record AreFilesOf (t : BlockTable) (v : Land BlockState) (r : Rest) (n : ℕ) (out : List File) : Type 0 where
  pub light : Lights
  pub lit : IsLit t v light
  pub bytes : out ≡ layout t v r light n
  pub fits : too_large t v r light n ≡ None

-- a chunk is too large
pub record IsNotWritten (t : BlockTable) (v : Land BlockState) (r : Rest) (n : ℕ) (e : Fault) : Type 0 where
  pub chunk : ChunkPos
  pub light : Lights
  pub lit : IsLit t v light
  pub is : e ≡ ChunkTooLarge chunk
  pub first : too_large t v r light n ≡ Some chunk
