-- How far the reading of files has come. Working definitions of loops.
use Rattle.std.specs.Prelude.{ℕ, ◌-◌, List}
use Rattle.std.specs.List.{range_with_len}
use Rattle.av_types.specs.declared.position.Height.{Height}
use Rattle.av_types.specs.declared.fault.Fault.{Fault}
use Rattle.av_state.specs.BlockState.{BlockState}
use Rattle.av_section.specs.Reading.{OnlyGrows}
use Rattle.av_files.specs.Files.{File}
use Rattle.av_files.specs.Layout.{indices}
use Rattle.av_files.specs.FirstFault.{AreIndicesGood, IsFirstOfIndices, AreFilesGood, IsFirstOfFiles}
use Rattle.av_image.specs.declared.reading.stored.Stored.{Stored}
use Rattle.av_image.specs.declared.reading.regions.ReadRegion.{ReadRegion}
use Rattle.av_image.specs.RegionsRead.{WereIndicesRead, WereRegionsRead}

-- what will be said of the indices that are left can be said of all
pub record IsIndicesWay (h : Height) (f : File) (start table : List BlockState) (all left : List ℕ) : Type 0 where
  pub good : (new : List BlockState) → AreIndicesGood h table f left new → AreIndicesGood h start f all new
  pub first : (e : Fault) → IsFirstOfIndices h table f left e → IsFirstOfIndices h start f all e

pub record IndicesSoFar (h : Height) (f : File) (start table : List BlockState) (n : ℕ) (stored : List Stored) : Type 0 where
  pub way : IsIndicesWay h f start table indices (range_with_len n (1024 - n))
  pub each : WereIndicesRead h table f n stored
  pub grown : OnlyGrows start table

-- more indices were read, or one was refused, whatever was read before
abbrev pub GoesOn : Height → File → List BlockState → ℕ → List Stored → List BlockState → ℕ → List Stored → Type 0
GoesOn h f old n stored new m after = (start : List BlockState) → IndicesSoFar h f start old n stored → IndicesSoFar h f start new m after

abbrev pub Stops : Height → File → List BlockState → ℕ → List Stored → Fault → Type 0
Stops h f old n stored e = (start : List BlockState) → IndicesSoFar h f start old n stored → IsFirstOfIndices h start f indices e

-- the same of files
pub record IsFilesWay (h : Height) (start table : List BlockState) (all left : List File) : Type 0 where
  pub good : (new : List BlockState) → AreFilesGood h table left new → AreFilesGood h start all new
  pub first : (e : Fault) → IsFirstOfFiles h table left e → IsFirstOfFiles h start all e

pub record FilesSoFar (h : Height) (start table : List BlockState) (all left past : List File) (regions : List ReadRegion) : Type 0 where
  pub way : IsFilesWay h start table all left
  pub each : WereRegionsRead h table past regions
  pub grown : OnlyGrows start table
