-- A run that is stopped, written, read and resumed.
use Rattle.std.specs.Prelude.{◌≡◌, ℕ, ◌+◌, List}
use Rattle.av_types.specs.declared.position.Height.{Height}
use Rattle.av_state.specs.BlockState.{BlockState}
use Rattle.av_rules.specs.Rows.{BlockTable}
use Rattle.av_land.specs.Land.{Land}
use Rattle.av_cells.specs.Sets.{Set}
use Rattle.av_land.specs.Resumed.{shifted, early, late}
use Rattle.av_files.specs.Files.{File}
use Rattle.av_files.specs.Denotes.{Rest, Denotes}
use Rattle.av_files.specs.Layout.{Lights, layout}
use Rattle.av_files.specs.Light.{IsLit}
use Rattle.av_files.specs.Run.{IsRun}

-- files that denote w are run for n ticks, and what is written (mid) for m ticks; and the files are run for all the ticks at once
pub record AreRuns (t : BlockTable) (h : Height) (files mid : List File) (es : List (Set BlockState)) (n m : ℕ) (r s : Rest) (x u : Land BlockState) (light other : Lights) (c d e : ℕ) : Type 0 where
  pub world : Land BlockState
  pub reached : Land BlockState
  pub again : Land BlockState
  pub read : Denotes h files world r
  pub first : IsRun t world (early n es) n reached c
  pub written : Denotes h mid (shifted n reached) r
  pub read_again : Denotes h mid again s
  pub second : IsRun t again (late n es) m x d
  pub lit : IsLit t x light
  pub whole : IsRun t world es (m + n) u e
  pub lit_whole : IsLit t u other

-- m ticks on the files that were written after n ticks give the files of n + m ticks, byte for byte, and as many turns.
pub record SameFiles (t : BlockTable) (n m : ℕ) (r s : Rest) (x u : Land BlockState) (light other : Lights) (c d e : ℕ) : Type 0 where
  pub files : layout t x s light m ≡ layout t u r other (m + n)
  pub turns : e ≡ c + d

abbrev pub FilesResume : Type 0
FilesResume = (t : BlockTable) (h : Height) (files mid : List File) (es : List (Set BlockState)) (n m : ℕ) (r s : Rest) (x u : Land BlockState) (light other : Lights) (c d e : ℕ)
    → AreRuns t h files mid es n m r s x u light other c d e → SameFiles t n m r s x u light other c d e
