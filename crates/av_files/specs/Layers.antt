-- What the layers of a run answer, over what their values stand for.
use Rattle.std.specs.Prelude.{◌≡◌, ℕ, ◌<◌, List, ◌++◌, length, map, Bool, true, false, None}
use Rattle.std.specs.List.{AllByRecursion}
use Rattle.av_types.specs.declared.position.Height.{Height}
use Rattle.av_types.specs.declared.position.Pos.{Pos}
use Rattle.av_state.specs.BlockState.{BlockState}
use Rattle.av_state.specs.StateList.{IsStateList, first_states}
use Rattle.av_land.specs.Land.{Land, is_loaded}
use Rattle.av_cells.specs.Sets.{Set}
use Rattle.av_files.specs.Files.{File}
use Rattle.av_files.specs.Denotes.{Rest, Denotes}
use Rattle.av_files.specs.Lawful.{AreStorable}
use Rattle.av_files.specs.Laws.{StampsFit}
use Rattle.av_edits.specs.Edits.{first_in_edits, edits_of}
use Rattle.av_files.specs.FirstFault.{AreReadAfter}
use Rattle.av_files.specs.Run.{stated, stated_set}

-- Files as a program holds them: a world of numbers of these states, the first of which were there before, and the rest.
pub record IsLoadAfter (h : Height) (old : List BlockState) (files : List File) (states : List BlockState) (w : Land ℕ) (r : Rest) : Type 0 where
  pub read : AreReadAfter h old files states
  pub denotes : Denotes h files (stated states w) r
  pub numbers : (p : Pos) → w.at p < length states
  -- where nothing is loaded the number is that of air
  pub zeros : (p : Pos) → is_loaded w p ≡ false → w.at p ≡ 0
  pub stamps : StampsFit r

-- after a new table
abbrev pub IsLoad : Height → List File → List BlockState → Land ℕ → Rest → Type 0
IsLoad h files states w r = IsLoadAfter h first_states files states w r

-- The edits of a text without a fault, by the numbers of the states that were there and of those that the text adds.
pub record AreEdits (loaded : Pos → Bool) (ticks : ℕ) (text : List ℕ) (old new : List BlockState) (es : List (Set ℕ)) : Type 0 where
  pub no_fault : first_in_edits loaded ticks old text ≡ None
  pub more : List BlockState
  pub grown : new ≡ old ++ more
  pub list : IsStateList new
  pub sets : edits_of text ≡ map (stated_set new) es
  pub numbers : AllByRecursion (λ e. e.what < length new) es
  pub there : AllByRecursion (λ e. loaded e.pos ≡ true) es
  pub storable : AreStorable new
