-- The run over block states, by the numbers of any table that has them.
use Rattle.std.specs.Prelude.{◌≡◌, ℕ, ◌+◌, ◌<◌, List, length, Option, Some, None, false, true, map, slice_get, slice_index_or}
use Rattle.std.specs.List.{AllByRecursion}
use Rattle.av_types.specs.declared.position.Pos.{Pos}
use Rattle.av_types.specs.declared.water.Wet.TheVariants.{Dry}
use Rattle.av_cells.specs.declared.kind.Kind.{Kind}
use Rattle.av_state.specs.BlockState.{BlockState, air}
use Rattle.av_state.specs.StateList.{IsStateList}
use Rattle.av_rules.specs.Rows.{BlockTable, row_of, wet_in}
use Rattle.av_land.specs.Land.{Land}
use Rattle.av_cells.specs.Sets.{Set}
use Rattle.av_land.specs.Tick.{run, run_count}
use Rattle.av_land.specs.Resumed.{shifted, early, late}

-- what water asks of a state
abbrev pub kind_of : BlockTable → BlockState → Kind
kind_of t s = record { opens = (row_of t s).opens; floor = (row_of t s).floor; wet = wet_in t s }

-- a number that is none is shut and dry
abbrev pub kind_or_shut : BlockTable → Option BlockState → Kind
kind_or_shut t None = record { opens = false; floor = true; wet = Dry }
kind_or_shut t (Some s) = kind_of t s

abbrev pub kinds_in : BlockTable → List BlockState → ℕ → Kind
kinds_in t states n = kind_or_shut t (slice_get states n)

-- the states that numbers stand for
abbrev pub stated : List BlockState → Land ℕ → Land BlockState
stated states w = record { height = w.height; chunks = w.chunks; at = λ p. slice_index_or states (w.at p) air; lists = w.lists }

abbrev pub stated_set : List BlockState → Set ℕ → Set BlockState
stated_set states e = record { tick = e.tick; pos = e.pos; what = slice_index_or states e.what air }

pub record AreNumbersOf (states : List BlockState) (w : Land ℕ) (es : List (Set ℕ)) : Type 0 where
  pub list : IsStateList states
  pub blocks : (p : Pos) → w.at p < length states
  pub edits : AllByRecursion (λ e. e.what < length states) es

-- Ticks 1 to n lead from w to v, and so many entries left their lists.
pub record IsRun (t : BlockTable) (w : Land BlockState) (es : List (Set BlockState)) (n : ℕ) (v : Land BlockState) (count : ℕ) : Type 0 where
  pub states : List BlockState
  pub numbers : Land ℕ
  pub sets : List (Set ℕ)
  pub numbered : AreNumbersOf states numbers sets
  pub from : w ≡ stated states numbers
  pub edits : es ≡ map (stated_set states) sets
  pub to : v ≡ stated states (run (kinds_in t states) sets n numbers)
  pub counted : count ≡ run_count (kinds_in t states) sets n numbers

-- Which table gives the numbers makes no difference: a world, edits and a number of ticks lead to one world.
abbrev pub OneRun : Type 0
OneRun = (t : BlockTable) (w : Land BlockState) (es : List (Set BlockState)) (n : ℕ) (v u : Land BlockState) (c d : ℕ)
    → IsRun t w es n v c → IsRun t w es n u d → (v ≡ u) × (c ≡ d)

-- n ticks, and m more on what files say that were written then: the world of n + m ticks, sooner by n, and as many entries in all.
pub record Continues (n : ℕ) (v u : Land BlockState) (c d e : ℕ) : Type 0 where
  pub world : v ≡ shifted n u
  pub count : e ≡ c + d

abbrev pub RunContinues : Type 0
RunContinues = (t : BlockTable) (w v x u : Land BlockState) (es : List (Set BlockState)) (n m c d e : ℕ)
    → IsRun t w (early n es) n v c → IsRun t (shifted n v) (late n es) m x d → IsRun t w es (m + n) u e → Continues n x u c d e
