-- Where a run stands in its edits. Working definitions, shaped like the code.
use Rattle.std.specs.Prelude.{◌≡◌, ℕ, ◌<◌, ◌≤◌, List, length, slice_index_or}
use Rattle.av_land.specs.Land.{Land}
use Rattle.av_land.specs.Idle.{edits_at, NothingDue}
use Rattle.av_edits.specs.declared.edit.Edit.{Edit}
use Rattle.av_edits.specs.Numbered.{number_sets}

abbrev pub tick_of : Edit → ℕ
tick_of e = e.tick

-- the edits at indices a to b are of ticks up to now
abbrev pub AreUpTo : ℕ → ℕ → ℕ → List Edit → Type 0
AreUpTo now a b es = (i : ℕ) (d : Edit) → a ≤ i → i < b → tick_of (slice_index_or es i d) ≤ now

-- the edit at an index, if there is one, is of a tick after now
abbrev pub IsOfLaterTick : ℕ → ℕ → List Edit → Type 0
IsOfLaterTick now i es = (d : Edit) → i < length es → now < tick_of (slice_index_or es i d)

-- the same edits of each tick, in the same order
abbrev pub SameByTick : List Edit → List Edit → Type 0
SameByTick es fs = (t : ℕ) → edits_at t (number_sets es) ≡ edits_at t (number_sets fs)

-- nothing is due in the ticks before this
abbrev pub NothingBefore : ℕ → Land ℕ → Type 0
NothingBefore next w = (t : ℕ) → t < next → NothingDue t w

-- after so many ticks: the edits before an index are done, and nothing is due before a tick
pub record IsAfterTicks (done from next : ℕ) (es : List Edit) (w : Land ℕ) : Type 0 where
  pub within : from ≤ length es
  pub passed : AreUpTo done 0 from es
  pub later : NothingBefore next w
