-- What a tick depends on: the edits of that tick, in their order, and the entries that are due.
use Rattle.std.specs.Prelude.{◌≡◌, ℕ, ◌≤◌, nat_eq, List, []}
use Rattle.std.specs.List.{filter}
use Rattle.std.specs.Ordering.{nat_cmp}
use Rattle.std.specs.declared.cmp.Ordering.{Ordering}
use Rattle.av_types.specs.declared.position.ChunkPos.{ChunkPos}
use Rattle.av_ticks.specs.Entries.{is_due}
use Rattle.av_types.specs.Order.{ordered}
use Rattle.av_cells.specs.declared.kind.Kind.{Kind}
use Rattle.av_land.specs.Land.{Land}
use Rattle.av_cells.specs.Sets.{Set}
use Rattle.av_land.specs.Tick.{ticked, tick_count, run, run_count}

-- the edits of tick now, in their order
abbrev pub edits_at : {S : Type 0} → ℕ → List (Set S) → List (Set S)
edits_at now es = filter (λ e. nat_eq e.tick now) es

-- no list has an entry that is due in tick now
abbrev pub NothingDue : {S : Type 0} → ℕ → Land S → Type 0
NothingDue now w = (c : ChunkPos) → filter (is_due now) (w.lists c) ≡ []

-- the tick leaves the world as it is, and nothing is taken
pub record IsIdle (k : ℕ → Kind) (now : ℕ) (es : List (Set ℕ)) (w : Land ℕ) : Type 0 where
  pub world : ticked k now es w ≡ w
  pub count : tick_count k now es w ≡ 0

-- A tick without edits of its own, in which nothing is due, is idle.
abbrev pub TicksIdly : Type 0
TicksIdly = (k : ℕ → Kind) (now : ℕ) (es : List (Set ℕ)) (w : Land ℕ) → edits_at now es ≡ [] → NothingDue now w → IsIdle k now es w

-- Where nothing is due in a tick, nothing is due in the ticks before it.
abbrev pub NothingDueBefore : Type 0
NothingDueBefore = (now n : ℕ) (w : Land ℕ) → now ≤ n → NothingDue n w → NothingDue now w

-- tick now does the same with these edits as with those
pub record SameTick (k : ℕ → Kind) (now : ℕ) (es fs : List (Set ℕ)) (w : Land ℕ) : Type 0 where
  pub world : ticked k now es w ≡ ticked k now fs w
  pub count : tick_count k now es w ≡ tick_count k now fs w

-- Edits of other ticks change nothing.
abbrev pub OtherEditsDoNothing : Type 0
OtherEditsDoNothing = (k : ℕ → Kind) (now : ℕ) (es fs : List (Set ℕ)) (w : Land ℕ) → edits_at now es ≡ edits_at now fs → SameTick k now es fs w

-- n ticks do the same with these edits as with those
pub record SameRun (k : ℕ → Kind) (es fs : List (Set ℕ)) (n : ℕ) (w : Land ℕ) : Type 0 where
  pub world : run k es n w ≡ run k fs n w
  pub count : run_count k es n w ≡ run_count k fs n w

-- A run depends on the edits of each tick, in their order, and not on how the ticks' edits lie among one another.
abbrev pub RunByTicks : Type 0
RunByTicks = (k : ℕ → Kind) (es fs : List (Set ℕ)) (n : ℕ) (w : Land ℕ) → ((t : ℕ) → edits_at t es ≡ edits_at t fs) → SameRun k es fs n w

abbrev pub tick_order : {S : Type 0} → Set S → Set S → Ordering
tick_order a b = nat_cmp a.tick b.tick

-- Edits that are sorted by their ticks, with those of one tick in the order that they had, give the same run.
abbrev pub RunSorted : Type 0
RunSorted = (k : ℕ → Kind) (es : List (Set ℕ)) (n : ℕ) (w : Land ℕ) → SameRun k (ordered tick_order es) es n w
