-- A run that is stopped and resumed.
use Rattle.std.specs.Prelude.{◌≡◌, ℕ, ◌+◌, ◌-◌, pos, ◌-ℤ◌, nat_le, nat_lt, List, map}
use Rattle.std.specs.List.{filter}
use Rattle.av_types.specs.declared.tick.Entry.{Entry}
use Rattle.av_cells.specs.declared.kind.Kind.{Kind}
use Rattle.av_land.specs.Land.{Land}
use Rattle.av_cells.specs.Sets.{Set}
use Rattle.av_land.specs.Tick.{run, run_count}

abbrev pub sooner : ℕ → Entry → Entry
sooner n e = record { pos = e.pos; due = e.due -ℤ pos n; priority = e.priority }

-- each entry due so many ticks sooner
abbrev pub shifted : {S : Type 0} → ℕ → Land S → Land S
shifted n w = record { height = w.height; chunks = w.chunks; at = w.at; lists = λ c. map (sooner n) (w.lists c) }

-- the edits of ticks 1 to n, and those after, so many ticks sooner
abbrev pub early : {S : Type 0} → ℕ → List (Set S) → List (Set S)
early n es = filter (λ e. nat_le e.tick n) es

abbrev pub earlier : {S : Type 0} → ℕ → Set S → Set S
earlier n e = record { tick = e.tick - n; pos = e.pos; what = e.what }

abbrev pub late : {S : Type 0} → ℕ → List (Set S) → List (Set S)
late n es = map (earlier n) (filter (λ e. nat_lt n e.tick) es)

-- m ticks after n ticks, on the world sooner by n, give the world of n + m ticks sooner by n, and as many entries leave their lists.
pub record Resumes (k : ℕ → Kind) (es : List (Set ℕ)) (n m : ℕ) (w : Land ℕ) : Type 0 where
  pub world : shifted n (run k es (m + n) w) ≡ run k (late n es) m (shifted n (run k (early n es) n w))
  pub count : run_count k es (m + n) w ≡ run_count k (early n es) n w + run_count k (late n es) m (shifted n (run k (early n es) n w))

abbrev pub RunResumes : Type 0
RunResumes = (k : ℕ → Kind) (es : List (Set ℕ)) (n m : ℕ) (w : Land ℕ) → Resumes k es n m w
