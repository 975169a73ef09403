-- Entries that turns make are due later than the tick of the turn.
use Rattle.std.proofs.Common.{◌≡◌, ◌∙◌, ℕ, ◌+◌, ◌<◌, pos, int_le, List, [], ◌∷◌, ◌++◌, Bool, true, false, not, cond, refl, ap, arith}
use Rattle.std.specs.List.{AllByRecursion, filter}
use Rattle.std.proofs.lemmas.Int.{ints}
use Rattle.std.proofs.lemmas.List.Elements.{filter-append}
use Rattle.av_types.specs.Positions.{chunk_of}
use Rattle.av_types.specs.declared.position.ChunkPos.{ChunkPos}
use Rattle.av_types.specs.declared.tick.Entry.{Entry}
use Rattle.av_ticks.specs.Entries.{is_due}
use Rattle.av_cells.specs.declared.kind.Kind.{Kind}
use Rattle.av_cells.specs.Positions.{same_chunk}
use Rattle.av_cells.specs.World.{Lists, listed_if, listed_all}
use Rattle.av_cells.specs.Turn.{Change, change, entry_of, turn}
use Rattle.av_land.specs.Land.{Land, is_loaded, cells_of}
use Rattle.av_land.specs.Tick.{turned, turned_all, without_due}
use Rattle.av_land.specs.Idle.{NothingDue}
use Rattle.av_land.proofs.Kept.{pushed_all}
use Rattle.av_land.proofs.Steps.{IsClosed, turn_keeps}

abbrev IsLater : ℕ → Entry → Type 0
IsLater now e = is_due now e ≡ false

five_later : (now : ℕ) → int_le (pos (now + 5)) (pos now) ≡ false
five_later now = grind (arith, ints)

-- a change of w all of whose entries are due later
record MakesLater (now : ℕ) (w : Land ℕ) (c : Change) : Type 0 where
  loaded : c.world.loaded ≡ is_loaded w
  made : AllByRecursion (IsLater now) c.made

closed : (k : ℕ → Kind) (now : ℕ) (w : Land ℕ) → IsClosed k now (is_loaded w) (λ m. m < 10) (MakesLater now w)
closed k now w = record {
  loads = λ c s. s.loaded;
  set = λ p m c less l s. record { loaded = s.loaded; made = s.made };
  wake = λ p c l free s. record { loaded = s.loaded; made = pushed_all (IsLater now) c.made (entry_of p now) s.made (five_later now) };
}

not_due_if : (now : ℕ) (es : List Entry) (e : Entry) (b : Bool) → filter (is_due now) es ≡ [] → IsLater now e → filter (is_due now) (cond b (es ++ e ∷ []) es) ≡ []
not_due_if now es e true h l = filter-append (is_due now) es (e ∷ []) ∙ ap (λ xs. xs ++ filter (is_due now) (e ∷ [])) h ∙ ap (λ b. cond b (e ∷ []) []) l
not_due_if now es e false h l = h

listed_later : (now : ℕ) (es : List Entry) (lists : Lists) → AllByRecursion (IsLater now) es → ((c : ChunkPos) → filter (is_due now) (lists c) ≡ []) → (c : ChunkPos) → filter (is_due now) (listed_all lists es c) ≡ []
listed_later now [] lists later none c = none c
listed_later now (e ∷ es) lists later none c =
    listed_later now es (listed_if true lists e) later.1 (λ d. not_due_if now (lists d) e (same_chunk d (chunk_of e.pos)) (none d) later.0) c

-- where nothing is due, nothing is after turns
pub nothing_due_after : (k : ℕ → Kind) (now : ℕ) (es : List Entry) (w : Land ℕ) → NothingDue now w → NothingDue now (turned_all k now es w)
nothing_due_after k now [] w none = none
nothing_due_after k now (e ∷ es) w none = nothing_due_after k now es (turned k now e.pos w) (listed_later now (turn k now e.pos (cells_of w)).made w.lists made none) where
  made : AllByRecursion (IsLater now) (turn k now e.pos (cells_of w)).made
  made = (turn_keeps k now (is_loaded w) (λ m. m < 10) (MakesLater now w) (closed k now w) (λ m less. less) e.pos (cells_of w) (record { loaded = refl; made = tt })).made

-- nothing is due that did not leave
pub nothing_left : (now : ℕ) (w : Land ℕ) → NothingDue now (without_due now w)
nothing_left now w c = go (w.lists c) where
  go : (xs : List Entry) → filter (is_due now) (filter (λ e. not (is_due now e)) xs) ≡ []
  go [] = refl
  go (x ∷ xs) = by (is_due now x) refl (go xs) where
    by : (b : Bool) → is_due now x ≡ b → filter (is_due now) (filter (λ e. not (is_due now e)) xs) ≡ [] → filter (is_due now) (cond (not b) (x ∷ filter (λ e. not (is_due now e)) xs) (filter (λ e. not (is_due now e)) xs)) ≡ []
    by true e rest = rest
    by false e rest = ap (λ t. cond t (x ∷ filter (is_due now) (filter (λ e. not (is_due now e)) xs)) (filter (is_due now) (filter (λ e. not (is_due now e)) xs))) e ∙ rest
