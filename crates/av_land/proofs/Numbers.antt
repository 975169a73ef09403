-- The numbers of a world stay below a count.
use Rattle.std.proofs.Common.{◌≡◌, ℕ, zero, suc, ◌+◌, ◌<◌, ◌≤◌, nat_eq, List, [], ◌∷◌, Bool, true, false, cond, refl, sym, subst, arith}
use Rattle.std.specs.List.{AllByRecursion}
use Rattle.std.proofs.lemmas.Bool.{cond_both}
use Rattle.av_types.specs.declared.position.Pos.{Pos}
use Rattle.av_types.specs.declared.tick.Entry.{Entry}
use Rattle.av_cells.specs.declared.kind.Kind.{Kind}
use Rattle.av_cells.specs.Positions.{same_pos, around}
use Rattle.av_cells.specs.World.{with_number}
use Rattle.av_cells.specs.Turn.{Change, change, woken, woken_all, set_awake}
use Rattle.av_land.specs.Land.{Land, is_loaded, cells_of}
use Rattle.av_cells.specs.Sets.{Set}
use Rattle.av_land.specs.Tick.{set_in, turned, edited, due_entries, without_due, turned_all, run_after}
use Rattle.av_land.proofs.Steps.{IsClosed, turn_keeps}

abbrev AreBelow : ℕ → Land ℕ → Type 0
AreBelow count w = (p : Pos) → w.at p < count

record IsBelow (count : ℕ) (L : Pos → Bool) (c : Change) : Type 0 where
  loaded : c.world.loaded ≡ L
  below : (p : Pos) → c.world.number p < count

closed : (k : ℕ → Kind) (now count : ℕ) (L : Pos → Bool) → IsClosed k now L (λ m. m < count) (IsBelow count L)
closed k now count L = record {
  loads = λ c s. s.loaded;
  set = λ p m c less l s. record { loaded = s.loaded; below = λ q. cond_both (same_pos q p) m (c.world.number q) (λ n. n < count) (λ _. less) (λ _. s.below q) };
  wake = λ p c l free s. record { loaded = s.loaded; below = s.below };
}

woken_number : (k : ℕ → Kind) (now : ℕ) (ps : List Pos) (c : Change) → (woken_all k now ps c).world.number ≡ c.world.number
unfolding woken
woken_number k now [] c = refl
woken_number k now (p ∷ ps) c = woken_number k now ps (woken k now p c)

set_below : (k : ℕ → Kind) (now count : ℕ) (p : Pos) (m : ℕ) (w : Land ℕ) → m < count → AreBelow count w → AreBelow count (set_in k now p m w)
unfolding set_awake
set_below k now count p m w less h q =
    subst (λ f. f q < count) (sym (woken_number k now (around p) (change (with_number (cells_of w) p m) []))) (cond_both (same_pos q p) m (w.at q) (λ n. n < count) (λ _. less) (λ _. h q))

turned_below : (k : ℕ → Kind) (now count : ℕ) (p : Pos) (w : Land ℕ) → 10 ≤ count → AreBelow count w → AreBelow count (turned k now p w)
turned_below k now count p w ten h =
    (turn_keeps k now (is_loaded w) (λ m. m < count) (IsBelow count (is_loaded w)) (closed k now count (is_loaded w)) (λ m less. omega arith) p (cells_of w) (record { loaded = refl; below = h })).below

below_if : (count : ℕ) (b : Bool) (v w : Land ℕ) → AreBelow count v → AreBelow count w → AreBelow count (cond b v w)
below_if count true v w g h = g
below_if count false v w g h = h

edited_below : (k : ℕ → Kind) (now count : ℕ) (es : List (Set ℕ)) (w : Land ℕ) → AllByRecursion (λ e. e.what < count) es → AreBelow count w → AreBelow count (edited k now es w)
edited_below k now count [] w a h = h
edited_below k now count (e ∷ es) w a h = edited_below k now count es _ a.1 (below_if count (nat_eq e.tick now) (set_in k now e.pos e.what w) w (set_below k now count e.pos e.what w a.0 h) h)

turned_all_below : (k : ℕ → Kind) (now count : ℕ) (es : List Entry) (w : Land ℕ) → 10 ≤ count → AreBelow count w → AreBelow count (turned_all k now es w)
turned_all_below k now count [] w ten h = h
turned_all_below k now count (e ∷ es) w ten h = turned_all_below k now count es (turned k now e.pos w) ten (turned_below k now count e.pos w ten h)

pub run_below : (k : ℕ → Kind) (count first : ℕ) (es : List (Set ℕ)) (m : ℕ) (w : Land ℕ) → 10 ≤ count → AllByRecursion (λ e. e.what < count) es → ((p : Pos) → w.at p < count) → (p : Pos) → (run_after k first es m w).at p < count
run_below k count first es zero w ten a h = h
run_below k count first es (suc m) w ten a h =
    let v = edited k (suc m + first) es (run_after k first es m w) in
    let e = edited_below k (suc m + first) count es (run_after k first es m w) a (run_below k count first es m w ten a h) in
    turned_all_below k (suc m + first) count (due_entries (suc m + first) v) (without_due (suc m + first) v) ten e
