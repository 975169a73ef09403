-- A run that is stopped and resumed.
use Rattle.std.proofs.Common.{◌≡◌, ◌∙◌, ℕ, zero, suc, ◌+◌, ◌-◌, ◌<◌, ◌≤◌, pos, ◌+ℤ◌, ◌-ℤ◌, nat_eq, nat_le, nat_lt, List, [], ◌∷◌, Bool, true, false, cond, refl, ap, sym, arith}
use Rattle.std.specs.Prelude.{map, length}
use Rattle.std.specs.List.{filter}
use Rattle.std.proofs.lemmas.Int.{ints}
use Rattle.std.proofs.lemmas.Bool.Decides.{nat_tests}
use Rattle.av_types.specs.declared.tick.Entry.{Entry}
use Rattle.av_cells.specs.declared.kind.Kind.{Kind}
use Rattle.av_land.specs.Land.{Land}
use Rattle.av_cells.specs.Sets.{Set}
use Rattle.av_land.specs.Tick.{set_in, edited, due_entries, without_due, turned_all, ticked, tick_count, run_after, count_after, run, run_count}
use Rattle.av_land.specs.Moved.{later, moved, moved_set}
use Rattle.av_land.specs.Resumed.{sooner, shifted, early, earlier, late, RunResumes}
use Rattle.av_land.proofs.Runs.{run_moved, count_moved}

abbrev same : ℕ → ℕ
same i = i

-- ---- sooner and then later, later and then sooner

entries_back : (n : ℕ) (es : List Entry) → map (later n) (map (sooner n) es) ≡ es
entries_back n [] = refl
entries_back n (e ∷ es) =
    let d : (e.due -ℤ pos n) +ℤ pos n ≡ e.due = omega (arith, ints) in
    λ i. record { pos = e.pos; due = d i; priority = e.priority } ∷ entries_back n es i

entries_forth : (n : ℕ) (es : List Entry) → map (sooner n) (map (later n) es) ≡ es
entries_forth n [] = refl
entries_forth n (e ∷ es) =
    let d : (e.due +ℤ pos n) -ℤ pos n ≡ e.due = omega (arith, ints) in
    λ i. record { pos = e.pos; due = d i; priority = e.priority } ∷ entries_forth n es i

back : (n : ℕ) (w : Land ℕ) → moved same n (shifted n w) ≡ w
back n w = λ i. record { height = w.height; chunks = w.chunks; at = w.at; lists = λ c. entries_back n (w.lists c) i }

forth : (n : ℕ) (w : Land ℕ) → shifted n (moved same n w) ≡ w
forth n w = λ i. record { height = w.height; chunks = w.chunks; at = w.at; lists = λ c. entries_forth n (w.lists c) i }

-- ---- edits of other ticks make no difference

not_now : (k : ℕ → Kind) (now : ℕ) (e : Set ℕ) (es : List (Set ℕ)) (w : Land ℕ) (b : Bool) → nat_eq e.tick now ≡ b → b ≡ false → edited k now es (cond b (set_in k now e.pos e.what w) w) ≡ edited k now es w
not_now k now e es w true s h = ap (λ b. edited k now es (cond b (set_in k now e.pos e.what w) w)) h
not_now k now e es w false s h = refl

pub filtered : (k : ℕ → Kind) (now : ℕ) (test : Set ℕ → Bool) → ((e : Set ℕ) → test e ≡ false → nat_eq e.tick now ≡ false) → (es : List (Set ℕ)) (w : Land ℕ) → edited k now es w ≡ edited k now (filter test es) w
filtered k now test h [] w = refl
filtered k now test h (e ∷ es) w = by (test e) refl (filtered k now test h es) where
  by : (b : Bool) → test e ≡ b → ((v : Land ℕ) → edited k now es v ≡ edited k now (filter test es) v) → edited k now (e ∷ es) w ≡ edited k now (cond b (e ∷ filter test es) (filter test es)) w
  by true s rest = rest (cond (nat_eq e.tick now) (set_in k now e.pos e.what w) w)
  by false s rest = not_now k now e es w (nat_eq e.tick now) refl (h e s) ∙ rest w

ticked_filtered : (k : ℕ → Kind) (now : ℕ) (test : Set ℕ → Bool) → ((e : Set ℕ) → test e ≡ false → nat_eq e.tick now ≡ false) → (es : List (Set ℕ)) (w : Land ℕ) → ticked k now es w ≡ ticked k now (filter test es) w
ticked_filtered k now test h es w = ap (λ v. turned_all k now (due_entries now v) (without_due now v)) (filtered k now test h es w)

counted_filtered : (k : ℕ → Kind) (now : ℕ) (test : Set ℕ → Bool) → ((e : Set ℕ) → test e ≡ false → nat_eq e.tick now ≡ false) → (es : List (Set ℕ)) (w : Land ℕ) → tick_count k now es w ≡ tick_count k now (filter test es) w
counted_filtered k now test h es w = ap (λ v. length (due_entries now v)) (filtered k now test h es w)

is_early : (n now : ℕ) → now ≤ n → (t : ℕ) → nat_le t n ≡ false → nat_eq t now ≡ false
is_early n now le t h = grind (arith, nat_tests)

is_late : (n now : ℕ) → n < now → (t : ℕ) → nat_lt n t ≡ false → nat_eq t now ≡ false
is_late n now less t h = grind (arith, nat_tests)

early_run : (k : ℕ → Kind) (n : ℕ) (es : List (Set ℕ)) (m : ℕ) (w : Land ℕ) → m ≤ n → run_after k 0 es m w ≡ run_after k 0 (early n es) m w
early_run k n es zero w le = refl
early_run k n es (suc m) w le =
    ticked_filtered k (suc m + 0) (λ e. nat_le e.tick n) (λ e h. is_early n (suc m + 0) (omega arith) e.tick h) es (run_after k 0 es m w)
    ∙ ap (λ v. ticked k (suc m + 0) (early n es) v) (early_run k n es m w (omega arith))

early_count : (k : ℕ → Kind) (n : ℕ) (es : List (Set ℕ)) (m : ℕ) (w : Land ℕ) → m ≤ n → count_after k 0 es m w ≡ count_after k 0 (early n es) m w
early_count k n es zero w le = refl
early_count k n es (suc m) w le =
    let this = counted_filtered k (suc m + 0) (λ e. nat_le e.tick n) (λ e h. is_early n (suc m + 0) (omega arith) e.tick h) es (run_after k 0 es m w)
    ∙ ap (λ v. tick_count k (suc m + 0) (early n es) v) (early_run k n es m w (omega arith)) in
    λ i. early_count k n es m w (omega arith) i + this i

abbrev lates : ℕ → List (Set ℕ) → List (Set ℕ)
lates n es = filter (λ e. nat_lt n e.tick) es

late_run : (k : ℕ → Kind) (n : ℕ) (es : List (Set ℕ)) (m : ℕ) (w : Land ℕ) → run_after k n es m w ≡ run_after k n (lates n es) m w
late_run k n es zero w = refl
late_run k n es (suc m) w =
    ticked_filtered k (suc m + n) (λ e. nat_lt n e.tick) (λ e h. is_late n (suc m + n) (omega arith) e.tick h) es (run_after k n es m w)
    ∙ ap (λ v. ticked k (suc m + n) (lates n es) v) (late_run k n es m w)

late_count : (k : ℕ → Kind) (n : ℕ) (es : List (Set ℕ)) (m : ℕ) (w : Land ℕ) → count_after k n es m w ≡ count_after k n (lates n es) m w
late_count k n es zero w = refl
late_count k n es (suc m) w =
    let this = counted_filtered k (suc m + n) (λ e. nat_lt n e.tick) (λ e h. is_late n (suc m + n) (omega arith) e.tick h) es (run_after k n es m w)
    ∙ ap (λ v. tick_count k (suc m + n) (lates n es) v) (late_run k n es m w) in
    λ i. late_count k n es m w i + this i

-- ---- the later edits, sooner and then later

sets_back : (n : ℕ) (es : List (Set ℕ)) → map (moved_set same n) (late n es) ≡ lates n es
sets_back n [] = refl
sets_back n (e ∷ es) = by (nat_lt n e.tick) refl (sets_back n es) where
  by : (b : Bool) → nat_lt n e.tick ≡ b → map (moved_set same n) (late n es) ≡ lates n es → map (moved_set same n) (map (earlier n) (cond b (e ∷ lates n es) (lates n es))) ≡ cond b (e ∷ lates n es) (lates n es)
  by false h rest = rest
  by true h rest =
      let less : n < e.tick = grind (arith, nat_tests) in
      let t : e.tick - n + n ≡ e.tick = omega arith in
      λ i. record { tick = t i; pos = e.pos; what = e.what } ∷ rest i

-- ---- n ticks, and then m more

run_split : (k : ℕ → Kind) (es : List (Set ℕ)) (n m : ℕ) (w : Land ℕ) → run_after k 0 es (m + n) w ≡ run_after k n es m (run_after k 0 es n w)
run_split k es n zero w = ap (λ t. run_after k 0 es t w) (let e : 0 + n ≡ n = omega arith in e)
run_split k es n (suc m) w =
    let a : suc m + n ≡ suc (m + n) = omega arith in
    let b : suc (m + n) + 0 ≡ suc m + n = omega arith in
    ap (λ t. run_after k 0 es t w) a ∙ ap (λ t. ticked k t es (run_after k 0 es (m + n) w)) b ∙ ap (λ v. ticked k (suc m + n) es v) (run_split k es n m w)

count_split : (k : ℕ → Kind) (es : List (Set ℕ)) (n m : ℕ) (w : Land ℕ) → count_after k 0 es (m + n) w ≡ count_after k 0 es n w + count_after k n es m (run_after k 0 es n w)
count_split k es n zero w = ap (λ t. count_after k 0 es t w) (let e : 0 + n ≡ n = omega arith in e) ∙ (let e : count_after k 0 es n w ≡ count_after k 0 es n w + 0 = omega arith in e)
count_split k es n (suc m) w =
    let a : suc m + n ≡ suc (m + n) = omega arith in
    let b : suc (m + n) + 0 ≡ suc m + n = omega arith in
    let this : tick_count k (suc (m + n) + 0) es (run_after k 0 es (m + n) w) ≡ tick_count k (suc m + n) es (run_after k n es m (run_after k 0 es n w)) =
    ap (λ t. tick_count k t es (run_after k 0 es (m + n) w)) b ∙ ap (λ v. tick_count k (suc m + n) es v) (run_split k es n m w) in
    let sum : (x y z : ℕ) → (x + y) + z ≡ x + (y + z) = λ x y z. omega arith in
    ap (λ t. count_after k 0 es t w) a ∙ (λ i. count_split k es n m w i + this i)
    ∙ sum (count_after k 0 es n w) (count_after k n es m (run_after k 0 es n w)) (tick_count k (suc m + n) es (run_after k n es m (run_after k 0 es n w)))

-- m ticks after n ticks are m ticks of the world sooner by n, later by n
rest_of : (k : ℕ → Kind) (es : List (Set ℕ)) (n m : ℕ) (v : Land ℕ) → run_after k n es m v ≡ moved same n (run k (late n es) m (shifted n v))
rest_of k es n m v =
    let sets = sym (sets_back n es) in
    let world = sym (back n v) in
    late_run k n es m v
    ∙ (λ i. run_after k n (sets i) m (world i))
    ∙ run_moved k same n (late n es) m (shifted n v) (λ x less. refl)

rest_count : (k : ℕ → Kind) (es : List (Set ℕ)) (n m : ℕ) (v : Land ℕ) → count_after k n es m v ≡ run_count k (late n es) m (shifted n v)
rest_count k es n m v =
    let sets = sym (sets_back n es) in
    let world = sym (back n v) in
    late_count k n es m v
    ∙ (λ i. count_after k n (sets i) m (world i))
    ∙ count_moved k same n (late n es) m (shifted n v) (λ x less. refl)

pub run_resumes : RunResumes
run_resumes k es n m w =
    let first = early_run k n es n w (omega arith) in
    record {
      world = ap (shifted n) (run_split k es n m w ∙ ap (λ v. run_after k n es m v) first ∙ rest_of k es n m (run k (early n es) n w)) ∙ forth n (run k (late n es) m (shifted n (run k (early n es) n w)));
      count = count_split k es n m w
          ∙ (λ i. early_count k n es n w (omega arith) i + count_after k n es m (first i))
          ∙ ap (λ x. run_count k (early n es) n w + x) (rest_count k es n m (run k (early n es) n w));
    }
