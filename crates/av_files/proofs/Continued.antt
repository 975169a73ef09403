-- A run over states that is stopped and resumed.
use Rattle.std.proofs.Common.{◌≡◌, ◌∙◌, ℕ, ◌+◌, ◌<◌, ◌≤◌, nat_le, nat_lt, List, [], ◌∷◌, length, take, min, Bool, true, false, cond, refl, ap, sym, arith}
use Rattle.std.specs.Prelude.{map}
use Rattle.std.specs.List.{AllByRecursion, filter}
use Rattle.std.proofs.lemmas.List.{length-take}
use Rattle.av_state.specs.BlockState.{BlockState}
use Rattle.av_state.specs.StateList.{first_states}
use Rattle.av_cells.specs.Sets.{Set}
use Rattle.av_land.specs.Tick.{run, run_count}
use Rattle.av_land.specs.Resumed.{shifted, early, earlier, late}
use Rattle.av_land.proofs.Resumed.{run_resumes}
use Rattle.av_land.proofs.Numbers.{run_below}
use Rattle.av_files.specs.Run.{stated, stated_set, kinds_in, IsRun, RunContinues}
use Rattle.av_files.proofs.Once.{one_run}

kept_if : {X : Type 0} (P : X → Type 0) (b : Bool) (x : X) (xs : List X) → P x → AllByRecursion P xs → AllByRecursion P (cond b (x ∷ xs) xs)
kept_if P true x xs p ps = (p, ps)
kept_if P false x xs p ps = ps

kept_all : {X : Type 0} (P : X → Type 0) (test : X → Bool) (xs : List X) → AllByRecursion P xs → AllByRecursion P (filter test xs)
kept_all P test [] ps = tt
kept_all P test (x ∷ xs) ps = kept_if P (test x) x (filter test xs) ps.0 (kept_all P test xs ps.1)

all_late : (count n : ℕ) (xs : List (Set ℕ)) → AllByRecursion (λ e. e.what < count) xs → AllByRecursion (λ e. e.what < count) (map (earlier n) xs)
all_late count n [] ps = tt
all_late count n (x ∷ xs) ps = (ps.0, all_late count n xs ps.1)

map_if : {X Y : Type 0} (f : X → Y) (b : Bool) (x : X) (xs : List X) (ys : List Y) → ys ≡ map f xs → cond b (f x ∷ ys) ys ≡ map f (cond b (x ∷ xs) xs)
map_if f true x xs ys h = ap (λ r. f x ∷ r) h
map_if f false x xs ys h = h

early_stated : (states : List BlockState) (n : ℕ) (es : List (Set ℕ)) → early n (map (stated_set states) es) ≡ map (stated_set states) (early n es)
early_stated states n [] = refl
early_stated states n (e ∷ es) = map_if (stated_set states) (nat_le e.tick n) e (early n es) (early n (map (stated_set states) es)) (early_stated states n es)

lates_stated : (states : List BlockState) (n : ℕ) (es : List (Set ℕ)) → filter (λ e. nat_lt n e.tick) (map (stated_set states) es) ≡ map (stated_set states) (filter (λ e. nat_lt n e.tick) es)
lates_stated states n [] = refl
lates_stated states n (e ∷ es) = map_if (stated_set states) (nat_lt n e.tick) e (filter (λ e. nat_lt n e.tick) es) (filter (λ e. nat_lt n e.tick) (map (stated_set states) es)) (lates_stated states n es)

earlier_stated : (states : List BlockState) (n : ℕ) (es : List (Set ℕ)) → map (earlier n) (map (stated_set states) es) ≡ map (stated_set states) (map (earlier n) es)
earlier_stated states n [] = refl
earlier_stated states n (e ∷ es) = ap (λ r. earlier n (stated_set states e) ∷ r) (earlier_stated states n es)

late_stated : (states : List BlockState) (n : ℕ) (es : List (Set ℕ)) → late n (map (stated_set states) es) ≡ map (stated_set states) (late n es)
late_stated states n es = ap (map (earlier n)) (lates_stated states n es) ∙ earlier_stated states n (filter (λ e. nat_lt n e.tick) es)

ten : (states : List BlockState) → take 10 states ≡ first_states → 10 ≤ length states
ten states h =
    let n : min 10 (length states) ≡ 10 = sym (length-take 10 states) ∙ ap length h in
    omega (arith, n)

pub run_continues : RunContinues
run_continues t w v x u es n m c d e a b s =
    let T = s.states in
    let k = kinds_in t T in
    let sets = s.sets in
    let first = early n sets in
    let then = late n sets in
    let list = s.numbered.list in
    let few : AllByRecursion (λ e. e.what < length T) first = kept_all (λ e. e.what < length T) (λ e. nat_le e.tick n) sets s.numbered.edits in
    let a' : IsRun t w (early n es) n (stated T (run k first n s.numbers)) (run_count k first n s.numbers) = record {
      states = T;
      numbers = s.numbers;
      sets = first;
      numbered = record { list = list; blocks = s.numbered.blocks; edits = few };
      from = s.from;
      edits = ap (early n) s.edits ∙ early_stated T n sets;
      to = refl;
      counted = refl;
    } in
    let one = one_run t w (early n es) n v (stated T (run k first n s.numbers)) c (run_count k first n s.numbers) a a' in
    let mid = shifted n (run k first n s.numbers) in
    let b' : IsRun t (shifted n v) (late n es) m (stated T (run k then m mid)) (run_count k then m mid) = record {
      states = T;
      numbers = mid;
      sets = then;
      numbered = record {
        list = list;
        blocks = run_below k (length T) 0 first n s.numbers (ten T list.begins) few s.numbered.blocks;
        edits = all_late (length T) n (filter (λ e. nat_lt n e.tick) sets) (kept_all (λ e. e.what < length T) (λ e. nat_lt n e.tick) sets s.numbered.edits);
      };
      from = ap (shifted n) one.0;
      edits = ap (late n) s.edits ∙ late_stated T n sets;
      to = refl;
      counted = refl;
    } in
    let two = one_run t (shifted n v) (late n es) m x (stated T (run k then m mid)) d (run_count k then m mid) b b' in
    let all = run_resumes k sets n m s.numbers in
    record {
      world = two.0 ∙ ap (stated T) (sym all.world) ∙ ap (shifted n) (sym s.to);
      count = s.counted ∙ all.count ∙ (λ i. sym one.1 i + sym two.1 i);
    }
