-- A run over states does not depend on the table that gives the numbers.
use Rattle.std.proofs.Common.{◌≡◌, ◌∙◌, ℕ, zero, suc, ◌+◌, ◌<◌, pos, ◌+ℤ◌, List, [], ◌∷◌, ◌++◌, length, drop, Bool, true, false, cond, Option, Some, None, refl, ap, sym, arith}
use Rattle.std.specs.Prelude.{map, option_map, slice_get, slice_index_or}
use Rattle.std.specs.List.{AllByRecursion}
use Rattle.std.proofs.lemmas.Int.{ints}
use Rattle.std.proofs.lemmas.Bool.{true≢false, false≢true}
use Rattle.std.proofs.lemmas.Option.{slice_get_past, none-some}
use Rattle.av_tags.specs.Shape.{or_else}
use Rattle.av_types.specs.declared.position.Pos.{Pos}
use Rattle.av_types.specs.declared.tick.Entry.{Entry}
use Rattle.av_state.specs.BlockState.{BlockState, air, index_where}
use Rattle.av_state.specs.StateList.{IsStateList, first_states, number_in, same_state}
use Rattle.av_state.proofs.Numbering.{number_in-there, number_in-append, number_in-first, list-begins, slice_get-append, same_state-refl, first_state}
use Rattle.av_rules.specs.Rows.{BlockTable}
use Rattle.av_land.specs.Land.{Land}
use Rattle.av_cells.specs.Sets.{Set}
use Rattle.av_land.specs.Tick.{run, run_after, run_count, count_after}
use Rattle.av_land.specs.Moved.{later, moved, moved_set, KeepsFirst}
use Rattle.av_land.proofs.Runs.{run_moved, count_moved}
use Rattle.av_files.specs.Run.{kind_or_shut, kinds_in, stated, stated_set, OneRun}

-- the number of a state in another table, past its end for none
abbrev number_or_past : List BlockState → Option BlockState → ℕ
number_or_past table None = length table
number_or_past table (Some s) = or_else (length table) (number_in table s)

abbrev renumber : List BlockState → List BlockState → ℕ → ℕ
renumber table states i = number_or_past table (slice_get states i)

found : (xs : List BlockState) (i : ℕ) (s : BlockState) → slice_get xs i ≡ Some s → (n : ℕ) × (number_in xs s ≡ Some n)
found [] i s h = absurd (none-some s h)
found (x ∷ xs) zero s h =
    let same : same_state s x ≡ true = ap (same_state s) (is_some x s h) ∙ same_state-refl s in
    (0, ap (λ b. cond b (Some 0) (option_map suc (index_where (same_state s) xs))) same) where
      is_some : (x y : BlockState) → Some x ≡ Some y → x ≡ y
      is_some x y e = cc
found (x ∷ xs) (suc i) s h = by (same_state s x) (found xs i s h) where
  by : (b : Bool) → (n : ℕ) × (number_in xs s ≡ Some n) → (n : ℕ) × (cond b (Some 0) (option_map suc (index_where (same_state s) xs)) ≡ Some n)
  by true r = (0, refl)
  by false r = (suc r.0, ap (option_map suc) r.1)

-- each state of one table is in another
abbrev Has : List BlockState → List BlockState → Type 0
Has table states = (i : ℕ) (s : BlockState) → slice_get states i ≡ Some s → (j : ℕ) × (slice_get table j ≡ Some s)

number_there : (table : List BlockState) (o : Option BlockState) → ((s : BlockState) → o ≡ Some s → (j : ℕ) × (slice_get table j ≡ Some s)) → slice_get table (number_or_past table o) ≡ o
number_there table None has = slice_get_past table (length table) (omega arith)
number_there table (Some s) has =
    let j = has s refl in
    let n = found table j.0 s j.1 in
    ap (λ o. slice_get table (or_else (length table) o)) n.1 ∙ number_in-there table s n.0 n.1

same_kind : (t : BlockTable) (table states : List BlockState) → Has table states → kinds_in t states ≡ (λ i. kinds_in t table (renumber table states i))
same_kind t table states has =
    let e : (i : ℕ) → kind_or_shut t (slice_get states i) ≡ kind_or_shut t (slice_get table (renumber table states i)) = λ i. ap (kind_or_shut t) (sym (number_there table (slice_get states i) (has i))) in
    λ j i. e i j

index_is : (xs : List BlockState) (i : ℕ) → slice_index_or xs i air ≡ or_else air (slice_get xs i)
index_is [] i = refl
index_is (x ∷ xs) zero = refl
index_is (x ∷ xs) (suc i) = index_is xs i

same_index : (table states : List BlockState) → Has table states → (i : ℕ) → slice_index_or table (renumber table states i) air ≡ slice_index_or states i air
same_index table states has i = index_is table (renumber table states i) ∙ ap (or_else air) (number_there table (slice_get states i) (has i)) ∙ sym (index_is states i)

no_later : (es : List Entry) → map (later 0) es ≡ es
no_later [] = refl
no_later (e ∷ es) =
    let d : e.due +ℤ pos 0 ≡ e.due = omega (arith, ints) in
    let one : later 0 e ≡ e = λ i. record { pos = e.pos; due = d i; priority = e.priority } in
    λ i. one i ∷ no_later es i

-- a world of numbers stands for the same states by either table
same_stated : (table states : List BlockState) → Has table states → (v : Land ℕ) → stated table (moved (renumber table states) 0 v) ≡ stated states v
same_stated table states has v =
    λ i. record { height = v.height; chunks = v.chunks; at = λ p. same_index table states has (v.at p) i; lists = λ c. no_later (v.lists c) i }

-- numbers of two tables that stand for one state become one number
one_number : (table states others : List BlockState) (i j : ℕ) → i < length states → j < length others → slice_index_or states i air ≡ slice_index_or others j air → renumber table states i ≡ renumber table others j
one_number table states others i j a b e =
    ap (number_or_past table) (there states i a ∙ ap (λ s. Some s) e ∙ sym (there others j b)) where
      there : (xs : List BlockState) (i : ℕ) → i < length xs → slice_get xs i ≡ Some (slice_index_or xs i air)
      there [] i h = absurd (omega arith)
      there (s ∷ xs) zero h = refl
      there (s ∷ xs) (suc i) h = there xs i (omega arith)

one_world : (table states others : List BlockState) (v w : Land ℕ) → ((p : Pos) → v.at p < length states) → ((p : Pos) → w.at p < length others) → stated states v ≡ stated others w
    → moved (renumber table states) 0 v ≡ moved (renumber table others) 0 w
one_world table states others v w a b e =
    let at : (p : Pos) → slice_index_or states (v.at p) air ≡ slice_index_or others (w.at p) air = λ p. ap (λ x. x.at p) e in
    let n : (p : Pos) → renumber table states (v.at p) ≡ renumber table others (w.at p) = λ p. one_number table states others (v.at p) (w.at p) (a p) (b p) (at p) in
    λ i. record { height = (e i).height; chunks = (e i).chunks; at = λ p. n p i; lists = λ c. map (later 0) ((e i).lists c) }

abbrev head_or : {X : Type 0} → X → List X → X
head_or x [] = x
head_or x (z ∷ zs) = z

abbrev tail_of : {X : Type 0} → List X → List X
tail_of [] = []
tail_of (z ∷ zs) = zs

abbrev is_cons : {X : Type 0} → List X → Bool
is_cons [] = false
is_cons (x ∷ xs) = true

one_set : (table states others : List BlockState) (e d : Set ℕ) → e.what < length states → d.what < length others → stated_set states e ≡ stated_set others d → moved_set (renumber table states) 0 e ≡ moved_set (renumber table others) 0 d
one_set table states others e d a b h =
    let n = one_number table states others e.what d.what a b (ap (λ x. x.what) h) in
    λ i. record { tick = (h i).tick + 0; pos = (h i).pos; what = n i }

one_list : (table states others : List BlockState) (es ds : List (Set ℕ)) → AllByRecursion (λ e. e.what < length states) es → AllByRecursion (λ e. e.what < length others) ds → map (stated_set states) es ≡ map (stated_set others) ds
    → map (moved_set (renumber table states) 0) es ≡ map (moved_set (renumber table others) 0) ds
one_list table states others [] [] a b h = refl
one_list table states others [] (d ∷ ds) a b h = absurd (false≢true (ap is_cons h))
one_list table states others (e ∷ es) [] a b h = absurd (true≢false (ap is_cons h))
one_list table states others (e ∷ es) (d ∷ ds) a b h =
    let x = one_set table states others e d a.0 b.0 (ap (head_or (stated_set states e)) h) in
    let xs = one_list table states others es ds a.1 b.1 (ap tail_of h) in
    λ i. x i ∷ xs i

-- air and water keep their numbers
first_kept : (table states : List BlockState) → IsStateList states → ((m : ℕ) → m < 10 → (x : BlockState) → slice_get first_states m ≡ Some x → number_in table x ≡ Some m) → KeepsFirst (renumber table states)
first_kept table states list firsts m less =
    let is = first_state m less in
    let here : slice_get states m ≡ Some is.state = ap (λ xs. slice_get xs m) (list-begins states list) ∙ slice_get-append first_states (drop 10 states) m is.state is.is_there in
    ap (number_or_past table) here ∙ ap (or_else (length table)) (firsts m less is.state is.is_there)

-- the states of two tables, one after the other
left_has : (xs ys : List BlockState) → Has (xs ++ ys) xs
left_has xs ys i s h = (i, slice_get-append xs ys i s h)

right_at : (xs ys : List BlockState) (i : ℕ) → slice_get (xs ++ ys) (length xs + i) ≡ slice_get ys i
right_at [] ys i = ap (slice_get ys) (let e : 0 + i ≡ i = omega arith in e)
right_at (x ∷ xs) ys i = ap (slice_get (x ∷ xs ++ ys)) (let e : suc (length xs) + i ≡ suc (length xs + i) = omega arith in e) ∙ right_at xs ys i

right_has : (xs ys : List BlockState) → Has (xs ++ ys) ys
right_has xs ys i s h = (length xs + i, right_at xs ys i ∙ h)

-- the run by a table, as the run by another table that has its states
run_by : (t : BlockTable) (table states : List BlockState) (es : List (Set ℕ)) (n : ℕ) (w : Land ℕ) → Has table states → KeepsFirst (renumber table states)
    → stated states (run (kinds_in t states) es n w) ≡ stated table (run_after (kinds_in t table) 0 (map (moved_set (renumber table states) 0) es) n (moved (renumber table states) 0 w))
run_by t table states es n w has keeps =
    let f = renumber table states in
    ap (λ k. stated states (run k es n w)) (same_kind t table states has)
    ∙ sym (same_stated table states has (run (λ i. kinds_in t table (f i)) es n w))
    ∙ ap (stated table) (sym (run_moved (kinds_in t table) f 0 es n w keeps))

count_by : (t : BlockTable) (table states : List BlockState) (es : List (Set ℕ)) (n : ℕ) (w : Land ℕ) → Has table states → KeepsFirst (renumber table states)
    → run_count (kinds_in t states) es n w ≡ count_after (kinds_in t table) 0 (map (moved_set (renumber table states) 0) es) n (moved (renumber table states) 0 w)
count_by t table states es n w has keeps =
    let f = renumber table states in
    ap (λ k. run_count k es n w) (same_kind t table states has) ∙ sym (count_moved (kinds_in t table) f 0 es n w keeps)

pub one_run : OneRun
one_run t w es n v u c d a b =
    let xs = a.states in
    let ys = b.states in
    let table = xs ++ ys in
    let firsts : (m : ℕ) → m < 10 → (x : BlockState) → slice_get first_states m ≡ Some x → number_in table x ≡ Some m = λ m less x is. number_in-append xs ys x m (number_in-first xs a.numbered.list m less x is) in
    let keeps_x = first_kept table xs a.numbered.list firsts in
    let keeps_y = first_kept table ys b.numbered.list firsts in
    let worlds = one_world table xs ys a.numbers b.numbers a.numbered.blocks b.numbered.blocks (sym a.from ∙ b.from) in
    let sets = one_list table xs ys a.sets b.sets a.numbered.edits b.numbered.edits (sym a.edits ∙ b.edits) in (
      a.to ∙ run_by t table xs a.sets n a.numbers (left_has xs ys) keeps_x
          ∙ (λ i. stated table (run_after (kinds_in t table) 0 (sets i) n (worlds i)))
          ∙ sym (run_by t table ys b.sets n b.numbers (right_has xs ys) keeps_y) ∙ sym b.to,
      a.counted ∙ count_by t table xs a.sets n a.numbers (left_has xs ys) keeps_x
          ∙ (λ i. count_after (kinds_in t table) 0 (sets i) n (worlds i))
          ∙ sym (count_by t table ys b.sets n b.numbers (right_has xs ys) keeps_y) ∙ sym b.counted,
    )
