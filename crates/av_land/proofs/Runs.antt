-- A tick and a run of a world with other numbers, so many ticks later.
use Rattle.std.proofs.Common.{◌≡◌, ◌∙◌, ℕ, zero, suc, ◌+◌, ℤ, pos, ◌+ℤ◌, ◌<ℤ◌, ◌≤ℤ◌, nat_eq, List, [], ◌∷◌, ◌++◌, Bool, true, false, not, ◌&&◌, cond, refl, ap, sym, arith}
use Rattle.std.specs.Prelude.{map, int_le, length}
use Rattle.std.specs.List.{flat_map, filter}
use Rattle.std.specs.Ordering.{is_lt, int_cmp, ordering_then, MatchOrdering}
use Rattle.std.specs.Cmp.{int_cmp_is, int_ranks}
use Rattle.std.specs.declared.cmp.Ordering.{Ordering}
use Rattle.std.specs.declared.cmp.Ordering.TheVariants.{Less, Equal, Greater}
use Rattle.std.proofs.lemmas.Bool.Decides.{nat_tests}
use Rattle.std.proofs.lemmas.Int.{ints}
use Rattle.std.proofs.lemmas.List.{map_push, map-append, length-map}
use Rattle.av_types.specs.Positions.{chunk_of}
use Rattle.av_types.specs.declared.position.Pos.{Pos}
use Rattle.av_types.specs.declared.position.ChunkPos.{ChunkPos}
use Rattle.av_types.specs.declared.tick.Entry.{Entry}
use Rattle.av_ticks.specs.Entries.{same_pos, is_pending, is_due, due_order}
use Rattle.av_types.specs.Order.{inserted, ordered}
use Rattle.av_cells.specs.declared.kind.Kind.{Kind}
use Rattle.av_cells.specs.Positions.{same_chunk}
use Rattle.av_cells.specs.World.{Lists, listed_if, listed_all}
use Rattle.av_cells.specs.Turn.{Change, change, set_awake, turn}
use Rattle.av_land.specs.Land.{Land, is_loaded, cells_of}
use Rattle.av_cells.specs.Sets.{Set}
use Rattle.av_land.specs.Tick.{after, turned, set_in, edited, due_entries, without_due, turned_all, ticked, tick_count, run_after}
use Rattle.av_land.specs.Moved.{later, renumbered, moved_change, moved, moved_set, KeepsFirst, RunMoves, CountMoves}
use Rattle.av_land.proofs.Turns.{turn_moved, set_awake_moved}

pub pending_later : (n : ℕ) (p : Pos) (es : List Entry) → is_pending p (map (later n) es) ≡ is_pending p es
pending_later n p [] = refl
pending_later n p (e ∷ es) = ap (λ b. cond (same_pos p e.pos) true b) (pending_later n p es)

pub cells_moved : (f : ℕ → ℕ) (n : ℕ) (w : Land ℕ) → cells_of (moved f n w) ≡ renumbered f (cells_of w)
cells_moved f n w = λ i. record { loaded = is_loaded w; number = λ p. f (w.at p); pending = λ p. is_loaded w p && pending_later n p (w.lists (chunk_of p)) i }

listed_one : (n : ℕ) (b : Bool) (es : List Entry) (e : Entry) → cond b (map (later n) es ++ later n e ∷ []) (map (later n) es) ≡ map (later n) (cond b (es ++ e ∷ []) es)
listed_one n true es e = sym (map_push (later n) es e)
listed_one n false es e = refl

abbrev pub later_lists : ℕ → Lists → Lists
later_lists n lists c = map (later n) (lists c)

listed_moved : (n : ℕ) (made : List Entry) (lists : Lists) → listed_all (later_lists n lists) (map (later n) made) ≡ later_lists n (listed_all lists made)
listed_moved n [] lists = refl
listed_moved n (e ∷ es) lists =
    let one : listed_if true (later_lists n lists) (later n e) ≡ later_lists n (listed_if true lists e) = λ i c. listed_one n (true && same_chunk c (chunk_of e.pos)) (lists c) e i in
    ap (λ ls. listed_all ls (map (later n) es)) one ∙ listed_moved n es (listed_if true lists e)

after_moved : (f : ℕ → ℕ) (n : ℕ) (w : Land ℕ) (c : Change) → after (moved f n w) (moved_change f n c) ≡ moved f n (after w c)
after_moved f n w c =
    let l = listed_moved n c.made w.lists in
    λ i. record { height = w.height; chunks = w.chunks; at = λ p. f (c.world.number p); lists = l i }

turned_moved : (k : ℕ → Kind) (f : ℕ → ℕ) (n now : ℕ) (p : Pos) (w : Land ℕ) → KeepsFirst f
    → turned k (now + n) p (moved f n w) ≡ moved f n (turned (λ m. k (f m)) now p w)
turned_moved k f n now p w keeps =
    ap (λ v. after (moved f n w) (turn k (now + n) p v)) (cells_moved f n w)
    ∙ ap (λ c. after (moved f n w) c) (turn_moved k f n now p (cells_of w) keeps)
    ∙ after_moved f n w (turn (λ m. k (f m)) now p (cells_of w))

set_in_moved : (k : ℕ → Kind) (f : ℕ → ℕ) (n now : ℕ) (p : Pos) (m : ℕ) (w : Land ℕ)
    → set_in k (now + n) p (f m) (moved f n w) ≡ moved f n (set_in (λ m. k (f m)) now p m w)
set_in_moved k f n now p m w =
    ap (λ v. after (moved f n w) (set_awake k (now + n) p (f m) (change v []))) (cells_moved f n w)
    ∙ ap (λ c. after (moved f n w) c) (set_awake_moved k f n now p m (change (cells_of w) []))
    ∙ after_moved f n w (set_awake (λ m. k (f m)) now p m (change (cells_of w) []))

same_tick : (a b n : ℕ) → nat_eq (a + n) (b + n) ≡ nat_eq a b
same_tick a b n = grind (arith, nat_tests)

if_same : {X : Type 0} (b c : Bool) (x y u v : X) → b ≡ c → x ≡ u → y ≡ v → cond b x y ≡ cond c u v
if_same b c x y u v e g h = λ i. cond (e i) (g i) (h i)

if_of : {X Y : Type 0} (g : X → Y) (b : Bool) (x y : X) → cond b (g x) (g y) ≡ g (cond b x y)
if_of g true x y = refl
if_of g false x y = refl

edited_moved : (k : ℕ → Kind) (f : ℕ → ℕ) (n now : ℕ) (es : List (Set ℕ)) (w : Land ℕ)
    → edited k (now + n) (map (moved_set f n) es) (moved f n w) ≡ moved f n (edited (λ m. k (f m)) now es w)
edited_moved k f n now [] w = refl
edited_moved k f n now (e ∷ es) w =
    let one : cond (nat_eq (e.tick + n) (now + n)) (set_in k (now + n) e.pos (f e.what) (moved f n w)) (moved f n w) ≡ moved f n (cond (nat_eq e.tick now) (set_in (λ m. k (f m)) now e.pos e.what w) w) =
    if_same _ _ _ _ (moved f n (set_in (λ m. k (f m)) now e.pos e.what w)) (moved f n w) (same_tick e.tick now n) (set_in_moved k f n now e.pos e.what w) refl
    ∙ if_of (moved f n) (nat_eq e.tick now) (set_in (λ m. k (f m)) now e.pos e.what w) w in
    ap (λ v. edited k (now + n) (map (moved_set f n) es) v) one
    ∙ edited_moved k f n now es (cond (nat_eq e.tick now) (set_in (λ m. k (f m)) now e.pos e.what w) w)

-- ---- the due entries

same_tests : (n : ℕ) (x y : ℤ) (a b : Bool) → int_le (x +ℤ pos n) (y +ℤ pos n) ≡ a → int_le x y ≡ b → a ≡ b
same_tests n x y true true g h = refl
same_tests n x y false false g h = refl
same_tests n x y true false g h = let u : (x +ℤ pos n) ≤ℤ (y +ℤ pos n) = grind (arith, ints) in let v : y <ℤ x = grind (arith, ints) in absurd (omega (arith, ints))
same_tests n x y false true g h = let u : (y +ℤ pos n) <ℤ (x +ℤ pos n) = grind (arith, ints) in let v : x ≤ℤ y = grind (arith, ints) in absurd (omega (arith, ints))

due_moved : (n now : ℕ) (e : Entry) → is_due (now + n) (later n e) ≡ is_due now e
due_moved n now e = same_tests n e.due (pos now) (int_le (e.due +ℤ pos n) (pos (now + n))) (int_le e.due (pos now)) refl refl

ranks_down : (n : ℕ) (x y : ℤ) (o : Ordering) → MatchOrdering o ((x +ℤ pos n) <ℤ (y +ℤ pos n)) ((x +ℤ pos n) ≡ (y +ℤ pos n)) ((y +ℤ pos n) <ℤ (x +ℤ pos n)) → MatchOrdering o (x <ℤ y) (x ≡ y) (y <ℤ x)
ranks_down n x y Less h = omega (arith, ints)
ranks_down n x y Equal h = omega (arith, ints)
ranks_down n x y Greater h = omega (arith, ints)

order_moved : (n : ℕ) (a b : Entry) → due_order (later n a) (later n b) ≡ due_order a b
order_moved n a b =
    let c : int_cmp (a.due +ℤ pos n) (b.due +ℤ pos n) ≡ int_cmp a.due b.due = (int_cmp_is a.due b.due (int_cmp (a.due +ℤ pos n) (b.due +ℤ pos n)) (ranks_down n a.due b.due (int_cmp (a.due +ℤ pos n) (b.due +ℤ pos n)) (int_ranks (a.due +ℤ pos n) (b.due +ℤ pos n)))) in
    ap (λ o. ordering_then o (int_cmp a.priority b.priority)) c

filter_map_same : {X Y : Type 0} (g : X → Y) (p : Y → Bool) (q : X → Bool) → ((x : X) → p (g x) ≡ q x) → (xs : List X) → filter p (map g xs) ≡ map g (filter q xs)
filter_map_same g p q h [] = refl
filter_map_same g p q h (x ∷ xs) =
    if_same (p (g x)) (q x) _ _ (map g (x ∷ filter q xs)) (map g (filter q xs)) (h x) (ap (λ r. g x ∷ r) (filter_map_same g p q h xs)) (filter_map_same g p q h xs)
    ∙ if_of (map g) (q x) (x ∷ filter q xs) (filter q xs)

flat_map_map : {X A B : Type 0} (g : A → B) (l : X → List A) (xs : List X) → flat_map (λ x. map g (l x)) xs ≡ map g (flat_map l xs)
flat_map_map g l [] = refl
flat_map_map g l (x ∷ xs) = ap (λ r. map g (l x) ++ r) (flat_map_map g l xs) ∙ sym (map-append g (l x) (flat_map l xs))

inserted_map : {X : Type 0} (g : X → X) (cmp : X → X → Ordering) → ((x y : X) → cmp (g x) (g y) ≡ cmp x y) → (x : X) (ys : List X) → inserted cmp (g x) (map g ys) ≡ map g (inserted cmp x ys)
inserted_map g cmp h x [] = refl
inserted_map g cmp h x (y ∷ ys) =
    if_same (is_lt (cmp (g y) (g x))) (is_lt (cmp y x)) _ _ (map g (y ∷ inserted cmp x ys)) (map g (x ∷ y ∷ ys)) (ap is_lt (h y x)) (ap (λ r. g y ∷ r) (inserted_map g cmp h x ys)) refl
    ∙ if_of (map g) (is_lt (cmp y x)) (y ∷ inserted cmp x ys) (x ∷ y ∷ ys)

ordered_map : {X : Type 0} (g : X → X) (cmp : X → X → Ordering) → ((x y : X) → cmp (g x) (g y) ≡ cmp x y) → (xs : List X) → ordered cmp (map g xs) ≡ map g (ordered cmp xs)
ordered_map g cmp h [] = refl
ordered_map g cmp h (x ∷ xs) = ap (λ r. inserted cmp (g x) r) (ordered_map g cmp h xs) ∙ inserted_map g cmp h x (ordered cmp xs)

due_entries_moved : (f : ℕ → ℕ) (n now : ℕ) (w : Land ℕ) → due_entries (now + n) (moved f n w) ≡ map (later n) (due_entries now w)
due_entries_moved f n now w =
    ap (λ es. ordered due_order (filter (is_due (now + n)) es)) (flat_map_map (later n) w.lists w.chunks)
    ∙ ap (λ es. ordered due_order es) (filter_map_same (later n) (is_due (now + n)) (is_due now) (due_moved n now) (flat_map w.lists w.chunks))
    ∙ ordered_map (later n) due_order (order_moved n) (filter (is_due now) (flat_map w.lists w.chunks))

without_due_moved : (f : ℕ → ℕ) (n now : ℕ) (w : Land ℕ) → without_due (now + n) (moved f n w) ≡ moved f n (without_due now w)
without_due_moved f n now w =
    let l : (c : ChunkPos) → filter (λ e. not (is_due (now + n) e)) (map (later n) (w.lists c)) ≡ map (later n) (filter (λ e. not (is_due now e)) (w.lists c))
    = λ c. filter_map_same (later n) (λ e. not (is_due (now + n) e)) (λ e. not (is_due now e)) (λ e. ap not (due_moved n now e)) (w.lists c) in
    λ i. record { height = w.height; chunks = w.chunks; at = λ p. f (w.at p); lists = λ c. l c i }

turned_all_moved : (k : ℕ → Kind) (f : ℕ → ℕ) (n now : ℕ) (es : List Entry) (w : Land ℕ) → KeepsFirst f
    → turned_all k (now + n) (map (later n) es) (moved f n w) ≡ moved f n (turned_all (λ m. k (f m)) now es w)
turned_all_moved k f n now [] w keeps = refl
turned_all_moved k f n now (e ∷ es) w keeps =
    ap (λ v. turned_all k (now + n) (map (later n) es) v) (turned_moved k f n now e.pos w keeps)
    ∙ turned_all_moved k f n now es (turned (λ m. k (f m)) now e.pos w) keeps

pub ticked_moved : (k : ℕ → Kind) (f : ℕ → ℕ) (n now : ℕ) (es : List (Set ℕ)) (w : Land ℕ) → KeepsFirst f
    → ticked k (now + n) (map (moved_set f n) es) (moved f n w) ≡ moved f n (ticked (λ m. k (f m)) now es w)
ticked_moved k f n now es w keeps =
    let g : ℕ → Kind = λ m. k (f m) in
    let v = edited g now es w in
    ap (λ x. turned_all k (now + n) (due_entries (now + n) x) (without_due (now + n) x)) (edited_moved k f n now es w)
    ∙ ap (λ x. turned_all k (now + n) x (without_due (now + n) (moved f n v))) (due_entries_moved f n now v)
    ∙ ap (λ x. turned_all k (now + n) (map (later n) (due_entries now v)) x) (without_due_moved f n now v)
    ∙ turned_all_moved k f n now (due_entries now v) (without_due now v) keeps

pub run_moved : RunMoves
run_moved k f n es zero w keeps = refl
run_moved k f n es (suc m) w keeps =
    let g : ℕ → Kind = λ m. k (f m) in
    let now : suc m + n ≡ (suc m + 0) + n = omega arith in
    ap (λ t. ticked k t (map (moved_set f n) es) (run_after k n (map (moved_set f n) es) m (moved f n w))) now
    ∙ ap (λ v. ticked k ((suc m + 0) + n) (map (moved_set f n) es) v) (run_moved k f n es m w keeps)
    ∙ ticked_moved k f n (suc m + 0) es (run_after g 0 es m w) keeps

pub count_moved : CountMoves
count_moved k f n es zero w keeps = refl
count_moved k f n es (suc m) w keeps =
    let g : ℕ → Kind = λ m. k (f m) in
    let now : suc m + n ≡ (suc m + 0) + n = omega arith in
    let v = run_after g 0 es m w in
    let this : tick_count k (suc m + n) (map (moved_set f n) es) (run_after k n (map (moved_set f n) es) m (moved f n w)) ≡ tick_count g (suc m + 0) es v =
    ap (λ t. tick_count k t (map (moved_set f n) es) (run_after k n (map (moved_set f n) es) m (moved f n w))) now
    ∙ ap (λ x. tick_count k ((suc m + 0) + n) (map (moved_set f n) es) x) (run_moved k f n es m w keeps)
    ∙ ap (λ x. length (due_entries ((suc m + 0) + n) x)) (edited_moved k f n (suc m + 0) es v)
    ∙ ap length (due_entries_moved f n (suc m + 0) (edited g (suc m + 0) es v))
    ∙ length-map (due_entries (suc m + 0) (edited g (suc m + 0) es v)) (later n) in
    λ i. count_moved k f n es m w keeps i + this i
