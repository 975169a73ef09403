-- Ticks in which nothing is to be done, and edits in another order.
use Rattle.std.proofs.Common.{◌≡◌, ◌∙◌, ℕ, zero, suc, ◌+◌, ◌<◌, ◌≤◌, ℤ, pos, ◌≤ℤ◌, int_le, nat_eq, nat_lt, List, [], ◌∷◌, ◌++◌, Bool, true, false, not, cond, refl, ap, sym, arith, true≢false}
use Rattle.std.specs.Prelude.{length}
use Rattle.std.specs.List.{filter, flat_map}
use Rattle.std.specs.Ordering.{is_lt, nat_cmp}
use Rattle.std.specs.declared.cmp.Ordering.TheVariants.{Less, Equal, Greater}
use Rattle.std.proofs.lemmas.Int.{ints}
use Rattle.std.proofs.lemmas.Bool.Decides.{nat_tests}
use Rattle.av_types.specs.declared.position.ChunkPos.{ChunkPos}
use Rattle.av_types.specs.declared.tick.Entry.{Entry}
use Rattle.av_ticks.specs.Entries.{is_due, due_order}
use Rattle.av_types.specs.Order.{inserted, ordered}
use Rattle.av_cells.specs.declared.kind.Kind.{Kind}
use Rattle.av_land.specs.Land.{Land}
use Rattle.av_cells.specs.Sets.{Set}
use Rattle.av_land.specs.Tick.{edited, due_entries, without_due, turned_all, ticked, tick_count, run_after}
use Rattle.av_land.specs.Idle.{edits_at, NothingDue, TicksIdly, NothingDueBefore, OtherEditsDoNothing, RunByTicks, tick_order, RunSorted}
use Rattle.av_land.proofs.Resumed.{filtered}

-- ---- edits of other ticks

own : (k : ℕ → Kind) (now : ℕ) (es : List (Set ℕ)) (w : Land ℕ) → edited k now es w ≡ edited k now (edits_at now es) w
own k now es w = filtered k now (λ e. nat_eq e.tick now) (λ e h. h) es w

same_edited : (k : ℕ → Kind) (now : ℕ) (es fs : List (Set ℕ)) (w : Land ℕ) → edits_at now es ≡ edits_at now fs → edited k now es w ≡ edited k now fs w
same_edited k now es fs w h = own k now es w ∙ ap (λ xs. edited k now xs w) h ∙ sym (own k now fs w)

pub other_edits : OtherEditsDoNothing
other_edits k now es fs w h = let e = same_edited k now es fs w h in record {
  world = ap (λ v. turned_all k now (due_entries now v) (without_due now v)) e;
  count = ap (λ v. length (due_entries now v)) e;
}

-- ---- nothing due

none_of_lists : (now : ℕ) (l : ChunkPos → List Entry) (cs : List ChunkPos) → ((c : ChunkPos) → filter (is_due now) (l c) ≡ []) → filter (is_due now) (flat_map l cs) ≡ []
none_of_lists now l [] h = refl
none_of_lists now l (c ∷ cs) h = filter_append (is_due now) (l c) (flat_map l cs) ∙ ap (λ xs. xs ++ filter (is_due now) (flat_map l cs)) (h c) ∙ none_of_lists now l cs h where
  filter_append : (p : Entry → Bool) (xs ys : List Entry) → filter p (xs ++ ys) ≡ filter p xs ++ filter p ys
  filter_append p [] ys = refl
  filter_append p (x ∷ xs) ys = by (p x) (filter_append p xs ys) where
    by : (b : Bool) → filter p (xs ++ ys) ≡ filter p xs ++ filter p ys → cond b (x ∷ filter p (xs ++ ys)) (filter p (xs ++ ys)) ≡ cond b (x ∷ filter p xs) (filter p xs) ++ filter p ys
    by true r = ap (λ zs. x ∷ zs) r
    by false r = r

pub all_stay : (now : ℕ) (xs : List Entry) → filter (is_due now) xs ≡ [] → filter (λ e. not (is_due now e)) xs ≡ xs
all_stay now [] h = refl
all_stay now (x ∷ xs) h = by (is_due now x) h (all_stay now xs) where
  by : (b : Bool) → cond b (x ∷ filter (is_due now) xs) (filter (is_due now) xs) ≡ [] → (filter (is_due now) xs ≡ [] → filter (λ e. not (is_due now e)) xs ≡ xs)
      → cond (not b) (x ∷ filter (λ e. not (is_due now e)) xs) (filter (λ e. not (is_due now e)) xs) ≡ x ∷ xs
  by true g rest = cc
  by false g rest = ap (λ zs. x ∷ zs) (rest g)

none_due : (now : ℕ) (w : Land ℕ) → NothingDue now w → due_entries now w ≡ []
none_due now w h = ap (ordered due_order) (none_of_lists now w.lists w.chunks h)

stays : (now : ℕ) (w : Land ℕ) → NothingDue now w → without_due now w ≡ w
stays now w h = λ i. record { height = w.height; chunks = w.chunks; at = w.at; lists = λ c. all_stay now (w.lists c) (h c) i }

pub ticks_idly : TicksIdly
ticks_idly k now es w none h =
    let same = other_edits k now es [] w none in
    record {
      world = same.world ∙ ap (λ d. turned_all k now d (without_due now w)) (none_due now w h) ∙ stays now w h;
      count = same.count ∙ ap length (none_due now w h);
    }

not_sooner : (z : ℤ) (now n : ℕ) → now ≤ n → int_le z (pos n) ≡ false → int_le z (pos now) ≡ false
not_sooner z now n le h = by (int_le z (pos now)) refl where
  by : (b : Bool) → int_le z (pos now) ≡ b → b ≡ false
  by false e = refl
  by true e = let u : z ≤ℤ pos now = grind (arith, ints) in let v : z ≤ℤ pos n = omega (arith, ints) in absurd (true≢false (sym (let t : int_le z (pos n) ≡ true = grind (arith, ints) in t) ∙ h))

pub nothing_due_before : NothingDueBefore
nothing_due_before now n w le h c = go (w.lists c) (h c) where
  go : (xs : List Entry) → filter (is_due n) xs ≡ [] → filter (is_due now) xs ≡ []
  go [] g = refl
  go (x ∷ xs) g = by (is_due n x) refl g (go xs) where
    by : (b : Bool) → is_due n x ≡ b → cond b (x ∷ filter (is_due n) xs) (filter (is_due n) xs) ≡ [] → (filter (is_due n) xs ≡ [] → filter (is_due now) xs ≡ [])
        → cond (is_due now x) (x ∷ filter (is_due now) xs) (filter (is_due now) xs) ≡ []
    by true e g rest = cc
    by false e g rest = ap (λ b. cond b (x ∷ filter (is_due now) xs) (filter (is_due now) xs)) (not_sooner x.due now n le e) ∙ rest g

-- ---- runs

pub run_by_ticks : RunByTicks
run_by_ticks k es fs zero w h = record { world = refl; count = refl }
run_by_ticks k es fs (suc m) w h =
    let before = run_by_ticks k es fs m w h in
    let this = other_edits k (suc m + 0) es fs (run_after k 0 es m w) (h (suc m + 0)) in
    record {
      world = this.world ∙ ap (λ v. ticked k (suc m + 0) fs v) before.world;
      count = let c : tick_count k (suc m + 0) es (run_after k 0 es m w) ≡ tick_count k (suc m + 0) fs (run_after k 0 fs m w) = this.count ∙ ap (λ v. tick_count k (suc m + 0) fs v) before.world in
          λ i. before.count i + c i;
    }

less_by : (b c : Bool) → is_lt (cond b Less (cond c Equal Greater)) ≡ true → b ≡ true
less_by true c h = refl
less_by false true h = h
less_by false false h = h

less_is_not : (t a b : ℕ) → is_lt (nat_cmp a b) ≡ true → nat_eq a t ≡ true → nat_eq b t ≡ true → true ≡ false
less_is_not t a b h p q =
    let l : nat_lt a b ≡ true = less_by (nat_lt a b) (nat_eq a b) h in
    let less : a < b = grind (arith, nat_tests) in
    let x : a ≡ t = grind (arith, nat_tests) in
    let y : b ≡ t = grind (arith, nat_tests) in
    absurd (omega arith)

swapped : (x y : Set ℕ) (a b : Bool) (r : List (Set ℕ)) → (a ≡ true → b ≡ true → true ≡ false) → cond a (y ∷ cond b (x ∷ r) r) (cond b (x ∷ r) r) ≡ cond b (x ∷ cond a (y ∷ r) r) (cond a (y ∷ r) r)
swapped x y true true r other = absurd (true≢false (other refl refl))
swapped x y true false r other = refl
swapped x y false b r other = refl

-- an edit put into its place by tick stands before the others of its tick
at_inserted : (t : ℕ) (x : Set ℕ) (ys : List (Set ℕ)) → edits_at t (inserted tick_order x ys) ≡ edits_at t (x ∷ ys)
at_inserted t x [] = refl
at_inserted t x (y ∷ ys) = by (is_lt (tick_order y x)) refl (at_inserted t x ys) where
  by : (b : Bool) → is_lt (tick_order y x) ≡ b → edits_at t (inserted tick_order x ys) ≡ edits_at t (x ∷ ys)
      → edits_at t (cond b (y ∷ inserted tick_order x ys) (x ∷ y ∷ ys)) ≡ edits_at t (x ∷ y ∷ ys)
  by true e rest =
      ap (λ zs. cond (nat_eq y.tick t) (y ∷ zs) zs) rest
      ∙ swapped x y (nat_eq y.tick t) (nat_eq x.tick t) (edits_at t ys) (λ p q. less_is_not t y.tick x.tick e p q)
  by false e rest = refl

at_ordered : (t : ℕ) (es : List (Set ℕ)) → edits_at t (ordered tick_order es) ≡ edits_at t es
at_ordered t [] = refl
at_ordered t (x ∷ xs) = at_inserted t x (ordered tick_order xs) ∙ ap (λ zs. cond (nat_eq x.tick t) (x ∷ zs) zs) (at_ordered t xs)

pub run_sorted : RunSorted
run_sorted k es n w = run_by_ticks k (ordered tick_order es) es n w (λ t. at_ordered t es)
