-- What ticks keep.
use Rattle.std.proofs.Common.{◌≡◌, ◌∙◌, ℕ, zero, suc, ◌+◌, ◌<◌, ◌≤◌, ℤ, pos, ◌<ℤ◌, nat_eq, List, [], ◌∷◌, ◌++◌, Bool, true, false, not, ◌&&◌, cond, refl, ap, sym, subst, arith}
use Rattle.std.specs.Int.{w32}
use Rattle.std.specs.Int.RustNames.{FitsSigned}
use Rattle.std.specs.Prelude.{int_le}
use Rattle.std.proofs.Common.{rules}
use Rattle.std.specs.List.{AllByRecursion, filter}
use Rattle.std.proofs.lemmas.Int.{ints}
use Rattle.std.proofs.lemmas.Bool.{and_parts, and_from, true≢false, false≢true, not-true, cond_both}
use Rattle.av_ticks.proofs.Lookup.{are_apart-push}
use Rattle.av_types.specs.Positions.{chunk_of, is_block_of}
use Rattle.av_types.specs.declared.position.Pos.{Pos}
use Rattle.av_types.specs.declared.position.ChunkPos.{ChunkPos}
use Rattle.av_types.specs.declared.tick.Entry.{Entry}
use Rattle.av_types.proofs.SamePositions.{same_pos-refl, same_chunk-refl, same_chunk_is, same_pos_is}
use Rattle.av_ticks.specs.Entries.{is_pending, are_apart, is_due}
use Rattle.av_ticks.proofs.Kept.{are_apart-filter}
use Rattle.av_cells.specs.declared.kind.Kind.{Kind}
use Rattle.av_cells.specs.Positions.{same_pos, same_chunk}
use Rattle.av_cells.specs.World.{Lists, with_entry_if, listed_if, listed_all}
use Rattle.av_cells.specs.Turn.{Change, change, entry_of, set_awake, turn}
use Rattle.av_land.specs.Land.{Land, has_chunk, is_loaded, cells_of}
use Rattle.av_cells.specs.Sets.{Set}
use Rattle.av_land.specs.Tick.{after, turned, set_in, edited, due_entries, without_due, turned_all, ticked, run_after}
use Rattle.av_land.specs.Good.{IsEntryOf, Good, IsTimely, HasIntCoordinates, IsSetOf, RunKeeps}
use Rattle.av_land.proofs.Steps.{IsClosed, turn_keeps, set_keeps}

abbrev land_of : Land ℕ → (Pos → ℕ) → Lists → Land ℕ
land_of w at lists = record { height = w.height; chunks = w.chunks; at = at; lists = lists }

-- a change of w keeps it good
record Through (count : ℕ) (Q : Entry → Type 0) (w : Land ℕ) (c : Change) : Type 0 where
  loaded : c.world.loaded ≡ is_loaded w
  lists : Lists
  are : listed_all w.lists c.made ≡ lists
  pending : (q : Pos) → c.world.pending q ≡ (is_loaded w q && is_pending q (lists (chunk_of q)))
  good : Good count Q (land_of w c.world.number lists)

-- ---- a set

other_pos : (L : Pos → Bool) (q p : Pos) (b : Bool) → same_pos q p ≡ b → L p ≡ true → L q ≡ false → b ≡ false
other_pos L q p true e l u = absurd (true≢false (sym l ∙ ap L (sym (same_pos_is q p e)) ∙ u))
other_pos L q p false e l u = refl

set_good : (count : ℕ) (Q : Entry → Type 0) (w : Land ℕ) (at : Pos → ℕ) (lists : Lists) (p : Pos) (m : ℕ) → m < count → is_loaded w p ≡ true → Good count Q (land_of w at lists)
    → Good count Q (land_of w (λ q. cond (same_pos q p) m (at q)) lists)
set_good count Q w at lists p m less l g = record {
  numbers = λ q. cond_both (same_pos q p) m (at q) (λ n. n < count) (λ _. less) (λ _. g.numbers q);
  unloaded = λ q u. ap (λ b. cond b m (at q)) (other_pos (is_loaded w) q p (same_pos q p) refl l u) ∙ g.unloaded q u;
  none = g.none;
  entries = g.entries;
  apart = g.apart;
}

-- ---- an entry

other_way : (p q : Pos) (b : Bool) → same_pos q p ≡ b → same_pos p q ≡ false → b ≡ false
other_way p q true e h = absurd (true≢false (sym (same_pos-refl p) ∙ ap (λ x. same_pos p x) (sym (same_pos_is q p e)) ∙ h))
other_way p q false e h = refl

pushed_here : (p : Pos) (es : List Entry) (e : Entry) → same_pos p e.pos ≡ true → is_pending p (es ++ e ∷ []) ≡ true
pushed_here p [] e h = ap (λ b. cond b true false) h
pushed_here p (x ∷ es) e h = by (same_pos p x.pos) (pushed_here p es e h) where
  by : (b : Bool) → is_pending p (es ++ e ∷ []) ≡ true → cond b true (is_pending p (es ++ e ∷ [])) ≡ true
  by true r = refl
  by false r = r

pushed_other : (p : Pos) (es : List Entry) (e : Entry) → same_pos p e.pos ≡ false → is_pending p (es ++ e ∷ []) ≡ is_pending p es
pushed_other p [] e h = ap (λ b. cond b true false) h
pushed_other p (x ∷ es) e h = ap (λ r. cond (same_pos p x.pos) true r) (pushed_other p es e h)

apart_parts : (b r : Bool) → cond b false r ≡ true → (b ≡ false) × (r ≡ true)
apart_parts true r h = absurd (false≢true h)
apart_parts false r h = (refl, h)

pub pushed_all : (P : Entry → Type 0) (es : List Entry) (e : Entry) → AllByRecursion P es → P e → AllByRecursion P (es ++ e ∷ [])
pushed_all P [] e h p = (p, tt)
pushed_all P (x ∷ es) e h p = (h.0, pushed_all P es e h.1 p)

listed_all-push : (es : List Entry) (e : Entry) (lists : Lists) → listed_all lists (es ++ e ∷ []) ≡ listed_if true (listed_all lists es) e
listed_all-push [] e lists = refl
listed_all-push (x ∷ es) e lists = listed_all-push es e (listed_if true lists x)

chunk_is_loaded : (w : Land ℕ) (p : Pos) → is_loaded w p ≡ true → has_chunk w.chunks (chunk_of p) ≡ true
chunk_is_loaded w p l = (and_parts (has_chunk w.chunks (chunk_of p)) _ l).0

none_if : (w : Land ℕ) (lists : Lists) (c : ChunkPos) (e : Entry) (b : Bool) → same_chunk c (chunk_of e.pos) ≡ b → is_loaded w e.pos ≡ true → has_chunk w.chunks c ≡ false → lists c ≡ []
    → cond b (lists c ++ e ∷ []) (lists c) ≡ []
none_if w lists c e true s l u h = absurd (true≢false (sym (chunk_is_loaded w e.pos l) ∙ ap (has_chunk w.chunks) (sym (same_chunk_is c (chunk_of e.pos) s)) ∙ u))
none_if w lists c e false s l u h = h

entries_if : (P : Entry → Type 0) (es : List Entry) (e : Entry) (b : Bool) → AllByRecursion P es → (b ≡ true → P e) → AllByRecursion P (cond b (es ++ e ∷ []) es)
entries_if P es e true h p = pushed_all P es e h (p refl)
entries_if P es e false h p = h

apart_if : (es : List Entry) (e : Entry) (b : Bool) → are_apart es ≡ true → (b ≡ true → is_pending e.pos es ≡ false) → are_apart (cond b (es ++ e ∷ []) es) ≡ true
apart_if es e true h n = are_apart-push es e h (n refl)
apart_if es e false h n = h

wake_good : (count : ℕ) (Q : Entry → Type 0) (w : Land ℕ) (at : Pos → ℕ) (lists : Lists) (e : Entry) → is_loaded w e.pos ≡ true → Q e → is_pending e.pos (lists (chunk_of e.pos)) ≡ false
    → Good count Q (land_of w at lists) → Good count Q (land_of w at (listed_if true lists e))
wake_good count Q w at lists e l q n g = record {
  numbers = g.numbers;
  unloaded = g.unloaded;
  none = λ c u. none_if w lists c e (same_chunk c (chunk_of e.pos)) refl l u (g.none c u);
  entries = λ c. entries_if (IsEntryOf Q (is_loaded w) c) (lists c) e (same_chunk c (chunk_of e.pos)) (g.entries c) (λ s. record { here = s; there = l; holds = q });
  apart = λ c. apart_if (lists c) e (same_chunk c (chunk_of e.pos)) (g.apart c) (λ s. subst (λ x. is_pending e.pos (lists x) ≡ false) (sym (same_chunk_is c (chunk_of e.pos) s)) n);
}

-- which blocks are pending, after one more entry
wake_pending : (lists : Lists) (e : Entry) (q : Pos) (l x : Bool) (b : Bool) → same_pos q e.pos ≡ b → (b ≡ true → l ≡ true) → x ≡ (l && is_pending q (lists (chunk_of q)))
    → cond b true x ≡ (l && is_pending q (listed_if true lists e (chunk_of q)))
wake_pending lists e q l x true s here h =
    let is = same_pos_is q e.pos s in
    let c : same_chunk (chunk_of q) (chunk_of e.pos) ≡ true = subst (λ p. same_chunk (chunk_of q) (chunk_of p) ≡ true) is (same_chunk-refl (chunk_of q)) in
    let p : is_pending q (cond (same_chunk (chunk_of q) (chunk_of e.pos)) (lists (chunk_of q) ++ e ∷ []) (lists (chunk_of q))) ≡ true =
    ap (λ b. is_pending q (cond b (lists (chunk_of q) ++ e ∷ []) (lists (chunk_of q)))) c ∙ pushed_here q (lists (chunk_of q)) e s in
    sym (and_from l _ (here refl) p)
wake_pending lists e q l x false s here h =
    h ∙ ap (λ r. l && r) (sym (by (same_chunk (chunk_of q) (chunk_of e.pos)))) where
      by : (b : Bool) → is_pending q (cond b (lists (chunk_of q) ++ e ∷ []) (lists (chunk_of q))) ≡ is_pending q (lists (chunk_of q))
      by true = pushed_other q (lists (chunk_of q)) e s
      by false = refl

free_of : (l r x : Bool) → x ≡ (l && r) → l ≡ true → x ≡ false → r ≡ false
free_of true r x h l f = sym h ∙ f
free_of false r x h l f = absurd (false≢true l)

through_wake : (count : ℕ) (Q : Entry → Type 0) (w : Land ℕ) (now : ℕ) → ((p : Pos) → is_loaded w p ≡ true → Q (entry_of p now))
    → (p : Pos) (c : Change) → is_loaded w p ≡ true → c.world.pending p ≡ false → Through count Q w c → Through count Q w (change (with_entry_if true c.world (entry_of p now)) (c.made ++ entry_of p now ∷ []))
through_wake count Q w now holds p c l free s =
    let e = entry_of p now in
    record {
      loaded = s.loaded;
      lists = listed_if true s.lists e;
      are = listed_all-push c.made e w.lists ∙ ap (λ x. listed_if true x e) s.are;
      pending = λ q. wake_pending s.lists e q (is_loaded w q) (c.world.pending q) (same_pos q p) refl (λ b. ap (is_loaded w) (same_pos_is q p b) ∙ l) (s.pending q);
      good = wake_good count Q w c.world.number s.lists e l (holds p l) (free_of (is_loaded w p) (is_pending p (s.lists (chunk_of p))) (c.world.pending p) (s.pending p) l free) s.good;
    }

closed : (k : ℕ → Kind) (count : ℕ) (Q : Entry → Type 0) (w : Land ℕ) (now : ℕ) → ((p : Pos) → is_loaded w p ≡ true → Q (entry_of p now))
    → IsClosed k now (is_loaded w) (λ m. m < count) (Through count Q w)
closed k count Q w now holds = record {
  loads = λ c s. s.loaded;
  set = λ p m c less l s. record { loaded = s.loaded; lists = s.lists; are = s.are; pending = s.pending; good = set_good count Q w c.world.number s.lists p m less l s.good };
  wake = through_wake count Q w now holds;
}

begun : (count : ℕ) (Q : Entry → Type 0) (w : Land ℕ) → Good count Q w → Through count Q w (change (cells_of w) [])
begun count Q w g = record { loaded = refl; lists = w.lists; are = refl; pending = λ q. refl; good = g }

ended : (count : ℕ) (Q : Entry → Type 0) (w : Land ℕ) (c : Change) → Through count Q w c → Good count Q (after w c)
ended count Q w c s = subst (λ x. Good count Q (land_of w c.world.number x)) (sym s.are) s.good

turned_good : (k : ℕ → Kind) (count : ℕ) (Q : Entry → Type 0) (w : Land ℕ) (now : ℕ) (p : Pos) → 10 ≤ count → ((q : Pos) → is_loaded w q ≡ true → Q (entry_of q now)) → Good count Q w → Good count Q (turned k now p w)
turned_good k count Q w now p ten holds g =
    ended count Q w (turn k now p (cells_of w)) (turn_keeps k now (is_loaded w) (λ m. m < count) (Through count Q w) (closed k count Q w now holds) (λ m less. omega arith) p (cells_of w) (begun count Q w g))

set_in_good : (k : ℕ → Kind) (count : ℕ) (Q : Entry → Type 0) (w : Land ℕ) (now : ℕ) (p : Pos) (m : ℕ) → m < count → is_loaded w p ≡ true → ((q : Pos) → is_loaded w q ≡ true → Q (entry_of q now)) → Good count Q w
    → Good count Q (set_in k now p m w)
set_in_good k count Q w now p m less l holds g =
    ended count Q w (set_awake k now p m (change (cells_of w) [])) (set_keeps k now (is_loaded w) (λ m. m < count) (Through count Q w) (closed k count Q w now holds) p m (change (cells_of w) []) less l (begun count Q w g))

-- ---- a tick

-- a world with the same blocks loaded
record IsSame (v w : Land ℕ) : Type 0 where
  same_height : v.height ≡ w.height
  same_chunks : v.chunks ≡ w.chunks

still : (v w : Land ℕ) → IsSame v w → (p : Pos) → is_loaded v p ≡ is_loaded w p
still v w s p = λ i. has_chunk (s.same_chunks i) (chunk_of p) && is_block_of (s.same_height i) p.y

abbrev Holds : (Entry → Type 0) → ℕ → Land ℕ → Type 0
Holds Q now w = (p : Pos) → is_loaded w p ≡ true → Q (entry_of p now)

record IsGoodLike (count : ℕ) (Q : Entry → Type 0) (w v : Land ℕ) : Type 0 where
  same : IsSame v w
  good : Good count Q v

good_if : (count : ℕ) (Q : Entry → Type 0) (w : Land ℕ) (b : Bool) (u v : Land ℕ) → IsGoodLike count Q w u → IsGoodLike count Q w v → IsGoodLike count Q w (cond b u v)
good_if count Q w true u v s t = s
good_if count Q w false u v s t = t

edited_good : (k : ℕ → Kind) (count : ℕ) (Q : Entry → Type 0) (now : ℕ) (es : List (Set ℕ)) (w v : Land ℕ) → Holds Q now w → AllByRecursion (IsSetOf count w) es → IsGoodLike count Q w v
    → IsGoodLike count Q w (edited k now es v)
edited_good k count Q now [] w v holds hs s = s
edited_good k count Q now (e ∷ es) w v holds hs s =
    let same : IsSame (set_in k now e.pos e.what v) w = record { same_height = s.same.same_height; same_chunks = s.same.same_chunks } in
    let one : IsGoodLike count Q w (set_in k now e.pos e.what v) = record {
      same = same;
      good = set_in_good k count Q v now e.pos e.what hs.0.number (still v w s.same e.pos ∙ hs.0.there) (λ q l. holds q (sym (still v w s.same q) ∙ l)) s.good;
    } in
    edited_good k count Q now es w _ holds hs.1 (good_if count Q w (nat_eq e.tick now) (set_in k now e.pos e.what v) v one s)

turned_all_good : (k : ℕ → Kind) (count : ℕ) (Q : Entry → Type 0) (now : ℕ) (es : List Entry) (w v : Land ℕ) → 10 ≤ count → Holds Q now w → IsGoodLike count Q w v → IsGoodLike count Q w (turned_all k now es v)
turned_all_good k count Q now [] w v ten holds s = s
turned_all_good k count Q now (e ∷ es) w v ten holds s =
    turned_all_good k count Q now es w (turned k now e.pos v) ten holds (record {
      same = record { same_height = s.same.same_height; same_chunks = s.same.same_chunks };
      good = turned_good k count Q v now e.pos ten (λ q l. holds q (sym (still v w s.same q) ∙ l)) s.good;
    })

kept_if : (P R : Entry → Type 0) (e : Entry) (es : List Entry) (b : Bool) → (b ≡ true → P e → R e) → P e → AllByRecursion R es → AllByRecursion R (cond b (e ∷ es) es)
kept_if P R e es true h p rest = (h refl p, rest)
kept_if P R e es false h p rest = rest

filtered_all : (test : Entry → Bool) (P R : Entry → Type 0) (es : List Entry) → ((e : Entry) → test e ≡ true → P e → R e) → AllByRecursion P es → AllByRecursion R (filter test es)
filtered_all test P R [] h ps = tt
filtered_all test P R (e ∷ es) h ps = kept_if P R e (filter test es) (test e) (λ t p. h e t p) ps.0 (filtered_all test P R es h ps.1)

without_due_good : (count : ℕ) (Q R : Entry → Type 0) (now : ℕ) (w : Land ℕ) → ((e : Entry) → is_due now e ≡ false → Q e → R e) → Good count Q w → Good count R (without_due now w)
without_due_good count Q R now w h g = record {
  numbers = g.numbers;
  unloaded = g.unloaded;
  none = λ c u. ap (λ es. filter (λ e. not (is_due now e)) es) (g.none c u);
  entries = λ c. filtered_all (λ e. not (is_due now e)) (IsEntryOf Q (is_loaded w) c) (IsEntryOf R (is_loaded w) c) (w.lists c)
      (λ e t s. record { here = s.here; there = s.there; holds = h e (not-true (is_due now e) t) s.holds }) (g.entries c);
  apart = λ c. are_apart-filter (λ e. not (is_due now e)) (w.lists c) (g.apart c);
}

-- an entry that is not due stays timely
due_false : (n : ℕ) (x : ℤ) → int_le x (pos n) ≡ false → pos n <ℤ x
due_false n x h = grind (arith, ints)

stays_timely : (n : ℕ) (e : Entry) → n < 1000000 → is_due (n + 1) e ≡ false → IsTimely n e → IsTimely (n + 1) e
stays_timely n e few h s =
    let late = due_false (n + 1) e.due h in
    record { int_x = s.int_x; int_y = s.int_y; int_z = s.int_z; int_priority = s.int_priority; late = omega (arith, ints); soon = s.soon }

zero_fits : FitsSigned w32 (pos 0)
zero_fits = search rules

made_timely : (n m : ℕ) (w : Land ℕ) → n < 1000000 → m ≤ n + 1 → HasIntCoordinates w → Holds (IsTimely m) (n + 1) w
made_timely n m w few le ints_of p l =
    let i = ints_of p l in
    record { int_x = i.0; int_y = i.1; int_z = i.2; int_priority = zero_fits; late = omega (arith, ints); soon = omega (arith, ints) }

ticked_good : (k : ℕ → Kind) (count : ℕ) (es : List (Set ℕ)) (n : ℕ) (w v : Land ℕ) → 10 ≤ count → n < 1000000 → HasIntCoordinates w → AllByRecursion (IsSetOf count w) es → IsGoodLike count (IsTimely n) w v
    → IsGoodLike count (IsTimely (n + 1)) w (ticked k (n + 1) es v)
ticked_good k count es n w v ten few ints_of sets s =
    let u = edited k (n + 1) es v in
    let a = edited_good k count (IsTimely n) (n + 1) es w v (made_timely n n w few (omega arith) ints_of) sets s in
    let b : IsGoodLike count (IsTimely (n + 1)) w (without_due (n + 1) u) = record {
      same = record { same_height = a.same.same_height; same_chunks = a.same.same_chunks };
      good = without_due_good count (IsTimely n) (IsTimely (n + 1)) (n + 1) u (λ e h q. stays_timely n e few h q) a.good;
    } in
    turned_all_good k count (IsTimely (n + 1)) (n + 1) (due_entries (n + 1) u) w (without_due (n + 1) u) ten (made_timely n (n + 1) w few (omega arith) ints_of) b

run_good : (k : ℕ → Kind) (count : ℕ) (es : List (Set ℕ)) (n : ℕ) (w : Land ℕ) → 10 ≤ count → n ≤ 1000000 → HasIntCoordinates w → AllByRecursion (IsSetOf count w) es → Good count (IsTimely 0) w
    → IsGoodLike count (IsTimely n) w (run_after k 0 es n w)
run_good k count es zero w ten few ints_of sets g = record { same = record { same_height = refl; same_chunks = refl }; good = g }
run_good k count es (suc n) w ten few ints_of sets g =
    let before = run_good k count es n w ten (omega arith) ints_of sets g in
    let now : n + 1 ≡ suc n + 0 = omega arith in
    let last : n + 1 ≡ suc n = omega arith in
    subst (λ t. IsGoodLike count (IsTimely (suc n)) w (ticked k t es (run_after k 0 es n w))) now
    (subst (λ t. IsGoodLike count (IsTimely t) w (ticked k (n + 1) es (run_after k 0 es n w))) last (ticked_good k count es n w (run_after k 0 es n w) ten (omega arith) ints_of sets before))

pub run_keeps : RunKeeps
run_keeps k count es n w ten few ints_of sets g = (run_good k count es n w ten few ints_of sets g).good
