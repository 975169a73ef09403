-- Entries turned one after the other in a land, and in its blocks and lists.
use Rattle.std.proofs.Common.{◌≡◌, ◌∙◌, ℕ, ◌&&◌, List, [], ◌∷◌, ◌++◌, Bool, true, false, cond, refl, sym, ap}
use Rattle.std.proofs.lemmas.Bool.{true≢false}
use Rattle.std.proofs.lemmas.Bool.Decides.{Decides-int_eq}
use Rattle.std.specs.List.{AllByRecursion}
use Rattle.av_types.specs.Positions.{chunk_of}
use Rattle.av_types.specs.declared.position.Pos.{Pos}
use Rattle.av_types.specs.declared.tick.Entry.{Entry}
use Rattle.av_ticks.specs.Entries.{is_pending}
use Rattle.av_cells.specs.declared.kind.Kind.{Kind}
use Rattle.av_cells.specs.Positions.{same_pos, same_chunk}
use Rattle.av_cells.specs.World.{World, Lists, listed_if, listed_all}
use Rattle.av_cells.specs.Turn.{Change, entry_of, turn}
use Rattle.av_types.proofs.SamePositions.{same_pos_is}
use Rattle.av_water.proofs.Inside.{turn_kept}
use Rattle.av_land.specs.Land.{Land, is_loaded, cells_of}
use Rattle.av_land.specs.Tick.{turned, turned_all}
use Rattle.av_land.proofs.Steps.{IsClosed, turn_keeps}
use Rattle.av_play.specs.Play.{in_order}
use Rattle.av_play.specs.Ticks.{outcome_of}
use Rattle.av_play.specs.Waiting.{is_among}
use Rattle.av_play.proofs.Waiting.{turn_waits}

-- ---- what a turn makes is of loaded blocks

-- each is of a block of these
abbrev AllIn : (Pos → Bool) → List Entry → Type 0
AllIn L es = AllByRecursion (λ e. L e.pos ≡ true) es

all_in_push : (L : Pos → Bool) (es : List Entry) (e : Entry) → AllIn L es → L e.pos ≡ true → AllIn L (es ++ e ∷ [])
all_in_push L [] e h l = (l, tt)
all_in_push L (x ∷ es) e h l = (h.0, all_in_push L es e h.1 l)

record IsInside (L : Pos → Bool) (c : Change) : Type 0 where
  loaded : c.world.loaded ≡ L
  made : AllIn L c.made

inside_closed : (k : ℕ → Kind) (now : ℕ) (L : Pos → Bool) → IsClosed k now L (λ m. Unit {0}) (IsInside L)
inside_closed k now L =
    record {
      loads = λ c s. s.loaded;
      set = λ p m c u l s. record { loaded = s.loaded; made = s.made };
      wake = λ p c l free s. record { loaded = s.loaded; made = all_in_push L c.made (entry_of p now) s.made l };
    }

turn_inside : (k : ℕ → Kind) (now : ℕ) (p : Pos) (w : World) → AllIn w.loaded (turn k now p w).made
turn_inside k now p w = (turn_keeps k now w.loaded (λ m. Unit {0}) (IsInside w.loaded) (inside_closed k now w.loaded) (λ m u. tt) p w (record { loaded = refl; made = tt })).made

among_in : (L : Pos → Bool) (q : Pos) (es : List Entry) → AllIn L es → is_among q es ≡ true → L q ≡ true
among_in L q [] h m = absurd (true≢false (sym m))
among_in L q (e ∷ es) h m = by (same_pos q e.pos) refl m (among_in L q es h.1) where
  by : (s : Bool) → same_pos q e.pos ≡ s → cond s true (is_among q es) ≡ true → (is_among q es ≡ true → L q ≡ true) → L q ≡ true
  by true s t rest = ap L (same_pos_is q e.pos s) ∙ h.0
  by false s t rest = rest t

-- ---- what waits in the lists

pending_append : (p : Pos) (es : List Entry) (e : Entry) → is_pending p (es ++ e ∷ []) ≡ cond (same_pos p e.pos) true (is_pending p es)
pending_append p [] e = refl
pending_append p (x ∷ es) e = by (same_pos p x.pos) (same_pos p e.pos) (is_pending p es) (pending_append p es e) where
  by : (b c r : Bool) → is_pending p (es ++ e ∷ []) ≡ cond c true r → cond b true (is_pending p (es ++ e ∷ [])) ≡ cond c true (cond b true r)
  by true true r h = refl
  by true false r h = refl
  by false c r h = h

chunk_itself : (p : Pos) → same_chunk (chunk_of p) (chunk_of p) ≡ true
chunk_itself p = λ i. (Decides-int_eq (chunk_of p).x (chunk_of p).x).1 refl i && (Decides-int_eq (chunk_of p).z (chunk_of p).z).1 refl i

pending_listed : (p : Pos) (e : Entry) (l : Lists) → is_pending p (listed_if true l e (chunk_of p)) ≡ cond (same_pos p e.pos) true (is_pending p (l (chunk_of p)))
pending_listed p e l = by (same_pos p e.pos) (same_chunk (chunk_of p) (chunk_of e.pos)) refl refl where
  by : (s c : Bool) → same_pos p e.pos ≡ s → same_chunk (chunk_of p) (chunk_of e.pos) ≡ c
      → is_pending p (cond c (l (chunk_of p) ++ e ∷ []) (l (chunk_of p))) ≡ cond s true (is_pending p (l (chunk_of p)))
  by s true h g = pending_append p (l (chunk_of p)) e ∙ ap (λ b. cond b true (is_pending p (l (chunk_of p)))) h
  by true false h g = absurd (true≢false (sym (chunk_itself p) ∙ ap (λ q. same_chunk (chunk_of p) (chunk_of q)) (same_pos_is p e.pos h) ∙ g))
  by false false h g = refl

-- what the lists have after entries were put aside
pub listed_pending : (p : Pos) (es : List Entry) (l : Lists) → is_pending p (listed_all l es (chunk_of p)) ≡ cond (is_among p es) true (is_pending p (l (chunk_of p)))
listed_pending p [] l = refl
listed_pending p (e ∷ es) l =
    listed_pending p es (listed_if true l e) ∙ ap (λ b. cond (is_among p es) true b) (pending_listed p e l) ∙ swap (is_among p es) (same_pos p e.pos) (is_pending p (l (chunk_of p)))
  where
    swap : (m s x : Bool) → cond m true (cond s true x) ≡ cond (cond s true m) true x
    swap true true x = refl
    swap true false x = refl
    swap false true x = refl
    swap false false x = refl

-- ---- turns in the land

pub waits_as : (loaded among before : Bool) → (among ≡ true → loaded ≡ true) → loaded && cond among true before ≡ cond among true (loaded && before)
waits_as true true b h = refl
waits_as true false b h = refl
waits_as false true b h = absurd (true≢false (sym (h refl)))
waits_as false false b h = refl

turned_cells : (k : ℕ → Kind) (now : ℕ) (p : Pos) (w : Land ℕ) → cells_of (turned k now p w) ≡ (turn k now p (cells_of w)).world
turned_cells k now p w = λ i. record { loaded = sym (turn_kept k now p (cells_of w)).kept_loaded i; number = (turn k now p (cells_of w)).world.number; pending = λ q. pending q i } where
  made : List Entry
  made = (turn k now p (cells_of w)).made

  pending : (q : Pos) → is_loaded w q && is_pending q (listed_all w.lists made (chunk_of q)) ≡ (turn k now p (cells_of w)).world.pending q
  pending q =
      ap (λ b. is_loaded w q && b) (listed_pending q made w.lists)
      ∙ waits_as (is_loaded w q) (is_among q made) (is_pending q (w.lists (chunk_of q))) (among_in (is_loaded w) q made (turn_inside k now p (cells_of w)))
      ∙ sym (turn_waits k now p (cells_of w) q)

-- the blocks and lists of the land after its entries were turned
pub turned_in_order : (k : ℕ → Kind) (now : ℕ) (es : List Entry) (w : Land ℕ) → in_order k now es (cells_of w) w.lists ≡ outcome_of (turned_all k now es w)
turned_in_order k now [] w = refl
turned_in_order k now (e ∷ es) w =
    ap (λ v. in_order k now es v (listed_all w.lists (turn k now e.pos (cells_of w)).made)) (sym (turned_cells k now e.pos w))
    ∙ turned_in_order k now es (turned k now e.pos w)
