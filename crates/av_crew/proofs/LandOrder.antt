-- Entries turned one after the other, in a world of blocks with lists and in its land.
use Rattle.std.proofs.Common.{◌≡◌, ◌∙◌, ℕ, ◌<◌, ◌≤◌, ◌&&◌, List, [], ◌∷◌, ◌++◌, Bool, true, false, cond, refl, sym, ap, arith}
use Rattle.std.proofs.lemmas.Bool.{true≢false, cond_both}
use Rattle.std.specs.List.{AllByRecursion}
use Rattle.av_play.proofs.LandTurns.{listed_pending, waits_as}
use Rattle.av_types.specs.Positions.{chunk_of}
use Rattle.av_types.specs.declared.position.Pos.{Pos}
use Rattle.av_types.specs.declared.tick.Entry.{Entry}
use Rattle.av_types.proofs.SamePositions.{same_pos_is}
use Rattle.av_ticks.specs.Entries.{is_pending}
use Rattle.av_cells.specs.declared.kind.Kind.{Kind}
use Rattle.av_cells.specs.Positions.{same_pos}
use Rattle.av_cells.specs.Rule.{HasKinds}
use Rattle.av_cells.specs.World.{World, Lists, listed_all}
use Rattle.av_cells.specs.Turn.{Change, entry_of, turn}
use Rattle.av_water.proofs.Inside.{turn_kept}
use Rattle.av_land.specs.Land.{Land, is_loaded, cells_of}
use Rattle.av_land.specs.Tick.{turned, turned_all}
use Rattle.av_land.proofs.Steps.{IsClosed, turn_keeps}
use Rattle.av_play.specs.Play.{Outcome, in_order}
use Rattle.av_play.specs.Waiting.{is_among}
use Rattle.av_play.proofs.Waiting.{turn_waits}

-- ---- what a turn makes is of loaded blocks

-- each is of a block of these
abbrev pub AllIn : (Pos → Bool) → List Entry → Type 0
AllIn L es = AllByRecursion (λ e. L e.pos ≡ true) es

all_in_push : (L : Pos → Bool) (es : List Entry) (e : Entry) → AllIn L es → L e.pos ≡ true → AllIn L (es ++ e ∷ [])
all_in_push L [] e h l = (l, tt)
all_in_push L (x ∷ es) e h l = (h.0, all_in_push L es e h.1 l)

record IsInside (L : Pos → Bool) (c : Change) : Type 0 where
  loaded : c.world.loaded ≡ L
  made : AllIn L c.made

inside_closed : (k : ℕ → Kind) (now : ℕ) (L : Pos → Bool) → IsClosed k now L (λ m. Unit {0}) (IsInside L)
inside_closed k now L =
    record {
      loads = λ c s. s.loaded;
      set = λ p m c u l s. record { loaded = s.loaded; made = s.made };
      wake = λ p c l free s. record { loaded = s.loaded; made = all_in_push L c.made (entry_of p now) s.made l };
    }

pub turn_inside : (k : ℕ → Kind) (now : ℕ) (p : Pos) (w : World) → AllIn w.loaded (turn k now p w).made
turn_inside k now p w = (turn_keeps k now w.loaded (λ m. Unit {0}) (IsInside w.loaded) (inside_closed k now w.loaded) (λ m u. tt) p w (record { loaded = refl; made = tt })).made

among_in : (L : Pos → Bool) (q : Pos) (es : List Entry) → AllIn L es → is_among q es ≡ true → L q ≡ true
among_in L q [] h m = absurd (true≢false (sym m))
among_in L q (e ∷ es) h m = by (same_pos q e.pos) refl m (among_in L q es h.1) where
  by : (s : Bool) → same_pos q e.pos ≡ s → cond s true (is_among q es) ≡ true → (is_among q es ≡ true → L q ≡ true) → L q ≡ true
  by true s t rest = ap L (same_pos_is q e.pos s) ∙ h.0
  by false s t rest = rest t

-- ---- numbers stay below a count

record IsKnown (count : ℕ) (L : Pos → Bool) (c : Change) : Type 0 where
  loaded : c.world.loaded ≡ L
  known : (q : Pos) → L q ≡ true → c.world.number q < count

known_closed : (k : ℕ → Kind) (now count : ℕ) (L : Pos → Bool) → IsClosed k now L (λ m. m < count) (IsKnown count L)
known_closed k now count L =
    record {
      loads = λ c s. s.loaded;
      set = λ p m c less l s. record { loaded = s.loaded; known = λ q t. cond_both (same_pos q p) m (c.world.number q) (λ n. n < count) (λ _. less) (λ _. s.known q t) };
      wake = λ p c l free s. record { loaded = s.loaded; known = s.known };
    }

turn_known : (k : ℕ → Kind) (now count : ℕ) (p : Pos) (w : World) → 10 ≤ count → HasKinds count w → HasKinds count (turn k now p w).world
turn_known k now count p w ten h =
    let s = turn_keeps k now w.loaded (λ m. m < count) (IsKnown count w.loaded) (known_closed k now count w.loaded) (λ m less. omega arith) p w (record { loaded = refl; known = h }) in
    λ q t. s.known q (sym (ap (λ f. f q) s.loaded) ∙ t)

pub order_known : (k : ℕ → Kind) (now count : ℕ) (es : List Entry) (w : World) (l : Lists) → 10 ≤ count → HasKinds count w → HasKinds count (in_order k now es w l).world
order_known k now count [] w l ten h = h
order_known k now count (e ∷ es) w l ten h = order_known k now count es (turn k now e.pos w).world _ ten (turn_known k now count e.pos w ten h)

pub order_loaded : (k : ℕ → Kind) (now : ℕ) (es : List Entry) (w : World) (l : Lists) → (in_order k now es w l).world.loaded ≡ w.loaded
order_loaded k now [] w l = refl
order_loaded k now (e ∷ es) w l = order_loaded k now es (turn k now e.pos w).world _ ∙ (turn_kept k now e.pos w).kept_loaded

-- ---- a turn in the land

turned_cells : (k : ℕ → Kind) (now : ℕ) (p : Pos) (w : Land ℕ) → cells_of (turned k now p w) ≡ (turn k now p (cells_of w)).world
turned_cells k now p w = λ i. record { loaded = sym (turn_kept k now p (cells_of w)).kept_loaded i; number = (turn k now p (cells_of w)).world.number; pending = λ q. pending q i } where
  made : List Entry
  made = (turn k now p (cells_of w)).made

  pending : (q : Pos) → is_loaded w q && is_pending q (listed_all w.lists made (chunk_of q)) ≡ (turn k now p (cells_of w)).world.pending q
  pending q = ap (λ b. is_loaded w q && b) (listed_pending q made w.lists)
      ∙ waits_as (is_loaded w q) (is_among q made) (is_pending q (w.lists (chunk_of q))) (among_in (is_loaded w) q made (turn_inside k now p (cells_of w)))
      ∙ sym (turn_waits k now p (cells_of w) q)

-- a land with the blocks and lists of an outcome
abbrev pub land_with : Land ℕ → Outcome → Land ℕ
land_with w o = record { height = w.height; chunks = w.chunks; at = o.world.number; lists = o.lists }

pub order_is : (k : ℕ → Kind) (now : ℕ) (es : List Entry) (w : Land ℕ) → turned_all k now es w ≡ land_with w (in_order k now es (cells_of w) w.lists)
order_is k now [] w = refl
order_is k now (e ∷ es) w =
    order_is k now es (turned k now e.pos w)
    ∙ ap (λ v. land_with w (in_order k now es v (listed_all w.lists (turn k now e.pos (cells_of w)).made))) (turned_cells k now e.pos w)
