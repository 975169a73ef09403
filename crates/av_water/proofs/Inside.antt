-- What a turn writes: loaded blocks of its reach.
use Rattle.std.proofs.Common.{◌≡◌, ℕ, zero, suc, ◌<◌, nat_le, List, [], ◌∷◌, ◌++◌, length, slice_index_or, Bool, true, false, not, ◌||◌, cond, Some, None, refl, sym, ap, ◌∙◌, subst, arith}
use Rattle.std.specs.List.{All}
use Rattle.std.proofs.lemmas.Bool.{and_parts}
use Rattle.av_types.specs.declared.position.Pos.{Pos}
use Rattle.av_types.specs.declared.tick.Entry.{Entry}
use Rattle.av_types.specs.declared.water.Direction.{Direction}
use Rattle.av_types.specs.declared.water.Direction.TheVariants.{North, South, West, East}
use Rattle.av_types.specs.Water.{is_wet, is_source}
use Rattle.av_types.proofs.SamePositions.{same_pos_is}
use Rattle.av_cells.specs.declared.kind.Kind.{Kind}
use Rattle.av_cells.specs.Positions.{step, below, around, same_pos, ForAround, InReach}
use Rattle.av_cells.specs.World.{World, with_number, with_entry_if}
use Rattle.av_cells.specs.Rule.{wet_at, can_enter, has_hole, sources_beside, incoming_at}
use Rattle.av_cells.specs.Turn.{Change, change, entry_of, wakes, woken, woken_all, set_awake, is_chosen, planned, number_of_wet, set_planned, spread, onward, renewed, same_wet, turn}
use Rattle.av_water.specs.Frame.{Kept, InLoadedReach, IsMadeBy}
use Rattle.av_cells.proofs.Loaded.{wet_is_loaded}
use Rattle.av_water.proofs.Plans.{enterable_is_loaded, chosen_is_loaded}
use Rattle.av_water.proofs.Readiness.{around_itself, around_below, around_side}

abbrev AllMade : (Entry → Type 0) → List Entry → Type 0
AllMade P [] = Unit {0}
AllMade P (e ∷ es) = P e × AllMade P es

made_more : (P : Entry → Type 0) (es : List Entry) (e : Entry) → AllMade P es → P e → AllMade P (es ++ e ∷ [])
made_more P [] e h p = (p, tt)
made_more P (f ∷ es) e h p = (h.0, made_more P es e h.1 p)

made_at : (P : Entry → Type 0) (e : Entry) (es : List Entry) → P e → All P es → (k : ℕ) (d : Entry) → k < suc (length es) → P (slice_index_or (e ∷ es) k d)
made_at P e es h rest zero d l = h
made_at P e es h rest (suc k) d l = rest k d (omega arith)

made_all : (P : Entry → Type 0) (es : List Entry) → AllMade P es → All P es
made_all P [] h = λ k d l. absurd (omega arith)
made_all P (e ∷ es) h = λ k d l. made_at P e es h.0 (made_all P es h.1) k d l

record IsInside (w : World) (now : ℕ) (p : Pos) (c : Change) : Type 0 where
  kept : Kept (InLoadedReach w p) w c.world
  made : AllMade (IsMadeBy w now p) c.made

was_loaded : (w : World) (now : ℕ) (p : Pos) (c : Change) (q : Pos) → IsInside w now p c → c.world.loaded q ≡ true → w.loaded q ≡ true
was_loaded w now p c q s l = subst (λ f. f q ≡ true) s.kept.kept_loaded l

not_here : (L : Pos → Type 0) (p q : Pos) → L q → ¬ L p → same_pos p q ≡ false
not_here L p q here out = by (same_pos p q) refl where
  by : (b : Bool) → same_pos p q ≡ b → b ≡ false
  by true e = absurd (out (subst L (sym (same_pos_is p q e)) here))
  by false e = refl

woken_if : (k : ℕ → Kind) (w : World) (now : ℕ) (p q : Pos) (c : Change) (b : Bool) → wakes k c.world q ≡ b → InReach p q → IsInside w now p c
    → IsInside w now p (change (with_entry_if b c.world (entry_of q now)) (cond b (c.made ++ entry_of q now ∷ []) c.made))
woken_if k w now p q c false e r s = s
woken_if k w now p q c true e r s =
    let here : w.loaded q ≡ true = was_loaded w now p c q s (wet_is_loaded k c.world q (and_parts (is_wet (wet_at k c.world q)) (not (c.world.pending q)) e).0) in
    record {
      kept = record {
        kept_loaded = s.kept.kept_loaded;
        kept_number = s.kept.kept_number;
        kept_pending = λ x out. ap (λ b. cond b true (c.world.pending x)) (not_here (InLoadedReach w p) x q (r, here) out) ∙ s.kept.kept_pending x out;
      };
      made = made_more (IsMadeBy w now p) c.made (entry_of q now) s.made (record { in_reach = r; loaded = here; due = refl; priority = refl });
    }

woken_inside : (k : ℕ → Kind) (w : World) (now : ℕ) (p q : Pos) (c : Change) → InReach p q → IsInside w now p c → IsInside w now p (woken k now q c)
unfolding woken
woken_inside k w now p q c r s = woken_if k w now p q c (wakes k c.world q) refl r s

abbrev AllOf : (Pos → Type 0) → List Pos → Type 0
AllOf R [] = Unit {0}
AllOf R (q ∷ qs) = R q × AllOf R qs

woken_all_inside : (k : ℕ → Kind) (w : World) (now : ℕ) (p : Pos) (qs : List Pos) (c : Change) → AllOf (InReach p) qs → IsInside w now p c → IsInside w now p (woken_all k now qs c)
woken_all_inside k w now p [] c r s = s
woken_all_inside k w now p (q ∷ qs) c r s = woken_all_inside k w now p qs (woken k now q c) r.1 (woken_inside k w now p q c r.0 s)

set_inside : (k : ℕ → Kind) (w : World) (now : ℕ) (p q : Pos) (n : ℕ) (c : Change) → w.loaded q ≡ true → ForAround (InReach p) q → IsInside w now p c → IsInside w now p (set_awake k now q n c)
unfolding set_awake
set_inside k w now p q n c here r s =
    woken_all_inside k w now p (around q) (change (with_number c.world q n) c.made)
    (r.itself, (r.beneath, (r.overhead, (r.beside North, (r.beside South, (r.beside West, (r.beside East, tt)))))))
    (record {
      kept = record {
        kept_loaded = s.kept.kept_loaded;
        kept_number = λ x out. ap (λ b. cond b n (c.world.number x)) (not_here (InLoadedReach w p) x q (r.itself, here) out) ∙ s.kept.kept_number x out;
        kept_pending = s.kept.kept_pending;
      };
      made = s.made;
    })

if_inside : (w : World) (now : ℕ) (p : Pos) (b : Bool) (x y : Change) → (b ≡ true → IsInside w now p x) → IsInside w now p y → IsInside w now p (cond b x y)
if_inside w now p true x y s t = s refl
if_inside w now p false x y s t = t

planned_if : (k : ℕ → Kind) (w : World) (now : ℕ) (p : Pos) (d : Direction) (b : Bool) (n : ℕ) (c : Change) → (b ≡ true → w.loaded (step p d) ≡ true) → IsInside w now p c → IsInside w now p (set_planned k now (step p d) (cond b (Some n) None) c)
planned_if k w now p d true n c here s = set_inside k w now p (step p d) n c (here refl) (around_side p d) s
planned_if k w now p d false n c here s = s

side_inside : (k : ℕ → Kind) (w : World) (now : ℕ) (p : Pos) (d : Direction) (c x : Change) → IsInside w now p c → IsInside w now p x → IsInside w now p (set_planned k now (step p d) (planned k c.world p d) x)
unfolding planned
side_inside k w now p d c x s t =
    planned_if k w now p d (is_chosen k c.world p d) (number_of_wet (incoming_at k c.world (step p d))) x (λ e. was_loaded w now p c (step p d) s (chosen_is_loaded k c.world p d e)) t

spread_inside : (k : ℕ → Kind) (w : World) (now : ℕ) (p : Pos) (c : Change) → IsInside w now p c → IsInside w now p (spread k now p c)
unfolding spread
spread_inside k w now p c s =
    if_inside w now p _ _ _
    (λ _. side_inside k w now p East c _ s (side_inside k w now p West c _ s (side_inside k w now p South c _ s (side_inside k w now p North c _ s s))))
    s

onward_inside : (k : ℕ → Kind) (w : World) (now : ℕ) (p : Pos) (c : Change) → IsInside w now p c → IsInside w now p (onward k now p c)
unfolding onward
onward_inside k w now p c s =
    if_inside w now p (can_enter k c.world (below p)) _ _
    (λ e. let fallen = set_inside k w now p (below p) (number_of_wet (incoming_at k c.world (below p))) c (was_loaded w now p c (below p) s (enterable_is_loaded k c.world (below p) e)) (around_below p) s in
    if_inside w now p (nat_le 3 (sources_beside k c.world p)) _ _ (λ _. spread_inside k w now p _ fallen) fallen)
    (if_inside w now p (is_source (wet_at k c.world p) || not (has_hole k c.world p)) _ _ (λ _. spread_inside k w now p c s) s)

renewed_inside : (k : ℕ → Kind) (w : World) (now : ℕ) (p : Pos) (c : Change) → w.loaded p ≡ true → IsInside w now p c → IsInside w now p (renewed k now p c)
unfolding renewed
renewed_inside k w now p c here s =
    let fresh = set_inside k w now p p (number_of_wet (incoming_at k c.world p)) c here (around_itself p) s in
    if_inside w now p (is_source (wet_at k c.world p) || same_wet (incoming_at k c.world p) (wet_at k c.world p)) _ _ (λ _. onward_inside k w now p c s)
    (if_inside w now p (is_wet (incoming_at k c.world p)) _ _ (λ _. onward_inside k w now p _ fresh) fresh)

turn_inside : (k : ℕ → Kind) (w : World) (now : ℕ) (p : Pos) → IsInside w now p (turn k now p w)
unfolding turn
turn_inside k w now p =
    let s : IsInside w now p (change w []) = record { kept = record { kept_loaded = refl; kept_number = λ x out. refl; kept_pending = λ x out. refl }; made = tt } in
    if_inside w now p (is_wet (wet_at k w p)) _ _ (λ e. renewed_inside k w now p (change w []) (wet_is_loaded k w p e) s) s

pub turn_kept : (k : ℕ → Kind) (now : ℕ) (p : Pos) (w : World) → Kept (InLoadedReach w p) w (turn k now p w).world
turn_kept k now p w = (turn_inside k w now p).kept

pub turn_made : (k : ℕ → Kind) (now : ℕ) (p : Pos) (w : World) → All (IsMadeBy w now p) (turn k now p w).made
turn_made k now p w = made_all (IsMadeBy w now p) (turn k now p w).made (turn_inside k w now p).made
