-- A turn makes pending what it makes entries of, and nothing else.
use Rattle.std.proofs.Common.{◌≡◌, ℕ, Bool, true, false, not, cond, List, [], ◌∷◌, ◌++◌, Option, Some, None, refl, sym, ap, ◌∙◌}
use Rattle.std.proofs.lemmas.Bool.{not-true, and_parts}
use Rattle.av_ticks.proofs.Lookup.{cond_neither}
use Rattle.av_types.specs.declared.position.Pos.{Pos}
use Rattle.av_types.specs.declared.tick.Entry.{Entry}
use Rattle.av_types.specs.declared.water.Direction.TheVariants.{North, South, West, East}
use Rattle.av_types.proofs.SamePositions.{same_pos_back}
use Rattle.av_cells.specs.declared.kind.Kind.{Kind}
use Rattle.av_cells.specs.Positions.{step, around, same_pos}
use Rattle.av_cells.specs.World.{World, with_number, with_entry_if}
use Rattle.av_cells.specs.Turn.{Change, change, entry_of, wakes, woken, woken_all, set_awake, set_planned, spread, onward, renewed, turn}
use Rattle.av_play.specs.declared.event.DueEntry.{DueEntry}
use Rattle.av_play.specs.Play.{labelled, turn_of, world_after, made_after, entries_of}
use Rattle.av_play.specs.Waiting.{is_among, AreNew}

-- the blocks that wait are those of w and of what was made
record IsCounted (w : World) (c : Change) : Type 0 where
  counted : (q : Pos) → c.world.pending q ≡ cond (is_among q c.made) true (w.pending q)

among_append : (q : Pos) (xs ys : List Entry) (b : Bool) → cond (is_among q (xs ++ ys)) true b ≡ cond (is_among q ys) true (cond (is_among q xs) true b)
among_append q [] ys b = refl
among_append q (x ∷ xs) ys b = by (same_pos q x.pos) (is_among q ys) (among_append q xs ys b) where
  by : (s t : Bool) → cond (is_among q (xs ++ ys)) true b ≡ cond t true (cond (is_among q xs) true b) → cond (cond s true (is_among q (xs ++ ys))) true b ≡ cond t true (cond (cond s true (is_among q xs)) true b)
  by true true h = refl
  by true false h = refl
  by false t h = h

woken_if : (w : World) (b : Bool) (c : Change) (e : Entry) → IsCounted w c → IsCounted w (change (with_entry_if b c.world e) (cond b (c.made ++ e ∷ []) c.made))
woken_if w false c e s = s
woken_if w true c e s =
    record { counted = λ q. ap (λ (d : Bool). cond (same_pos q e.pos) true d) (s.counted q) ∙ one (same_pos q e.pos) (cond (is_among q c.made) true (w.pending q)) ∙ sym (among_append q c.made (e ∷ []) (w.pending q)) }
  where
    one : (d b : Bool) → cond d true b ≡ cond (cond d true false) true b
    one true b = refl
    one false b = refl

woken_counted : (k : ℕ → Kind) (w : World) (now : ℕ) (q : Pos) (c : Change) → IsCounted w c → IsCounted w (woken k now q c)
unfolding woken
woken_counted k w now q c s = woken_if w (wakes k c.world q) c (entry_of q now) s

woken_all_counted : (k : ℕ → Kind) (w : World) (now : ℕ) (qs : List Pos) (c : Change) → IsCounted w c → IsCounted w (woken_all k now qs c)
woken_all_counted k w now [] c s = s
woken_all_counted k w now (q ∷ qs) c s = woken_all_counted k w now qs (woken k now q c) (woken_counted k w now q c s)

set_counted : (k : ℕ → Kind) (w : World) (now : ℕ) (q : Pos) (n : ℕ) (c : Change) → IsCounted w c → IsCounted w (set_awake k now q n c)
unfolding set_awake
set_counted k w now q n c s = woken_all_counted k w now (around q) (change (with_number c.world q n) c.made) (record { counted = s.counted })

if_counted : (w : World) (b : Bool) (x y : Change) → IsCounted w x → IsCounted w y → IsCounted w (cond b x y)
if_counted w true x y s t = s
if_counted w false x y s t = t

planned_counted : (k : ℕ → Kind) (w : World) (now : ℕ) (q : Pos) (o : Option ℕ) (c : Change) → IsCounted w c → IsCounted w (set_planned k now q o c)
planned_counted k w now q None c s = s
planned_counted k w now q (Some n) c s = set_counted k w now q n c s

spread_counted : (k : ℕ → Kind) (w : World) (now : ℕ) (p : Pos) (c : Change) → IsCounted w c → IsCounted w (spread k now p c)
unfolding spread
spread_counted k w now p c s =
    if_counted w _ _ _
    (planned_counted k w now (step p East) _ _ (planned_counted k w now (step p West) _ _ (planned_counted k w now (step p South) _ _ (planned_counted k w now (step p North) _ _ s))))
    s

onward_counted : (k : ℕ → Kind) (w : World) (now : ℕ) (p : Pos) (c : Change) → IsCounted w c → IsCounted w (onward k now p c)
unfolding onward
onward_counted k w now p c s =
    let fallen = set_counted k w now _ _ c s in
    if_counted w _ _ _ (if_counted w _ _ _ (spread_counted k w now p _ fallen) fallen) (if_counted w _ _ _ (spread_counted k w now p c s) s)

renewed_counted : (k : ℕ → Kind) (w : World) (now : ℕ) (p : Pos) (c : Change) → IsCounted w c → IsCounted w (renewed k now p c)
unfolding renewed
renewed_counted k w now p c s =
    let fresh = set_counted k w now _ _ c s in
    if_counted w _ _ _ (onward_counted k w now p c s) (if_counted w _ _ _ (onward_counted k w now p _ fresh) fresh)

turn_counted : (k : ℕ → Kind) (w : World) (now : ℕ) (p : Pos) → IsCounted w (turn k now p w)
unfolding turn
turn_counted k w now p =
    let s : IsCounted w (change w []) = record { counted = λ q. refl } in
    if_counted w _ _ _ (renewed_counted k w now p (change w []) s) s

-- after a turn those blocks wait that waited before, and those of the entries that it made
pub turn_waits : (k : ℕ → Kind) (now : ℕ) (p : Pos) (w : World) (q : Pos) → (turn k now p w).world.pending q ≡ cond (is_among q (turn k now p w).made) true (w.pending q)
turn_waits k now p w q = (turn_counted k w now p).counted q

entries_labelled : (maker n : ℕ) (es : List Entry) (ms : List Rattle.av_types.specs.declared.tick.Made.Made) → entries_of (labelled maker n es ++ ms) ≡ es ++ entries_of ms
entries_labelled maker n [] ms = refl
entries_labelled maker n (e ∷ es) ms = ap (λ l. e ∷ l) (entries_labelled maker (Rattle.std.proofs.Common.suc n) es ms)

pub turns_wait : (k : ℕ → Kind) (now : ℕ) (xs : List DueEntry) (w : World) (q : Pos) → (world_after k now xs w).pending q ≡ cond (is_among q (entries_of (made_after k now xs w))) true (w.pending q)
turns_wait k now [] w q = refl
turns_wait k now (x ∷ xs) w q =
    turns_wait k now xs (turn_of k now x w).world q
    ∙ ap (λ (b : Bool). cond (is_among q (entries_of (made_after k now xs (turn_of k now x w).world))) true b) (turn_waits k now x.entry.pos w q)
    ∙ sym (among_append q (turn_of k now x w).made (entries_of (made_after k now xs (turn_of k now x w).world)) (w.pending q))
    ∙ ap (λ (l : List Entry). cond (is_among q l) true (w.pending q)) (sym (entries_labelled x.index 0 (turn_of k now x w).made (made_after k now xs (turn_of k now x w).world)))

-- what a turn makes entries of did not wait before, and is made once
not_among : (q : Pos) (es : List Entry) (e : Entry) → is_among q es ≡ false → same_pos q e.pos ≡ false → is_among q (es ++ e ∷ []) ≡ false
not_among q [] e h g = ap (λ b. cond b true false) g
not_among q (x ∷ xs) e h g = let n = cond_neither (same_pos q x.pos) (is_among q xs) h in ap (λ b. cond b true (is_among q (xs ++ e ∷ []))) n.0 ∙ not_among q xs e n.1 g

new_push : (w : World) (es : List Entry) (e : Entry) → AreNew w es → w.pending e.pos ≡ false → is_among e.pos es ≡ false → AreNew w (es ++ e ∷ [])
new_push w [] e h p g = (p, refl, tt)
new_push w (x ∷ xs) e h p g =
    let n = cond_neither (same_pos e.pos x.pos) (is_among e.pos xs) g in
    (h.0, not_among x.pos xs e h.1 (same_pos_back e.pos x.pos n.0), new_push w xs e h.2 p n.1)

record IsFresh (w : World) (c : Change) : Type 0 where
  counted : IsCounted w c
  fresh : AreNew w c.made

fresh_if : (k : ℕ → Kind) (w : World) (b : Bool) (c : Change) (q : Pos) (now : ℕ) → wakes k c.world q ≡ b → IsFresh w c → IsFresh w (change (with_entry_if b c.world (entry_of q now)) (cond b (c.made ++ entry_of q now ∷ []) c.made))
fresh_if k w false c q now e s = s
fresh_if k w true c q now e s =
    let n = cond_neither (is_among q c.made) (w.pending q) (sym (s.counted.counted q) ∙ not-true (c.world.pending q) (and_parts _ (not (c.world.pending q)) e).1) in
    record { counted = woken_if w true c (entry_of q now) s.counted; fresh = new_push w c.made (entry_of q now) s.fresh n.1 n.0 }

woken_fresh : (k : ℕ → Kind) (w : World) (now : ℕ) (q : Pos) (c : Change) → IsFresh w c → IsFresh w (woken k now q c)
unfolding woken
woken_fresh k w now q c s = fresh_if k w (wakes k c.world q) c q now refl s

woken_all_fresh : (k : ℕ → Kind) (w : World) (now : ℕ) (qs : List Pos) (c : Change) → IsFresh w c → IsFresh w (woken_all k now qs c)
woken_all_fresh k w now [] c s = s
woken_all_fresh k w now (q ∷ qs) c s = woken_all_fresh k w now qs (woken k now q c) (woken_fresh k w now q c s)

set_fresh : (k : ℕ → Kind) (w : World) (now : ℕ) (q : Pos) (n : ℕ) (c : Change) → IsFresh w c → IsFresh w (set_awake k now q n c)
unfolding set_awake
set_fresh k w now q n c s = woken_all_fresh k w now (around q) (change (with_number c.world q n) c.made) (record { counted = record { counted = s.counted.counted }; fresh = s.fresh })

if_fresh : (w : World) (b : Bool) (x y : Change) → IsFresh w x → IsFresh w y → IsFresh w (cond b x y)
if_fresh w true x y s t = s
if_fresh w false x y s t = t

planned_fresh : (k : ℕ → Kind) (w : World) (now : ℕ) (q : Pos) (o : Option ℕ) (c : Change) → IsFresh w c → IsFresh w (set_planned k now q o c)
planned_fresh k w now q None c s = s
planned_fresh k w now q (Some n) c s = set_fresh k w now q n c s

spread_fresh : (k : ℕ → Kind) (w : World) (now : ℕ) (p : Pos) (c : Change) → IsFresh w c → IsFresh w (spread k now p c)
unfolding spread
spread_fresh k w now p c s =
    if_fresh w _ _ _
    (planned_fresh k w now (step p East) _ _ (planned_fresh k w now (step p West) _ _ (planned_fresh k w now (step p South) _ _ (planned_fresh k w now (step p North) _ _ s))))
    s

onward_fresh : (k : ℕ → Kind) (w : World) (now : ℕ) (p : Pos) (c : Change) → IsFresh w c → IsFresh w (onward k now p c)
unfolding onward
onward_fresh k w now p c s =
    let fallen = set_fresh k w now _ _ c s in
    if_fresh w _ _ _ (if_fresh w _ _ _ (spread_fresh k w now p _ fallen) fallen) (if_fresh w _ _ _ (spread_fresh k w now p c s) s)

renewed_fresh : (k : ℕ → Kind) (w : World) (now : ℕ) (p : Pos) (c : Change) → IsFresh w c → IsFresh w (renewed k now p c)
unfolding renewed
renewed_fresh k w now p c s =
    let fresh = set_fresh k w now _ _ c s in
    if_fresh w _ _ _ (onward_fresh k w now p c s) (if_fresh w _ _ _ (onward_fresh k w now p _ fresh) fresh)

pub turn_fresh : (k : ℕ → Kind) (w : World) (now : ℕ) (p : Pos) → AreNew w (turn k now p w).made
unfolding turn
turn_fresh k w now p =
    let s : IsFresh w (change w []) = record { counted = record { counted = λ q. refl }; fresh = tt } in
    (if_fresh w _ _ _ (renewed_fresh k w now p (change w []) s) s).fresh

among_or : (q : Pos) (xs ys : List Entry) → is_among q xs ≡ false → is_among q ys ≡ false → is_among q (xs ++ ys) ≡ false
among_or q [] ys h g = g
among_or q (x ∷ xs) ys h g = let n = cond_neither (same_pos q x.pos) (is_among q xs) h in ap (λ b. cond b true (is_among q (xs ++ ys))) n.0 ∙ among_or q xs ys n.1 g

-- new after es were made, and so new before
new_after : (w v : World) (es fs : List Entry) → AreNew w es → ((q : Pos) → v.pending q ≡ cond (is_among q es) true (w.pending q)) → AreNew v fs → AreNew w (es ++ fs)
new_after w v es fs h c g = join es h (λ q n. (cond_neither (is_among q es) (w.pending q) (sym (c q) ∙ n)).0) where
  drops : (fs : List Entry) → AreNew v fs → AreNew w fs
  drops [] g = tt
  drops (f ∷ fs) g = ((cond_neither (is_among f.pos es) (w.pending f.pos) (sym (c f.pos) ∙ g.0)).1, g.1, drops fs g.2)

  outside : (x : Entry) (fs : List Entry) → ((q : Pos) → v.pending q ≡ false → same_pos q x.pos ≡ false) → AreNew v fs → is_among x.pos fs ≡ false
  outside x [] o g = refl
  outside x (f ∷ fs) o g = ap (λ b. cond b true (is_among x.pos fs)) (same_pos_back f.pos x.pos (o f.pos g.0)) ∙ outside x fs o g.2

  join : (xs : List Entry) → AreNew w xs → ((q : Pos) → v.pending q ≡ false → is_among q xs ≡ false) → AreNew w (xs ++ fs)
  join [] h o = drops fs g
  join (x ∷ xs) h o =
      (h.0, among_or x.pos xs fs h.1 (outside x fs (λ q n. (cond_neither (same_pos q x.pos) (is_among q xs) (o q n)).0) g), join xs h.2 (λ q n. (cond_neither (same_pos q x.pos) (is_among q xs) (o q n)).1))

-- what turns make one after the other is new
pub turns_fresh : (k : ℕ → Kind) (now : ℕ) (xs : List DueEntry) (w : World) → AreNew w (entries_of (made_after k now xs w))
turns_fresh k now [] w = tt
turns_fresh k now (x ∷ xs) w =
    Rattle.std.proofs.Common.subst (AreNew w) (sym (entries_labelled x.index 0 (turn_of k now x w).made (made_after k now xs (turn_of k now x w).world)))
    (new_after w (turn_of k now x w).world (turn_of k now x w).made (entries_of (made_after k now xs (turn_of k now x w).world)) (turn_fresh k w now x.entry.pos) (turn_waits k now x.entry.pos w) (turns_fresh k now xs (turn_of k now x w).world))
