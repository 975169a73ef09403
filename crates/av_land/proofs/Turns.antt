-- A turn of a world with other numbers, so many ticks later.
use Rattle.std.proofs.Common.{◌≡◌, ◌∙◌, ℕ, ◌+◌, pos, ◌+ℤ◌, nat_le, List, [], ◌∷◌, ◌++◌, Bool, true, false, not, ◌||◌, cond, Option, Some, None, refl, ap, sym, arith}
use Rattle.std.specs.Prelude.{option_map, map}
use Rattle.std.proofs.lemmas.Int.{ints}
use Rattle.std.proofs.lemmas.List.{map_push}
use Rattle.av_types.specs.declared.position.Pos.{Pos}
use Rattle.av_types.specs.declared.tick.Entry.{Entry}
use Rattle.av_types.specs.declared.water.Direction.{Direction}
use Rattle.av_types.specs.declared.water.Direction.TheVariants.{North, South, West, East}
use Rattle.av_types.specs.Water.{amount_of, is_wet, is_source}
use Rattle.av_cells.specs.declared.kind.Kind.{Kind}
use Rattle.av_cells.specs.Positions.{step, below, around, same_pos}
use Rattle.av_cells.specs.World.{World, with_number, with_entry_if}
use Rattle.av_cells.specs.Rule.{kind_at, can_enter, has_hole, sources_beside, incoming_at}
use Rattle.av_cells.specs.Turn.{Change, change, entry_of, wakes, woken, woken_all, set_awake, number_of_wet, planned, set_planned, spread, same_wet, onward, renewed, turn}
use Rattle.av_land.specs.Moved.{later, renumbered, moved_change, KeepsFirst, TurnMoves}
use Rattle.av_land.proofs.ReadsAlike.{kind_moved, enter_moved, hole_moved, sources_moved, incoming_moved, planned_moved, water_kept}

due_later : (now n : ℕ) → pos (now + n + 5) ≡ pos (now + 5) +ℤ pos n
due_later now n = omega (arith, ints)

pub entry_later : (p : Pos) (now n : ℕ) → entry_of p (now + n) ≡ later n (entry_of p now)
entry_later p now n = let e = due_later now n in λ i. record { pos = p; due = e i; priority = pos 0 }

made_later : (p : Pos) (now n : ℕ) (b : Bool) (es : List Entry)
    → cond b (map (later n) es ++ entry_of p (now + n) ∷ []) (map (later n) es) ≡ map (later n) (cond b (es ++ entry_of p now ∷ []) es)
made_later p now n true es = ap (λ e. map (later n) es ++ e ∷ []) (entry_later p now n) ∙ sym (map_push (later n) es (entry_of p now))
made_later p now n false es = refl

woken_moved : (k : ℕ → Kind) (f : ℕ → ℕ) (n now : ℕ) (p : Pos) (c : Change)
    → woken k (now + n) p (moved_change f n c) ≡ moved_change f n (woken (λ m. k (f m)) now p c)
unfolding woken kind_at
woken_moved k f n now p c =
    let e = made_later p now n (wakes (λ m. k (f m)) c.world p) c.made in
    λ i. change (renumbered f (with_entry_if (wakes (λ m. k (f m)) c.world p) c.world (entry_of p now))) (e i)

woken_all_moved : (k : ℕ → Kind) (f : ℕ → ℕ) (n now : ℕ) (ps : List Pos) (c : Change)
    → woken_all k (now + n) ps (moved_change f n c) ≡ moved_change f n (woken_all (λ m. k (f m)) now ps c)
woken_all_moved k f n now [] c = refl
woken_all_moved k f n now (p ∷ ps) c =
    ap (λ d. woken_all k (now + n) ps d) (woken_moved k f n now p c) ∙ woken_all_moved k f n now ps (woken (λ m. k (f m)) now p c)

cond_of : (f : ℕ → ℕ) (b : Bool) (m n : ℕ) → cond b (f m) (f n) ≡ f (cond b m n)
cond_of f true m n = refl
cond_of f false m n = refl

set_moved : (f : ℕ → ℕ) (w : World) (p : Pos) (m : ℕ) → with_number (renumbered f w) p (f m) ≡ renumbered f (with_number w p m)
set_moved f w p m = λ i. record { loaded = w.loaded; number = λ q. cond_of f (same_pos q p) m (w.number q) i; pending = w.pending }

pub set_awake_moved : (k : ℕ → Kind) (f : ℕ → ℕ) (n now : ℕ) (p : Pos) (m : ℕ) (c : Change)
    → set_awake k (now + n) p (f m) (moved_change f n c) ≡ moved_change f n (set_awake (λ m. k (f m)) now p m c)
unfolding set_awake
set_awake_moved k f n now p m c =
    ap (λ w. woken_all k (now + n) (around p) (change w (map (later n) c.made))) (set_moved f c.world p m)
    ∙ woken_all_moved k f n now (around p) (change (with_number c.world p m) c.made)

-- a set of air or water
set_water : (k : ℕ → Kind) (f : ℕ → ℕ) (n now : ℕ) (p : Pos) (x : ℕ) (c : Change) → f x ≡ x
    → set_awake k (now + n) p x (moved_change f n c) ≡ moved_change f n (set_awake (λ m. k (f m)) now p x c)
set_water k f n now p x c same =
    ap (λ m. set_awake k (now + n) p m (moved_change f n c)) (sym same) ∙ set_awake_moved k f n now p x c

set_incoming : (k : ℕ → Kind) (f : ℕ → ℕ) (n now : ℕ) (p : Pos) (c : Change) → KeepsFirst f
    → set_awake k (now + n) p (number_of_wet (incoming_at k (renumbered f c.world) p)) (moved_change f n c)
    ≡ moved_change f n (set_awake (λ m. k (f m)) now p (number_of_wet (incoming_at (λ m. k (f m)) c.world p)) c)
set_incoming k f n now p c keeps =
    ap (λ x. set_awake k (now + n) p (number_of_wet x) (moved_change f n c)) (incoming_moved k f c.world p)
    ∙ set_water k f n now p (number_of_wet (incoming_at (λ m. k (f m)) c.world p)) c (water_kept f (incoming_at (λ m. k (f m)) c.world p) keeps)

set_planned_moved : (k : ℕ → Kind) (f : ℕ → ℕ) (n now : ℕ) (q : Pos) (plan : Option ℕ) (c : Change)
    → set_planned k (now + n) q (option_map f plan) (moved_change f n c) ≡ moved_change f n (set_planned (λ m. k (f m)) now q plan c)
set_planned_moved k f n now q None c = refl
set_planned_moved k f n now q (Some m) c = set_awake_moved k f n now q m c

-- one side, after the others
side_moved : (k : ℕ → Kind) (f : ℕ → ℕ) (n now : ℕ) (p : Pos) (d : Direction) (w : World) (c e : Change) → KeepsFirst f → e ≡ moved_change f n c
    → set_planned k (now + n) (step p d) (planned k (renumbered f w) p d) e ≡ moved_change f n (set_planned (λ m. k (f m)) now (step p d) (planned (λ m. k (f m)) w p d) c)
side_moved k f n now p d w c e keeps is =
    ap (λ x. set_planned k (now + n) (step p d) (planned k (renumbered f w) p d) x) is
    ∙ ap (λ x. set_planned k (now + n) (step p d) x (moved_change f n c)) (planned_moved k f w p d keeps)
    ∙ set_planned_moved k f n now (step p d) (planned (λ m. k (f m)) w p d) c

if_moved : (f : ℕ → ℕ) (n : ℕ) (b d : Bool) (x y : Change) (u v : Change) → b ≡ d → x ≡ moved_change f n u → y ≡ moved_change f n v
    → cond b x y ≡ moved_change f n (cond d u v)
if_moved f n b true x y u v e g h = rw e g
if_moved f n b false x y u v e g h = rw e h

spread_moved : (k : ℕ → Kind) (f : ℕ → ℕ) (n now : ℕ) (p : Pos) (c : Change) → KeepsFirst f
    → spread k (now + n) p (moved_change f n c) ≡ moved_change f n (spread (λ m. k (f m)) now p c)
unfolding spread
spread_moved k f n now p c keeps =
    let g : ℕ → Kind = λ m. k (f m) in
    let w = c.world in
    let north = side_moved k f n now p North w c (moved_change f n c) keeps refl in
    let south = side_moved k f n now p South w _ _ keeps north in
    let west = side_moved k f n now p West w _ _ keeps south in
    let east = side_moved k f n now p East w _ _ keeps west in
    if_moved f n (nat_le 2 (amount_of (kind_at k (renumbered f w) p).wet)) (nat_le 2 (amount_of (kind_at g w p).wet)) _ _ _ c
    (ap (λ x. nat_le 2 (amount_of x.wet)) (kind_moved k f w p)) east refl

spread_after : (k : ℕ → Kind) (f : ℕ → ℕ) (n now : ℕ) (p : Pos) (c e : Change) → KeepsFirst f → e ≡ moved_change f n c
    → spread k (now + n) p e ≡ moved_change f n (spread (λ m. k (f m)) now p c)
spread_after k f n now p c e keeps is = ap (λ x. spread k (now + n) p x) is ∙ spread_moved k f n now p c keeps

onward_moved : (k : ℕ → Kind) (f : ℕ → ℕ) (n now : ℕ) (p : Pos) (c : Change) → KeepsFirst f
    → onward k (now + n) p (moved_change f n c) ≡ moved_change f n (onward (λ m. k (f m)) now p c)
unfolding onward
onward_moved k f n now p c keeps =
    let g : ℕ → Kind = λ m. k (f m) in
    let w = c.world in
    let fell = set_incoming k f n now (below p) c keeps in
    if_moved f n (can_enter k (renumbered f w) (below p)) (can_enter g w (below p)) _ _ _ _ (enter_moved k f w (below p))
    (if_moved f n (nat_le 3 (sources_beside k (renumbered f w) p)) (nat_le 3 (sources_beside g w p)) _ _ _ _ (ap (λ x. nat_le 3 x) (sources_moved k f w p))
    (spread_after k f n now p _ _ keeps fell) fell)
    (if_moved f n (is_source (kind_at k (renumbered f w) p).wet || not (has_hole k (renumbered f w) p)) (is_source (kind_at g w p).wet || not (has_hole g w p)) _ _ _ c
    (let a = kind_moved k f w p in let b = hole_moved k f w p in λ i. is_source (a i).wet || not (b i))
    (spread_moved k f n now p c keeps) refl)

onward_after : (k : ℕ → Kind) (f : ℕ → ℕ) (n now : ℕ) (p : Pos) (c e : Change) → KeepsFirst f → e ≡ moved_change f n c
    → onward k (now + n) p e ≡ moved_change f n (onward (λ m. k (f m)) now p c)
onward_after k f n now p c e keeps is = ap (λ x. onward k (now + n) p x) is ∙ onward_moved k f n now p c keeps

renewed_moved : (k : ℕ → Kind) (f : ℕ → ℕ) (n now : ℕ) (p : Pos) (c : Change) → KeepsFirst f
    → renewed k (now + n) p (moved_change f n c) ≡ moved_change f n (renewed (λ m. k (f m)) now p c)
unfolding renewed
renewed_moved k f n now p c keeps =
    let g : ℕ → Kind = λ m. k (f m) in
    let w = c.world in
    let came = incoming_moved k f w p in
    let kind = kind_moved k f w p in
    let set = set_incoming k f n now p c keeps in
    if_moved f n (is_source (kind_at k (renumbered f w) p).wet || same_wet (incoming_at k (renumbered f w) p) (kind_at k (renumbered f w) p).wet)
    (is_source (kind_at g w p).wet || same_wet (incoming_at g w p) (kind_at g w p).wet) _ _ _ _
    (λ i. is_source (kind i).wet || same_wet (came i) (kind i).wet)
    (onward_moved k f n now p c keeps)
    (if_moved f n (is_wet (incoming_at k (renumbered f w) p)) (is_wet (incoming_at g w p)) _ _ _ _ (ap is_wet came)
    (onward_after k f n now p _ _ keeps set) set)

pub turn_moved : TurnMoves
unfolding turn
turn_moved k f n now p w keeps =
    let g : ℕ → Kind = λ m. k (f m) in
    if_moved f n (is_wet (kind_at k (renumbered f w) p).wet) (is_wet (kind_at g w p).wet) _ _ (renewed g now p (change w [])) (change w [])
    (ap (λ x. is_wet x.wet) (kind_moved k f w p))
    (renewed_moved k f n now p (change w []) keeps) refl
