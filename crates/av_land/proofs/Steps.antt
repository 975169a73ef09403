-- What holds of a change through each set and each waking of a turn.
use Rattle.std.proofs.Common.{◌≡◌, ◌∙◌, ℕ, ◌<◌, nat_le, List, [], ◌∷◌, ◌++◌, Bool, true, false, not, ◌||◌, cond, Some, None, refl, ap, sym}
use Rattle.std.proofs.lemmas.Bool.{and_parts, not-true}
use Rattle.av_water.proofs.Renumbered.{wet_is_first}
use Rattle.av_types.specs.declared.position.Pos.{Pos}
use Rattle.av_types.specs.declared.water.Direction.{Direction}
use Rattle.av_types.specs.declared.water.Direction.TheVariants.{North, South, West, East}
use Rattle.av_types.specs.declared.water.Wet.{Wet}
use Rattle.av_types.specs.Water.{is_wet, is_source}
use Rattle.av_cells.specs.declared.kind.Kind.{Kind}
use Rattle.av_cells.specs.Positions.{step, below, around}
use Rattle.av_cells.specs.World.{World, with_number, with_entry_if}
use Rattle.av_cells.specs.Rule.{wet_at, can_enter, has_hole, sources_beside, incoming_at}
use Rattle.av_cells.specs.Turn.{Change, change, entry_of, wakes, woken, woken_all, set_awake, is_chosen, number_of_wet, planned, set_planned, spread, same_wet, onward, renewed, turn}
use Rattle.av_cells.proofs.Loaded.{wet_is_loaded}
use Rattle.av_water.proofs.Plans.{enterable_is_loaded, chosen_is_loaded}

-- a fact about changes that keeps through the waking of a block, and through a set of a loaded block to some numbers; L is what is loaded
pub record IsClosed (k : ℕ → Kind) (now : ℕ) (L : Pos → Bool) (M : ℕ → Type 0) (I : Change → Type 0) : Type 0 where
  pub loads : (c : Change) → I c → c.world.loaded ≡ L
  pub set : (p : Pos) (m : ℕ) (c : Change) → M m → L p ≡ true → I c → I (change (with_number c.world p m) c.made)
  pub wake : (p : Pos) (c : Change) → L p ≡ true → c.world.pending p ≡ false → I c → I (change (with_entry_if true c.world (entry_of p now)) (c.made ++ entry_of p now ∷ []))

there : (k : ℕ → Kind) (now : ℕ) (L : Pos → Bool) (M : ℕ → Type 0) (I : Change → Type 0) → IsClosed k now L M I → (c : Change) (p : Pos) → I c → c.world.loaded p ≡ true → L p ≡ true
there k now L M I h c p s l = sym (ap (λ f. f p) (h.loads c s)) ∙ l

woken_if : (k : ℕ → Kind) (now : ℕ) (L : Pos → Bool) (M : ℕ → Type 0) (I : Change → Type 0) → IsClosed k now L M I → (p : Pos) (c : Change) (b : Bool) → wakes k c.world p ≡ b → I c
    → I (change (with_entry_if b c.world (entry_of p now)) (cond b (c.made ++ entry_of p now ∷ []) c.made))
woken_if k now L M I h p c false e s = s
woken_if k now L M I h p c true e s =
    let parts = and_parts (is_wet (wet_at k c.world p)) (not (c.world.pending p)) e in
    h.wake p c (there k now L M I h c p s (wet_is_loaded k c.world p parts.0)) (not-true (c.world.pending p) parts.1) s

woken_keeps : (k : ℕ → Kind) (now : ℕ) (L : Pos → Bool) (M : ℕ → Type 0) (I : Change → Type 0) → IsClosed k now L M I → (p : Pos) (c : Change) → I c → I (woken k now p c)
unfolding woken
woken_keeps k now L M I h p c s = woken_if k now L M I h p c (wakes k c.world p) refl s

woken_all_keeps : (k : ℕ → Kind) (now : ℕ) (L : Pos → Bool) (M : ℕ → Type 0) (I : Change → Type 0) → IsClosed k now L M I → (ps : List Pos) (c : Change) → I c → I (woken_all k now ps c)
woken_all_keeps k now L M I h [] c s = s
woken_all_keeps k now L M I h (p ∷ ps) c s = woken_all_keeps k now L M I h ps (woken k now p c) (woken_keeps k now L M I h p c s)

pub set_keeps : (k : ℕ → Kind) (now : ℕ) (L : Pos → Bool) (M : ℕ → Type 0) (I : Change → Type 0) → IsClosed k now L M I → (p : Pos) (m : ℕ) (c : Change) → M m → L p ≡ true → I c → I (set_awake k now p m c)
unfolding set_awake
set_keeps k now L M I h p m c less l s = woken_all_keeps k now L M I h (around p) (change (with_number c.world p m) c.made) (h.set p m c less l s)

abbrev First : (ℕ → Type 0) → Type 0
First M = (m : ℕ) → m < 10 → M m

set_wet : (k : ℕ → Kind) (now : ℕ) (L : Pos → Bool) (M : ℕ → Type 0) (I : Change → Type 0) → IsClosed k now L M I → First M → (p : Pos) (x : Wet) (c : Change) → L p ≡ true → I c → I (set_awake k now p (number_of_wet x) c)
set_wet k now L M I h first p x c l s = set_keeps k now L M I h p (number_of_wet x) c (first (number_of_wet x) (wet_is_first x)) l s

if_keeps : (I : Change → Type 0) (b : Bool) (x y : Change) → (b ≡ true → I x) → I y → I (cond b x y)
if_keeps I true x y s t = s refl
if_keeps I false x y s t = t

planned_if : (k : ℕ → Kind) (now : ℕ) (L : Pos → Bool) (M : ℕ → Type 0) (I : Change → Type 0) → IsClosed k now L M I → First M → (q : Pos) (b : Bool) (x : Wet) (c : Change) → (b ≡ true → L q ≡ true) → I c
    → I (set_planned k now q (cond b (Some (number_of_wet x)) None) c)
planned_if k now L M I h first q true x c here s = set_wet k now L M I h first q x c (here refl) s
planned_if k now L M I h first q false x c here s = s

side_keeps : (k : ℕ → Kind) (now : ℕ) (L : Pos → Bool) (M : ℕ → Type 0) (I : Change → Type 0) → IsClosed k now L M I → First M → (p : Pos) (d : Direction) (c x : Change) → I c → I x
    → I (set_planned k now (step p d) (planned k c.world p d) x)
unfolding planned
side_keeps k now L M I h first p d c x s t =
    planned_if k now L M I h first (step p d) (is_chosen k c.world p d) (incoming_at k c.world (step p d)) x (λ e. there k now L M I h c (step p d) s (chosen_is_loaded k c.world p d e)) t

spread_keeps : (k : ℕ → Kind) (now : ℕ) (L : Pos → Bool) (M : ℕ → Type 0) (I : Change → Type 0) → IsClosed k now L M I → First M → (p : Pos) (c : Change) → I c → I (spread k now p c)
unfolding spread
spread_keeps k now L M I h first p c s =
    let side : (d : Direction) (x : Change) → I x → I (set_planned k now (step p d) (planned k c.world p d) x) = λ d x t. side_keeps k now L M I h first p d c x s t in
    if_keeps I _ _ _ (λ _. side East _ (side West _ (side South _ (side North c s)))) s

onward_keeps : (k : ℕ → Kind) (now : ℕ) (L : Pos → Bool) (M : ℕ → Type 0) (I : Change → Type 0) → IsClosed k now L M I → First M → (p : Pos) (c : Change) → I c → I (onward k now p c)
unfolding onward
onward_keeps k now L M I h first p c s =
    if_keeps I (can_enter k c.world (below p)) _ _
    (λ e. let fallen = set_wet k now L M I h first (below p) (incoming_at k c.world (below p)) c (there k now L M I h c (below p) s (enterable_is_loaded k c.world (below p) e)) s in
    if_keeps I (nat_le 3 (sources_beside k c.world p)) _ _ (λ _. spread_keeps k now L M I h first p _ fallen) fallen)
    (if_keeps I (is_source (wet_at k c.world p) || not (has_hole k c.world p)) _ _ (λ _. spread_keeps k now L M I h first p c s) s)

renewed_keeps : (k : ℕ → Kind) (now : ℕ) (L : Pos → Bool) (M : ℕ → Type 0) (I : Change → Type 0) → IsClosed k now L M I → First M → (p : Pos) (c : Change) → L p ≡ true → I c → I (renewed k now p c)
unfolding renewed
renewed_keeps k now L M I h first p c here s =
    let fresh = set_wet k now L M I h first p (incoming_at k c.world p) c here s in
    if_keeps I (is_source (wet_at k c.world p) || same_wet (incoming_at k c.world p) (wet_at k c.world p)) _ _ (λ _. onward_keeps k now L M I h first p c s)
    (if_keeps I (is_wet (incoming_at k c.world p)) _ _ (λ _. onward_keeps k now L M I h first p _ fresh) fresh)

pub turn_keeps : (k : ℕ → Kind) (now : ℕ) (L : Pos → Bool) (M : ℕ → Type 0) (I : Change → Type 0) → IsClosed k now L M I → First M → (p : Pos) (w : World) → I (change w []) → I (turn k now p w)
unfolding turn
turn_keeps k now L M I h first p w s =
    if_keeps I (is_wet (wet_at k w p)) _ _ (λ e. renewed_keeps k now L M I h first p (change w []) (there k now L M I h (change w []) p s (wet_is_loaded k w p e)) s) s
