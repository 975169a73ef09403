-- Sources stay: a turn sets no block that holds one.
use Rattle.std.proofs.Common.{◌≡◌, ℕ, ◌<◌, List, [], ◌∷◌, Bool, true, false, not, ◌&&◌, ◌||◌, cond, Some, None, refl, sym, ap, ◌∙◌, subst}
use Rattle.std.proofs.lemmas.Bool.{or_parts}
use Rattle.av_water.proofs.Chosen.{chosen_rank_below, ranked_is_way}
use Rattle.av_types.specs.declared.position.Pos.{Pos}
use Rattle.av_types.specs.declared.water.Direction.{Direction}
use Rattle.av_types.specs.declared.water.Direction.TheVariants.{North, South, West, East}
use Rattle.av_types.specs.declared.water.Wet.{Wet}
use Rattle.av_types.specs.declared.water.Wet.TheVariants.{Dry, Source, Flow, Falling}
use Rattle.av_types.specs.Water.{is_wet, is_source}
use Rattle.av_types.proofs.SamePositions.{same_pos_is}
use Rattle.av_cells.specs.declared.kind.Kind.{Kind}
use Rattle.av_cells.specs.Positions.{step, below, around, same_pos}
use Rattle.av_cells.specs.World.{World, with_number}
use Rattle.av_cells.specs.Rule.{kind_at, unloaded, wet_at, opens_at, can_enter, incoming_at}
use Rattle.av_cells.specs.Turn.{Change, change, woken, woken_all, set_awake, rank_at, rank_of, drop_of, is_chosen, least_rank, planned, number_of_wet, set_planned, spread, onward, renewed, same_wet, turn}

pub record Stays (k : ℕ → Kind) (w : World) (c : Change) : Type 0 where
  pub loaded : c.world.loaded ≡ w.loaded
  pub number : (q : Pos) → is_source (wet_at k w q) ≡ true → c.world.number q ≡ w.number q

no : (b : Bool) → (b ≡ true → false ≡ true) → b ≡ false
no true h = sym (h refl)
no false h = refl

source_is_wet : (t : Wet) → is_source t ≡ true → is_wet t ≡ true
source_is_wet Dry h = h
source_is_wet Source h = refl
source_is_wet (Flow n) h = refl
source_is_wet Falling h = refl

still_source : (k : ℕ → Kind) (w : World) (c : Change) (q : Pos) → Stays k w c → is_source (wet_at k w q) ≡ true → is_source (wet_at k c.world q) ≡ true
unfolding kind_at
still_source k w c q s h =
    let same : kind_at k c.world q ≡ kind_at k w q = λ i. cond (s.loaded i q) (k (s.number q h i)) unloaded in
    subst (λ (t : Kind). is_source t.wet ≡ true) (sym same) h

not_and : (a b : Bool) → (a && not b) ≡ true → b ≡ true → false ≡ true
not_and true true e h = e
not_and false true e h = e
not_and a false e h = h

entered_is_none : (k : ℕ → Kind) (w : World) (c : Change) (q : Pos) → Stays k w c → can_enter k c.world q ≡ true → is_source (wet_at k w q) ≡ false
unfolding can_enter
entered_is_none k w c q s e =
    no (is_source (wet_at k w q)) (λ h. not_and (opens_at k c.world q) (is_wet (wet_at k c.world q)) e (source_is_wet (wet_at k c.world q) (still_source k w c q s h)))

woken_stays : (k : ℕ → Kind) (w : World) (now : ℕ) (q : Pos) (c : Change) → Stays k w c → Stays k w (woken k now q c)
unfolding woken
woken_stays k w now q c s = record { loaded = s.loaded; number = s.number }

woken_all_stays : (k : ℕ → Kind) (w : World) (now : ℕ) (qs : List Pos) (c : Change) → Stays k w c → Stays k w (woken_all k now qs c)
woken_all_stays k w now [] c s = s
woken_all_stays k w now (q ∷ qs) c s = woken_all_stays k w now qs (woken k now q c) (woken_stays k w now q c s)

elsewhere : (k : ℕ → Kind) (w : World) (x q : Pos) → is_source (wet_at k w q) ≡ false → is_source (wet_at k w x) ≡ true → same_pos x q ≡ false
elsewhere k w x q none there = no (same_pos x q) (λ e. sym none ∙ subst (λ y. is_source (wet_at k w y) ≡ true) (same_pos_is x q e) there)

set_stays : (k : ℕ → Kind) (w : World) (now : ℕ) (q : Pos) (n : ℕ) (c : Change) → is_source (wet_at k w q) ≡ false → Stays k w c → Stays k w (set_awake k now q n c)
unfolding set_awake
set_stays k w now q n c none s =
    woken_all_stays k w now (around q) (change (with_number c.world q n) c.made)
    (record { loaded = s.loaded; number = λ x there. ap (λ b. cond b n (c.world.number x)) (elsewhere k w x q none there) ∙ s.number x there })

ranked_enters : (k : ℕ → Kind) (w : World) (p : Pos) (d : Direction) → rank_at k w p d < 6 → can_enter k w (step p d) ≡ true
unfolding rank_at
ranked_enters k w p d h = ranked_is_way (can_enter k w (step p d)) (rank_of (drop_of k w (step p d))) h

chosen_enters : (k : ℕ → Kind) (w : World) (p : Pos) (d : Direction) → is_chosen k w p d ≡ true → can_enter k w (step p d) ≡ true
unfolding is_chosen
chosen_enters k w p d h = ranked_enters k w p d (chosen_rank_below (rank_at k w p d) (least_rank k w p) h)

if_stays : (k : ℕ → Kind) (w : World) (b : Bool) (x y : Change) → (b ≡ true → Stays k w x) → (b ≡ false → Stays k w y) → Stays k w (cond b x y)
if_stays k w true x y s t = s refl
if_stays k w false x y s t = t refl

planned_if : (k : ℕ → Kind) (w : World) (now : ℕ) (q : Pos) (b : Bool) (n : ℕ) (c : Change) → (b ≡ true → is_source (wet_at k w q) ≡ false) → Stays k w c → Stays k w (set_planned k now q (cond b (Some n) None) c)
planned_if k w now q true n c none s = set_stays k w now q n c (none refl) s
planned_if k w now q false n c none s = s

side_stays : (k : ℕ → Kind) (w : World) (now : ℕ) (p : Pos) (d : Direction) (c x : Change) → Stays k w c → Stays k w x → Stays k w (set_planned k now (step p d) (planned k c.world p d) x)
unfolding planned
side_stays k w now p d c x s t =
    planned_if k w now (step p d) (is_chosen k c.world p d) (number_of_wet (incoming_at k c.world (step p d))) x
    (λ e. entered_is_none k w c (step p d) s (chosen_enters k c.world p d e)) t

spread_stays : (k : ℕ → Kind) (w : World) (now : ℕ) (p : Pos) (c : Change) → Stays k w c → Stays k w (spread k now p c)
unfolding spread
spread_stays k w now p c s =
    if_stays k w _ _ _
    (λ _. side_stays k w now p East c _ s (side_stays k w now p West c _ s (side_stays k w now p South c _ s (side_stays k w now p North c _ s s))))
    (λ _. s)

onward_stays : (k : ℕ → Kind) (w : World) (now : ℕ) (p : Pos) (c : Change) → Stays k w c → Stays k w (onward k now p c)
unfolding onward
onward_stays k w now p c s =
    if_stays k w _ _ _
    (λ e. let fallen = set_stays k w now (below p) _ c (entered_is_none k w c (below p) s e) s in
    if_stays k w _ _ _ (λ _. spread_stays k w now p _ fallen) (λ _. fallen))
    (λ _. if_stays k w _ _ _ (λ _. spread_stays k w now p c s) (λ _. s))

renewed_stays : (k : ℕ → Kind) (now : ℕ) (p : Pos) (w : World) → Stays k w (change w []) → Stays k w (renewed k now p (change w []))
unfolding renewed
renewed_stays k now p w s =
    let a = is_source (wet_at k w p) in
    let b = same_wet (incoming_at k w p) (wet_at k w p) in
    let n = number_of_wet (incoming_at k w p) in
    let x = set_awake k now p n (change w []) in
    if_stays k w (a || b) (onward k now p (change w [])) (cond (is_wet (incoming_at k w p)) (onward k now p x) x)
    (λ _. onward_stays k w now p (change w []) s)
    (λ e. let fresh = set_stays k w now p n (change w []) (or_parts a b e).0 s in
    if_stays k w (is_wet (incoming_at k w p)) (onward k now p x) x (λ _. onward_stays k w now p x fresh) (λ _. fresh))

pub turn_stays : (k : ℕ → Kind) (now : ℕ) (p : Pos) (w : World) → Stays k w (turn k now p w)
unfolding turn
turn_stays k now p w =
    let s : Stays k w (change w []) = record { loaded = refl; number = λ q h. refl } in
    if_stays k w _ _ _ (λ _. renewed_stays k now p w s) (λ _. s)
