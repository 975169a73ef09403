-- What a turn reads: worlds that agree on some blocks, and each word of the rule on them.
use Rattle.std.proofs.Common.{◌≡◌, ℕ, zero, suc, ◌+◌, ◌-◌, ◌<◌, max, min, nat_le, nat_lt, nat_eq, List, [], ◌∷◌, ◌++◌, Bool, true, false, not, ◌&&◌, ◌||◌, cond, Option, Some, None, refl, ap, subst, arith}
use Rattle.av_types.specs.declared.position.Pos.{Pos}
use Rattle.av_types.specs.declared.water.Direction.{Direction}
use Rattle.av_types.specs.declared.water.Direction.TheVariants.{North, South, West, East}
use Rattle.av_types.specs.declared.water.Wet.TheVariants.{Dry, Source, Flow, Falling}
use Rattle.av_types.specs.Water.{amount_of, is_wet, is_source}
use Rattle.av_cells.specs.declared.kind.Kind.{Kind}
use Rattle.av_cells.specs.Positions.{step, below, above, around, same_pos, ForAround}
use Rattle.av_cells.specs.World.{World, with_number}
use Rattle.av_cells.specs.Rule.{kind_at, unloaded, can_enter, has_hole, one_if, sources_beside, most_beside, incoming_at, can_pass, can_drop, found_or, found_below}
use Rattle.av_cells.specs.Turn.{Change, change, entry_of, wakes, woken, woken_all, set_awake, drop_of, rank_of, rank_at, least_rank, is_chosen, planned, number_of_wet, set_planned, spread, onward, renewed, same_wet, turn}
use Rattle.av_water.specs.Frame.{Agree, Same}

pub kind_same : (k : ℕ → Kind) (R : Pos → Type 0) (v w : World) (q : Pos) → Agree R v w → R q → kind_at k v q ≡ kind_at k w q
unfolding kind_at
kind_same k R v w q a r = λ i. cond (a.same_loaded q r i) (k (a.same_number q r i)) unloaded

pub enter_same : (k : ℕ → Kind) (R : Pos → Type 0) (v w : World) (q : Pos) → Agree R v w → R q → can_enter k v q ≡ can_enter k w q
unfolding can_enter
enter_same k R v w q a r = let s = kind_same k R v w q a r in λ i. (s i).opens && not (is_wet (s i).wet)

pub hole_same : (k : ℕ → Kind) (R : Pos → Type 0) (v w : World) (q : Pos) → Agree R v w → R (below q) → has_hole k v q ≡ has_hole k w q
unfolding has_hole
hole_same k R v w q a r = let s = kind_same k R v w (below q) a r in let e = enter_same k R v w (below q) a r in λ i. is_wet (s i).wet || e i

pub sources_same : (k : ℕ → Kind) (R : Pos → Type 0) (v w : World) (q : Pos) → Agree R v w → ((d : Direction) → R (step q d)) → sources_beside k v q ≡ sources_beside k w q
unfolding sources_beside
sources_same k R v w q a r =
    let s : (d : Direction) → kind_at k v (step q d) ≡ kind_at k w (step q d) = λ d. kind_same k R v w (step q d) a (r d) in
    λ i. one_if (is_source (s North i).wet) + one_if (is_source (s South i).wet) + one_if (is_source (s West i).wet) + one_if (is_source (s East i).wet)

most_same : (k : ℕ → Kind) (R : Pos → Type 0) (v w : World) (q : Pos) → Agree R v w → ((d : Direction) → R (step q d)) → most_beside k v q ≡ most_beside k w q
unfolding most_beside
most_same k R v w q a r =
    let s : (d : Direction) → kind_at k v (step q d) ≡ kind_at k w (step q d) = λ d. kind_same k R v w (step q d) a (r d) in
    λ i. max (max (amount_of (s North i).wet) (amount_of (s South i).wet)) (max (amount_of (s West i).wet) (amount_of (s East i).wet))

pub incoming_same : (k : ℕ → Kind) (R : Pos → Type 0) (v w : World) (q : Pos) → Agree R v w → ForAround R q → incoming_at k v q ≡ incoming_at k w q
unfolding incoming_at
incoming_same k R v w q a r =
    let n = sources_same k R v w q a r.beside in
    let m = most_same k R v w q a r.beside in
    let b = kind_same k R v w (below q) a r.beneath in
    let t = kind_same k R v w (above q) a r.overhead in
    λ i. cond (nat_le 2 (n i) && ((b i).floor || is_source (b i).wet)) Source (cond (is_wet (t i).wet) Falling (cond (nat_le 2 (m i)) (Flow (m i - 1)) Dry))

pass_same : (k : ℕ → Kind) (R : Pos → Type 0) (v w : World) (q : Pos) → Agree R v w → R q → can_pass k v q ≡ can_pass k w q
unfolding can_pass
pass_same k R v w q a r = let s = kind_same k R v w q a r in λ i. ((s i).opens || is_wet (s i).wet) && not (is_source (s i).wet)

-- what a walk of n steps from q sees lies there
abbrev pub Sees : (Pos → Type 0) → ℕ → Pos → Type 0
Sees R zero q = R q × R (below q)
Sees R (suc n) q = R q × ((d : Direction) → Sees R n (step q d))

walk_same : (k : ℕ → Kind) (R : Pos → Type 0) (v w : World) → Agree R v w → (n : ℕ) (q : Pos) → Sees R n q → can_drop k v n q ≡ can_drop k w n q
unfolding can_drop
walk_same k R v w a zero q r = let s = pass_same k R v w q a r.0 in let h = hole_same k R v w q a r.1 in λ i. s i && h i
walk_same k R v w a (suc n) q r =
    let s = pass_same k R v w q a r.0 in
    let f : (d : Direction) → can_drop k v n (step q d) ≡ can_drop k w n (step q d) = λ d. walk_same k R v w a n (step q d) (r.1 d) in
    λ i. s i && (f North i || f South i || f West i || f East i)

found_same : (k : ℕ → Kind) (R : Pos → Type 0) (v w : World) → Agree R v w → (n : ℕ) (q : Pos) → ((m : ℕ) → m < n → Sees R m q) → found_below k v q n ≡ found_below k w q n
found_same k R v w a zero q r = refl
found_same k R v w a (suc n) q r =
    let f = found_same k R v w a n q (λ m l. r m (omega arith)) in
    let s = walk_same k R v w a n q (r n (omega arith)) in
    λ i. found_or (f i) (s i) n

pub drop_same : (k : ℕ → Kind) (R : Pos → Type 0) (v w : World) (q : Pos) → Agree R v w → ((m : ℕ) → m < 5 → Sees R m q) → drop_of k v q ≡ drop_of k w q
unfolding drop_of
drop_same k R v w q a r = found_same k R v w a 5 q r

-- what the choice of sides of p sees
pub record SeesSides (R : Pos → Type 0) (p : Pos) : Type 0 where
  pub side : (d : Direction) → R (step p d)
  pub walks : (d : Direction) (m : ℕ) → m < 5 → Sees R m (step p d)
  pub around_side : (d : Direction) → ForAround R (step p d)

rank_same : (k : ℕ → Kind) (R : Pos → Type 0) (v w : World) (p : Pos) (d : Direction) → Agree R v w → SeesSides R p → rank_at k v p d ≡ rank_at k w p d
unfolding rank_at
rank_same k R v w p d a r =
    let e = enter_same k R v w (step p d) a (r.side d) in
    let f = drop_same k R v w (step p d) a (r.walks d) in
    λ i. cond (e i) (rank_of (f i)) 6

least_same : (k : ℕ → Kind) (R : Pos → Type 0) (v w : World) (p : Pos) → Agree R v w → SeesSides R p → least_rank k v p ≡ least_rank k w p
unfolding least_rank
least_same k R v w p a r =
    let f : (d : Direction) → rank_at k v p d ≡ rank_at k w p d = λ d. rank_same k R v w p d a r in
    λ i. min (min (f North i) (f South i)) (min (f West i) (f East i))

pub planned_same : (k : ℕ → Kind) (R : Pos → Type 0) (v w : World) (p : Pos) (d : Direction) → Agree R v w → SeesSides R p → planned k v p d ≡ planned k w p d
unfolding planned is_chosen
planned_same k R v w p d a r =
    let f = rank_same k R v w p d a r in
    let l = least_same k R v w p a r in
    let n = incoming_same k R v w (step p d) a (r.around_side d) in
    λ i. cond (nat_lt (f i) 6 && nat_eq (f i) (l i)) (Some (number_of_wet (n i))) None

-- changes that agree stay so
pub woken_same : (k : ℕ → Kind) (R : Pos → Type 0) (now : ℕ) (q : Pos) (c d : Change) → R q → Same R c d → Same R (woken k now q c) (woken k now q d)
unfolding woken
woken_same k R now q c d r s =
    let e = kind_same k R c.world d.world q s.agree r in
    let b : wakes k c.world q ≡ wakes k d.world q = λ i. is_wet (e i).wet && not (s.agree.same_pending q r i) in
    record {
      agree = record {
        same_loaded = s.agree.same_loaded;
        same_number = s.agree.same_number;
        same_pending = λ x h. λ i. cond (b i && same_pos x q) true (s.agree.same_pending x h i);
      };
      same_made = λ i. cond (b i) (s.same_made i ++ entry_of q now ∷ []) (s.same_made i);
    }

abbrev AllOf : (Pos → Type 0) → List Pos → Type 0
AllOf R [] = Unit {0}
AllOf R (q ∷ qs) = R q × AllOf R qs

woken_all_same : (k : ℕ → Kind) (R : Pos → Type 0) (now : ℕ) (qs : List Pos) (c d : Change) → AllOf R qs → Same R c d → Same R (woken_all k now qs c) (woken_all k now qs d)
woken_all_same k R now [] c d r s = s
woken_all_same k R now (q ∷ qs) c d r s = woken_all_same k R now qs (woken k now q c) (woken k now q d) r.1 (woken_same k R now q c d r.0 s)

pub set_same : (k : ℕ → Kind) (R : Pos → Type 0) (now : ℕ) (q : Pos) (n m : ℕ) (c d : Change) → n ≡ m → ForAround R q → Same R c d → Same R (set_awake k now q n c) (set_awake k now q m d)
unfolding set_awake
set_same k R now q n m c d e r s =
    woken_all_same k R now (around q) (change (with_number c.world q n) c.made) (change (with_number d.world q m) d.made)
    (r.itself, (r.beneath, (r.overhead, (r.beside North, (r.beside South, (r.beside West, (r.beside East, tt)))))))
    (record {
      agree = record {
        same_loaded = s.agree.same_loaded;
        same_number = λ x h. λ i. cond (same_pos x q) (e i) (s.agree.same_number x h i);
        same_pending = s.agree.same_pending;
      };
      same_made = s.same_made;
    })

set_planned_one : (k : ℕ → Kind) (R : Pos → Type 0) (now : ℕ) (q : Pos) (o : Option ℕ) (c d : Change) → ForAround R q → Same R c d → Same R (set_planned k now q o c) (set_planned k now q o d)
set_planned_one k R now q None c d r s = s
set_planned_one k R now q (Some n) c d r s = set_same k R now q n n c d refl r s

set_planned_same : (k : ℕ → Kind) (R : Pos → Type 0) (now : ℕ) (q : Pos) (o u : Option ℕ) (c d : Change) → o ≡ u → ForAround R q → Same R c d → Same R (set_planned k now q o c) (set_planned k now q u d)
set_planned_same k R now q o u c d e r s = subst (λ x. Same R (set_planned k now q o c) (set_planned k now q x d)) e (set_planned_one k R now q o c d r s)

if_one : (R : Pos → Type 0) (b : Bool) (x y u v : Change) → Same R x u → Same R y v → Same R (cond b x y) (cond b u v)
if_one R true x y u v s t = s
if_one R false x y u v s t = t

if_same : (R : Pos → Type 0) (b e : Bool) (x y u v : Change) → b ≡ e → Same R x u → Same R y v → Same R (cond b x y) (cond e u v)
if_same R b e x y u v is s t = subst (λ f. Same R (cond b x y) (cond f u v)) is (if_one R b x y u v s t)

-- what a turn of p sees
pub record SeesTurn (R : Pos → Type 0) (p : Pos) : Type 0 where
  pub nearby : ForAround R p
  pub sides : SeesSides R p
  pub around_below : ForAround R (below p)

spread_same : (k : ℕ → Kind) (R : Pos → Type 0) (now : ℕ) (p : Pos) (c d : Change) → SeesTurn R p → Same R c d → Same R (spread k now p c) (spread k now p d)
unfolding spread
spread_same k R now p c d r s =
    let e = kind_same k R c.world d.world p s.agree r.nearby.itself in
    let f : (x : Direction) → planned k c.world p x ≡ planned k d.world p x = λ x. planned_same k R c.world d.world p x s.agree r.sides in
    if_same R _ _ _ _ _ _ (ap (λ t. nat_le 2 (amount_of t.wet)) e)
    (set_planned_same k R now (step p East) _ _ _ _ (f East) (r.sides.around_side East)
    (set_planned_same k R now (step p West) _ _ _ _ (f West) (r.sides.around_side West)
    (set_planned_same k R now (step p South) _ _ _ _ (f South) (r.sides.around_side South)
    (set_planned_same k R now (step p North) _ _ _ _ (f North) (r.sides.around_side North) s))))
    s

onward_same : (k : ℕ → Kind) (R : Pos → Type 0) (now : ℕ) (p : Pos) (c d : Change) → SeesTurn R p → Same R c d → Same R (onward k now p c) (onward k now p d)
unfolding onward
onward_same k R now p c d r s =
    let e = kind_same k R c.world d.world p s.agree r.nearby.itself in
    let g = enter_same k R c.world d.world (below p) s.agree r.nearby.beneath in
    let h = hole_same k R c.world d.world p s.agree r.nearby.beneath in
    let n = sources_same k R c.world d.world p s.agree r.nearby.beside in
    let m = incoming_same k R c.world d.world (below p) s.agree r.around_below in
    let fallen = set_same k R now (below p) _ _ c d (ap number_of_wet m) r.around_below s in
    if_same R _ _ _ _ _ _ g
    (if_same R _ _ _ _ _ _ (ap (nat_le 3) n) (spread_same k R now p _ _ r fallen) fallen)
    (if_same R _ _ _ _ _ _ (λ i. is_source (e i).wet || not (h i)) (spread_same k R now p c d r s) s)

renewed_same : (k : ℕ → Kind) (R : Pos → Type 0) (now : ℕ) (p : Pos) (c d : Change) → SeesTurn R p → Same R c d → Same R (renewed k now p c) (renewed k now p d)
unfolding renewed
renewed_same k R now p c d r s =
    let e = kind_same k R c.world d.world p s.agree r.nearby.itself in
    let m = incoming_same k R c.world d.world p s.agree r.nearby in
    let fresh = set_same k R now p _ _ c d (ap number_of_wet m) r.nearby s in
    if_same R _ _ _ _ _ _ (λ i. is_source (e i).wet || same_wet (m i) (e i).wet)
    (onward_same k R now p c d r s)
    (if_same R _ _ _ _ _ _ (ap is_wet m) (onward_same k R now p _ _ r fresh) fresh)

pub turn_same : (k : ℕ → Kind) (R : Pos → Type 0) (now : ℕ) (p : Pos) (v w : World) → SeesTurn R p → Agree R v w → Same R (turn k now p v) (turn k now p w)
unfolding turn
turn_same k R now p v w r a =
    let e = kind_same k R v w p a r.nearby.itself in
    let s : Same R (change v []) (change w []) = record { agree = a; same_made = refl } in
    if_same R _ _ _ _ _ _ (ap (λ t. is_wet t.wet) e) (renewed_same k R now p _ _ r s) s
