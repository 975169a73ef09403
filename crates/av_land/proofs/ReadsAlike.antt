-- What the rule reads of a world with other numbers.
use Rattle.std.proofs.Common.{◌≡◌, ℕ, zero, suc, min, nat_lt, nat_eq, Bool, true, false, ◌&&◌, ◌||◌, cond, Some, None, refl, ap, sym}
use Rattle.std.specs.Prelude.{option_map}
use Rattle.av_water.proofs.Renumbered.{wet_is_first}
use Rattle.av_types.specs.declared.position.Pos.{Pos}
use Rattle.av_types.specs.declared.water.Direction.{Direction}
use Rattle.av_types.specs.declared.water.Direction.TheVariants.{North, South, West, East}
use Rattle.av_types.specs.declared.water.Wet.{Wet}
use Rattle.av_cells.specs.declared.kind.Kind.{Kind}
use Rattle.av_cells.specs.Positions.{step}
use Rattle.av_cells.specs.World.{World}
use Rattle.av_cells.specs.Rule.{kind_at, can_enter, has_hole, sources_beside, most_beside, incoming_at, can_pass, can_drop, found_or, found_below}
use Rattle.av_cells.specs.Turn.{number_of_wet, drop_of, rank_of, rank_at, least_rank, is_chosen, planned}
use Rattle.av_land.specs.Moved.{renumbered, KeepsFirst}

pub kind_moved : (k : ℕ → Kind) (f : ℕ → ℕ) (w : World) (p : Pos) → kind_at k (renumbered f w) p ≡ kind_at (λ m. k (f m)) w p
unfolding kind_at
kind_moved k f w p = refl

pub enter_moved : (k : ℕ → Kind) (f : ℕ → ℕ) (w : World) (p : Pos) → can_enter k (renumbered f w) p ≡ can_enter (λ m. k (f m)) w p
unfolding kind_at can_enter
enter_moved k f w p = refl

pub hole_moved : (k : ℕ → Kind) (f : ℕ → ℕ) (w : World) (p : Pos) → has_hole k (renumbered f w) p ≡ has_hole (λ m. k (f m)) w p
unfolding kind_at can_enter has_hole
hole_moved k f w p = refl

pub sources_moved : (k : ℕ → Kind) (f : ℕ → ℕ) (w : World) (p : Pos) → sources_beside k (renumbered f w) p ≡ sources_beside (λ m. k (f m)) w p
unfolding kind_at sources_beside
sources_moved k f w p = refl

pub incoming_moved : (k : ℕ → Kind) (f : ℕ → ℕ) (w : World) (p : Pos) → incoming_at k (renumbered f w) p ≡ incoming_at (λ m. k (f m)) w p
unfolding kind_at sources_beside most_beside incoming_at
incoming_moved k f w p = refl

pass_moved : (k : ℕ → Kind) (f : ℕ → ℕ) (w : World) (p : Pos) → can_pass k (renumbered f w) p ≡ can_pass (λ m. k (f m)) w p
unfolding kind_at can_pass
pass_moved k f w p = refl

walk_moved : (k : ℕ → Kind) (f : ℕ → ℕ) (w : World) (n : ℕ) (p : Pos) → can_drop k (renumbered f w) n p ≡ can_drop (λ m. k (f m)) w n p
unfolding can_drop
walk_moved k f w zero p = let s = pass_moved k f w p in let h = hole_moved k f w p in λ i. s i && h i
walk_moved k f w (suc n) p =
    let s = pass_moved k f w p in
    let g : (d : Direction) → can_drop k (renumbered f w) n (step p d) ≡ can_drop (λ m. k (f m)) w n (step p d) = λ d. walk_moved k f w n (step p d) in
    λ i. s i && (g North i || g South i || g West i || g East i)

found_moved : (k : ℕ → Kind) (f : ℕ → ℕ) (w : World) (p : Pos) (n : ℕ) → found_below k (renumbered f w) p n ≡ found_below (λ m. k (f m)) w p n
found_moved k f w p zero = refl
found_moved k f w p (suc n) = let g = found_moved k f w p n in let s = walk_moved k f w n p in λ i. found_or (g i) (s i) n

rank_moved : (k : ℕ → Kind) (f : ℕ → ℕ) (w : World) (p : Pos) (d : Direction) → rank_at k (renumbered f w) p d ≡ rank_at (λ m. k (f m)) w p d
unfolding rank_at drop_of
rank_moved k f w p d =
    let e = enter_moved k f w (step p d) in
    let g = found_moved k f w (step p d) 5 in
    λ i. cond (e i) (rank_of (g i)) 6

least_moved : (k : ℕ → Kind) (f : ℕ → ℕ) (w : World) (p : Pos) → least_rank k (renumbered f w) p ≡ least_rank (λ m. k (f m)) w p
unfolding least_rank
least_moved k f w p =
    let g : (d : Direction) → rank_at k (renumbered f w) p d ≡ rank_at (λ m. k (f m)) w p d = λ d. rank_moved k f w p d in
    λ i. min (min (g North i) (g South i)) (min (g West i) (g East i))

chosen_moved : (k : ℕ → Kind) (f : ℕ → ℕ) (w : World) (p : Pos) (d : Direction) → is_chosen k (renumbered f w) p d ≡ is_chosen (λ m. k (f m)) w p d
unfolding is_chosen
chosen_moved k f w p d =
    let g = rank_moved k f w p d in
    let l = least_moved k f w p in
    λ i. nat_lt (g i) 6 && nat_eq (g i) (l i)

pub water_kept : (f : ℕ → ℕ) (x : Wet) → KeepsFirst f → f (number_of_wet x) ≡ number_of_wet x
water_kept f x keeps = keeps (number_of_wet x) (wet_is_first x)

map_if : (f : ℕ → ℕ) (b : Bool) (m n : ℕ) → f m ≡ n → cond b (Some n) None ≡ option_map f (cond b (Some m) None)
map_if f true m n h = ap (λ x. Some x) (sym h)
map_if f false m n h = refl

planned_by : (k : ℕ → Kind) (f : ℕ → ℕ) (w : World) (p : Pos) (d : Direction) (b : Bool) (x y : Wet) → KeepsFirst f → y ≡ x
    → cond b (Some (number_of_wet y)) None ≡ option_map f (cond b (Some (number_of_wet x)) None)
planned_by k f w p d b x y keeps e = map_if f b (number_of_wet x) (number_of_wet y) (rw e (water_kept f x keeps))

pub planned_moved : (k : ℕ → Kind) (f : ℕ → ℕ) (w : World) (p : Pos) (d : Direction) → KeepsFirst f
    → planned k (renumbered f w) p d ≡ option_map f (planned (λ m. k (f m)) w p d)
unfolding planned
planned_moved k f w p d keeps =
    rw (chosen_moved k f w p d) (planned_by k f w p d (is_chosen (λ m. k (f m)) w p d) (incoming_at (λ m. k (f m)) w (step p d)) (incoming_at k (renumbered f w) (step p d)) keeps (incoming_moved k f w (step p d)))
