-- The directions that are chosen by computing are the chosen ones.
use Rattle.std.proofs.Common.{◌≡◌, ℕ, ◌<◌, ◌≤◌, nat_lt, nat_eq, Bool, true, false, ◌&&◌, cond, Option, Some, None, IsTrue, ◌⊎◌, inl, inr, ◌↔◌, refl, sym, ap, ◌∙◌, subst, arith}
use Rattle.std.proofs.lemmas.Bool.{cond-true}
use Rattle.std.proofs.lemmas.Bool.Decides.{nat_tests}
use Rattle.av_types.specs.declared.position.Pos.{Pos}
use Rattle.av_types.specs.declared.water.Direction.{Direction}
use Rattle.av_types.specs.declared.water.Direction.TheVariants.{North, South, West, East}
use Rattle.av_cells.specs.declared.kind.Kind.{Kind}
use Rattle.av_cells.specs.Positions.{step}
use Rattle.av_cells.specs.World.{World}
use Rattle.av_cells.specs.Rule.{can_enter, IsDrop}
use Rattle.av_cells.specs.Turn.{drop_of, rank_of, rank_at, least_rank, is_chosen}
use Rattle.av_water.specs.Choice.{HasNearest, HasNoDrops, IsChosen}
use Rattle.av_water.proofs.Ranks.{drop_of_is, drop_is}

least_le : (k : ℕ → Kind) (w : World) (p : Pos) (d : Direction) → least_rank k w p ≤ rank_at k w p d
unfolding least_rank
least_le k w p North = omega arith
least_le k w p South = omega arith
least_le k w p West = omega arith
least_le k w p East = omega arith

least_above : (k : ℕ → Kind) (w : World) (p : Pos) (n : ℕ) → ((d : Direction) → n ≤ rank_at k w p d) → n ≤ least_rank k w p
unfolding least_rank
least_above k w p n h = let a = h North in let b = h South in let c = h West in let d = h East in omega arith

entered_rank : (k : ℕ → Kind) (w : World) (p : Pos) (d : Direction) (o : Option ℕ) → can_enter k w (step p d) ≡ true → IsDrop k w (step p d) o → rank_at k w p d ≡ rank_of o
unfolding rank_at
entered_rank k w p d o h is = cond-true (can_enter k w (step p d)) (rank_of (drop_of k w (step p d))) 6 h ∙ ap rank_of (sym (drop_is k w (step p d) o is))

drop_most : (k : ℕ → Kind) (w : World) (q : Pos) (o : Option ℕ) → IsDrop k w q o → rank_of o ≤ 5
drop_most k w q None h = omega arith
drop_most k w q (Some n) h = let l = h.0 in omega arith

pub ranked_is_way : (b : Bool) (n : ℕ) → cond b n 6 < 6 → b ≡ true
ranked_is_way true n h = refl
ranked_is_way false n h = absurd (omega arith)

ranked_way : (k : ℕ → Kind) (w : World) (p : Pos) (d : Direction) → rank_at k w p d < 6 → can_enter k w (step p d) ≡ true
unfolding rank_at
ranked_way k w p d h = ranked_is_way (can_enter k w (step p d)) (rank_of (drop_of k w (step p d))) h

pub chosen_rank_below : (r l : ℕ) → (nat_lt r 6 && nat_eq r l) ≡ true → r < 6
chosen_rank_below r l h = grind (arith, nat_tests)

chosen_eq : (r l : ℕ) → (nat_lt r 6 && nat_eq r l) ≡ true → r ≡ l
chosen_eq r l h = grind (arith, nat_tests)

chosen_both : (r l : ℕ) → r < 6 → r ≡ l → (nat_lt r 6 && nat_eq r l) ≡ true
chosen_both r l h e = grind (arith, nat_tests)

-- of the side's drop o
best_of : (k : ℕ → Kind) (w : World) (p : Pos) (d : Direction) (o : Option ℕ) → IsDrop k w (step p d) o → rank_at k w p d ≡ rank_of o → rank_at k w p d ≡ least_rank k w p
    → ((n : ℕ) × HasNearest k w p d n) ⊎ HasNoDrops k w p
best_of k w p d (Some n) is r l =
    inl (
      n,
      record {
        drop = is;
        nearest = λ e m way drop. let a = least_le k w p e in let b = entered_rank k w p e (Some m) way drop in omega (arith, r, l, a, b);
      },
    )
best_of k w p d None is r l =
    inr (λ e way. none_of e (drop_of k w (step p e)) (drop_of_is k w (step p e)) (entered_rank k w p e (drop_of k w (step p e)) way (drop_of_is k w (step p e))))
  where
    none_of : (e : Direction) (u : Option ℕ) → IsDrop k w (step p e) u → rank_at k w p e ≡ rank_of u → IsDrop k w (step p e) None
    none_of e None s t = s
    none_of e (Some m) s t = absurd (let a = least_le k w p e in let b : m < 5 = s.0 in omega (arith, r, l, a, t, b))

chosen_is : (k : ℕ → Kind) (w : World) (p : Pos) (d : Direction) → is_chosen k w p d ≡ true → IsChosen k w p d
unfolding is_chosen
chosen_is k w p d h =
    let less = chosen_rank_below (rank_at k w p d) (least_rank k w p) h in
    let same = chosen_eq (rank_at k w p d) (least_rank k w p) h in
    let way = ranked_way k w p d less in
    record { enterable = way; best = best_of k w p d (drop_of k w (step p d)) (drop_of_is k w (step p d)) (entered_rank k w p d (drop_of k w (step p d)) way (drop_of_is k w (step p d))) same }

rank_above : (k : ℕ → Kind) (w : World) (p : Pos) (n : ℕ) → n ≤ 6 → (e : Direction) → ((can_enter k w (step p e) ≡ true) → n ≤ rank_of (drop_of k w (step p e))) → n ≤ rank_at k w p e
unfolding rank_at
rank_above k w p n most e h = above_if (can_enter k w (step p e)) (rank_of (drop_of k w (step p e))) h where
  above_if : (b : Bool) (m : ℕ) → (b ≡ true → n ≤ m) → n ≤ cond b m 6
  above_if true m f = f refl
  above_if false m f = most

drop_above : (k : ℕ → Kind) (w : World) (q : Pos) (n : ℕ) → n ≤ 5 → (o : Option ℕ) → IsDrop k w q o → ((m : ℕ) → IsDrop k w q (Some m) → n ≤ m) → n ≤ rank_of o
drop_above k w q n most None is h = most
drop_above k w q n most (Some m) is h = h m is

is_chosen_of : (k : ℕ → Kind) (w : World) (p : Pos) (d : Direction) → IsChosen k w p d → is_chosen k w p d ≡ true
unfolding is_chosen
is_chosen_of k w p d h =
    by h.best
  where
    near : (n : ℕ) → n ≤ 5 → rank_at k w p d ≡ n → ((e : Direction) → n ≤ rank_at k w p e) → (nat_lt (rank_at k w p d) 6 && nat_eq (rank_at k w p d) (least_rank k w p)) ≡ true
    near n most is all =
        let a = least_le k w p d in
        let b = least_above k w p n all in
        chosen_both (rank_at k w p d) (least_rank k w p) (omega arith) (omega arith)

    by : ((n : ℕ) × HasNearest k w p d n) ⊎ HasNoDrops k w p → (nat_lt (rank_at k w p d) 6 && nat_eq (rank_at k w p d) (least_rank k w p)) ≡ true
    by (inl (n, s)) =
        let l : n < 5 = s.drop.0 in
        near n (omega arith) (entered_rank k w p d (Some n) h.enterable s.drop)
        (λ e. rank_above k w p n (omega arith) e (λ way. drop_above k w (step p e) n (omega arith) (drop_of k w (step p e)) (drop_of_is k w (step p e)) (λ m drop. s.nearest e m way drop)))
    by (inr s) =
        near 5 (omega arith) (entered_rank k w p d None h.enterable (s d h.enterable))
        (λ e. rank_above k w p 5 (omega arith) e (λ way. let t : None ≡ drop_of k w (step p e) = drop_is k w (step p e) None (s e way) in subst (λ o. 5 ≤ rank_of o) t (omega arith)))

pub chosen : (k : ℕ → Kind) (w : World) (p : Pos) (d : Direction) → IsTrue (is_chosen k w p d) ↔ IsChosen k w p d
chosen k w p d = (chosen_is k w p d, is_chosen_of k w p d)
