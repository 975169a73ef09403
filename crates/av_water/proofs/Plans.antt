-- What a side is to be set to.
use Rattle.std.proofs.Common.{◌≡◌, ℕ, ◌<◌, Option, Some, None, refl, sym, ap, ◌∙◌, subst, true, false, cond}
use Rattle.std.proofs.lemmas.Bool.{and_parts}
use Rattle.av_types.specs.declared.position.Pos.{Pos}
use Rattle.av_types.specs.declared.water.Direction.{Direction}
use Rattle.av_cells.specs.declared.kind.Kind.{Kind}
use Rattle.av_cells.specs.Positions.{step}
use Rattle.av_cells.specs.World.{World}
use Rattle.av_cells.specs.Rule.{can_enter, incoming_at, opens_at, wet_at}
use Rattle.av_cells.specs.Turn.{drop_of, rank_at, rank_of, is_chosen, least_rank, planned, number_of_wet}
use Rattle.av_cells.proofs.Loaded.{open_is_loaded}
use Rattle.av_types.specs.Water.{is_wet}
use Rattle.av_water.specs.Sides.{IsPlanFor}
use Rattle.std.proofs.Common.{not}
use Rattle.av_water.proofs.Chosen.{chosen_rank_below, ranked_is_way}

pub enterable_is_loaded : (k : ℕ → Kind) (w : World) (q : Pos) → can_enter k w q ≡ true → w.loaded q ≡ true
unfolding can_enter
enterable_is_loaded k w q h = open_is_loaded k w q (and_parts (opens_at k w q) (not (is_wet (wet_at k w q))) h).0

pub side_is_loaded : (k : ℕ → Kind) (w : World) (p : Pos) (d : Direction) (r : ℕ) → r ≡ rank_at k w p d → r < 6 → w.loaded (step p d) ≡ true
unfolding rank_at
side_is_loaded k w p d r e h = enterable_is_loaded k w (step p d) (ranked_is_way (can_enter k w (step p d)) (rank_of (drop_of k w (step p d))) (subst (λ n. n < 6) e h))

none_some : (A : Type 0) (n : ℕ) (o : Option ℕ) → o ≡ None → o ≡ Some n → A
none_some A n o e f = cc

some_is : (P : ℕ → Type 0) (m n : ℕ) → P m → Some m ≡ Some n → P n
some_is P m n h e = subst P (let f : m ≡ n = cc in f) h

pub no_plan : (k : ℕ → Kind) (w : World) (p : Pos) (d : Direction) → is_chosen k w p d ≡ false → IsPlanFor k w p d None
unfolding planned
no_plan k w p d h =
    record {
      is = sym (ap (λ b. cond b (Some (number_of_wet (incoming_at k w (step p d)))) None) h);
      loaded = λ n e. none_some _ n None refl e;
      water = λ n e. none_some _ n None refl e;
    }

-- a chosen side is loaded
pub chosen_is_loaded : (k : ℕ → Kind) (w : World) (p : Pos) (d : Direction) → is_chosen k w p d ≡ true → w.loaded (step p d) ≡ true
unfolding is_chosen
chosen_is_loaded k w p d h = side_is_loaded k w p d (rank_at k w p d) refl (chosen_rank_below (rank_at k w p d) (least_rank k w p) h)

pub plan_some : (k : ℕ → Kind) (w : World) (p : Pos) (d : Direction) (n : ℕ) → is_chosen k w p d ≡ true → n ≡ number_of_wet (incoming_at k w (step p d)) → n < 10 → IsPlanFor k w p d (Some n)
unfolding planned
plan_some k w p d n chosen is less =
    record {
      is = ap Some is ∙ sym (ap (λ b. cond b (Some (number_of_wet (incoming_at k w (step p d)))) None) chosen);
      loaded = λ m g. chosen_is_loaded k w p d chosen;
      water = λ m g. some_is (λ m. m < 10) n m less g;
    }
