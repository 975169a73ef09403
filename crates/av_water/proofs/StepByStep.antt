-- Steps of a turn, one after another.
use Rattle.std.proofs.Common.{◌≡◌, ℕ, ◌+◌, ◌≤◌, List, sym, ap, ◌∙◌, subst, arith}
use Rattle.av_types.specs.declared.position.Pos.{Pos}
use Rattle.av_types.specs.declared.tick.Entry.{Entry}
use Rattle.av_cells.specs.Positions.{ForAround, ForTurned, InReach}
use Rattle.av_cells.specs.Turn.{Change, change}
use Rattle.av_cells.specs.World.{World, Lists, Site}
use Rattle.av_cells.proofs.Wakes.{Appends-trans}
use Rattle.av_water.specs.Steps.{IsTurnStep, MaySet}
use Rattle.av_water.proofs.Readiness.{ready_less, around_itself, around_below, around_side}

-- what lies around a block that a turn may set lies in reach
pub around_set : (p q : Pos) → MaySet p q → ForAround (InReach p) q
around_set p q (MaySet.itself e) = subst (ForAround (InReach p)) (sym e) (around_itself p)
around_set p q (MaySet.beneath e) = subst (ForAround (InReach p)) (sym e) (around_below p)
around_set p q (MaySet.beside d e) = subst (ForAround (InReach p)) (sym e) (around_side p d)

-- what holds of the blocks that a turn may set holds of each
pub turned_set : (P : Pos → Type 0) (p q : Pos) → MaySet p q → ForTurned P p → P q
turned_set P p q (MaySet.itself e) h = subst P (sym e) h.itself
turned_set P p q (MaySet.beneath e) h = subst P (sym e) h.beneath
turned_set P p q (MaySet.beside d e) h = subst P (sym e) (h.beside d)

-- the same step in other words, with room for more
pub step_as : {S : Type 0} {world : S → World} {lists : S → Lists} {site : S → Site} {room : S → Pos → ℕ} {can_set : S → Pos → ℕ → Type 0} {count : ℕ} {p : Pos} {m n : ℕ} {f does : Change → Change} {s t : S} {es fs : List Entry}
    → IsTurnStep world lists site room can_set count p m f s es t fs → m ≤ n → f (change (world s) es) ≡ does (change (world s) es) → IsTurnStep world lists site room can_set count p n does s es t fs
step_as {m = m} {n = n} h less is =
    record {
      changed = h.changed ∙ is;
      listed = h.listed;
      same_site = h.same_site;
      same_loaded = h.same_loaded;
      still_ready = λ adds r. h.still_ready adds (ready_less _ _ _ _ _ _ (adds + n) (adds + m) (omega (arith, less)) r);
    }

-- one step after another
pub step_then : {S : Type 0} {world : S → World} {lists : S → Lists} {site : S → Site} {room : S → Pos → ℕ} {can_set : S → Pos → ℕ → Type 0} {count : ℕ} {p : Pos} {m n : ℕ} {f g : Change → Change} {s t u : S} {es fs hs : List Entry}
    → IsTurnStep world lists site room can_set count p m f s es t fs → IsTurnStep world lists site room can_set count p n g t fs u hs → IsTurnStep world lists site room can_set count p (m + n) (λ c. g (f c)) s es u hs
step_then {m = m} {n = n} {g = g} a b =
    record {
      changed = b.changed ∙ ap g a.changed;
      listed = Appends-trans _ _ _ _ _ _ a.listed b.listed;
      same_site = b.same_site ∙ a.same_site;
      same_loaded = b.same_loaded ∙ a.same_loaded;
      still_ready = λ adds r. b.still_ready adds (a.still_ready (adds + n) (ready_less _ _ _ _ _ _ (adds + (m + n)) (adds + n + m) (omega arith) r));
    }
