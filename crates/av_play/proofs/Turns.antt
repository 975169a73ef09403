-- One turn, seen from some blocks.
use Rattle.std.proofs.Common.{◌≡◌, ℕ, Bool, true, false, List, [], ◌∷◌, ◌⊎◌, inl, inr, refl, sym, ap, ◌∙◌, subst, IsTrue, suc}
use Rattle.av_types.specs.declared.position.Pos.{Pos}
use Rattle.av_types.specs.declared.tick.Entry.{Entry}
use Rattle.av_cells.specs.declared.kind.Kind.{Kind}
use Rattle.av_cells.specs.Positions.{InReach}
use Rattle.av_cells.specs.World.{World}
use Rattle.av_cells.specs.Turn.{turn}
use Rattle.av_water.specs.Frame.{Agree, Same, Kept, InLoadedReach}
use Rattle.av_water.proofs.Apart.{loaded_reach_or}
use Rattle.av_water.proofs.Inside.{turn_kept}
use Rattle.av_water.proofs.SameReads.{turn_same}
use Rattle.av_water.proofs.Regions.{sees_turn}
use Rattle.av_play.specs.Play.{labelled}
use Rattle.av_play.specs.Laws.{made_for}

either : (w : World) (p q : Pos) {A : Type 0} → (InLoadedReach w p q → A) → (¬ InLoadedReach w p q → A) → A
either w p q {A} f g = by (loaded_reach_or w p q) where
  by : InLoadedReach w p q ⊎ ¬ InLoadedReach w p q → A
  by (inl h) = f h
  by (inr h) = g h

pub moved_reach : (v w : World) (p q : Pos) → v.loaded ≡ w.loaded → InLoadedReach v p q → InLoadedReach w p q
moved_reach v w p q e h = (h.0, subst (λ f. IsTrue (f q)) e h.1)

-- worlds that agree on blocks with the reach among them agree on them after the turn, which makes the same
pub turn_within : (k : ℕ → Kind) (now : ℕ) (p : Pos) (R : Pos → Type 0) (v w : World) → ((q : Pos) → InReach p q → R q) → Agree R v w
    → Same R (turn k now p v) (turn k now p w)
turn_within k now p R v w within a =
    let s : Same (InReach p) (turn k now p v) (turn k now p w) =
    turn_same k (InReach p) now p v w (sees_turn p) (record { same_loaded = λ q i. a.same_loaded q (within q i); same_number = λ q i. a.same_number q (within q i); same_pending = λ q i. a.same_pending q (within q i) }) in
    let kv : Kept (InLoadedReach v p) v (turn k now p v).world = turn_kept k now p v in
    let kw : Kept (InLoadedReach w p) w (turn k now p w).world = turn_kept k now p w in
    let off : (q : Pos) → R q → ¬ InLoadedReach v p q → ¬ InLoadedReach w p q = λ q r h i. h (i.0, a.same_loaded q r ∙ i.1) in
    record {
      agree = record {
        same_loaded = λ q r. ap (λ f. f q) kv.kept_loaded ∙ a.same_loaded q r ∙ ap (λ f. f q) (sym kw.kept_loaded);
        same_number = λ q r. either v p q (λ h. s.agree.same_number q h.0) (λ h. kv.kept_number q h ∙ a.same_number q r ∙ sym (kw.kept_number q (off q r h)));
        same_pending = λ q r. either v p q (λ h. s.agree.same_pending q h.0) (λ h. kv.kept_pending q h ∙ a.same_pending q r ∙ sym (kw.kept_pending q (off q r h)));
      };
      same_made = s.same_made;
    }

-- a turn that writes none of these blocks changes nothing in them
pub turn_apart : (k : ℕ → Kind) (now : ℕ) (p : Pos) (R : Pos → Type 0) (v w : World) → ((q : Pos) → R q → ¬ InLoadedReach v p q) → Agree R v w → Agree R (turn k now p v).world w
turn_apart k now p R v w away a =
    let kv : Kept (InLoadedReach v p) v (turn k now p v).world = turn_kept k now p v in
    record {
      same_loaded = λ q r. ap (λ f. f q) kv.kept_loaded ∙ a.same_loaded q r;
      same_number = λ q r. kv.kept_number q (away q r) ∙ a.same_number q r;
      same_pending = λ q r. kv.kept_pending q (away q r) ∙ a.same_pending q r;
    }

pub all_for : (b : ℕ → Bool) (maker n : ℕ) (es : List Entry) → b maker ≡ true → made_for b (labelled maker n es) ≡ labelled maker n es
all_for b maker n [] e = refl
all_for b maker n (x ∷ xs) e = rw e (ap (λ l. record { maker = maker; number = n; entry = x } ∷ l) (all_for b maker (suc n) xs e))

pub none_for : (b : ℕ → Bool) (maker n : ℕ) (es : List Entry) → b maker ≡ false → made_for b (labelled maker n es) ≡ []
none_for b maker n [] e = refl
none_for b maker n (x ∷ xs) e = rw e (none_for b maker (suc n) xs e)
