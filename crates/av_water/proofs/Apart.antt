-- Turns whose loaded reaches do not meet.
use Rattle.std.proofs.Common.{◌≡◌, ℕ, ℤ, pos, ◌+ℤ◌, ◌-ℤ◌, ◌≤ℤ◌, int_le, Bool, true, false, ◌⊎◌, inl, inr, IsTrue, refl, sym, ap, ◌∙◌, subst, arith}
use Rattle.std.proofs.lemmas.Int.{ints}
use Rattle.av_types.specs.declared.position.Pos.{Pos}
use Rattle.av_cells.specs.declared.kind.Kind.{Kind}
use Rattle.av_cells.specs.Positions.{InReach}
use Rattle.av_cells.specs.World.{World}
use Rattle.av_cells.specs.Turn.{turn}
use Rattle.av_water.specs.Frame.{Agree, Same, Kept, InLoadedReach, AreApart, Commute}
use Rattle.av_water.proofs.SameReads.{turn_same}
use Rattle.av_water.proofs.Regions.{sees_turn}
use Rattle.av_water.proofs.Inside.{turn_kept}

le_or : (a b : ℤ) → (a ≤ℤ b) ⊎ ¬ (a ≤ℤ b)
le_or a b = by (int_le a b) refl where
  by : (c : Bool) → int_le a b ≡ c → (a ≤ℤ b) ⊎ ¬ (a ≤ℤ b)
  by true e = inl (grind (arith, ints))
  by false e = inr (λ h. grind (arith, ints))

and_or : (P Q : Type 0) → P ⊎ ¬ P → Q ⊎ ¬ Q → (P × Q) ⊎ ¬ (P × Q)
and_or P Q (inl p) (inl q) = inl (p, q)
and_or P Q (inl p) (inr q) = inr (λ h. q h.1)
and_or P Q (inr p) q = inr (λ h. p h.0)

reach_or : (p q : Pos) → InReach p q ⊎ ¬ InReach p q
reach_or p q =
    by (and_or _ _ (le_or (p.x -ℤ pos 5) q.x) (and_or _ _ (le_or q.x (p.x +ℤ pos 5)) (and_or _ _ (le_or (p.y -ℤ pos 2) q.y) (and_or _ _ (le_or q.y (p.y +ℤ pos 1)) (and_or _ _ (le_or (p.z -ℤ pos 5) q.z) (le_or q.z (p.z +ℤ pos 5)))))))
  where
    Box : Type 0
    Box = ((p.x -ℤ pos 5) ≤ℤ q.x) × ((q.x ≤ℤ (p.x +ℤ pos 5)) × (((p.y -ℤ pos 2) ≤ℤ q.y) × ((q.y ≤ℤ (p.y +ℤ pos 1)) × (((p.z -ℤ pos 5) ≤ℤ q.z) × (q.z ≤ℤ (p.z +ℤ pos 5))))))

    by : Box ⊎ ¬ Box → InReach p q ⊎ ¬ InReach p q
    by (inl h) = inl (record { west = h.0; east = h.1.0; low = h.1.1.0; high = h.1.1.1.0; north = h.1.1.1.1.0; south = h.1.1.1.1.1 })
    by (inr f) = inr (λ h. f (h.west, (h.east, (h.low, (h.high, (h.north, h.south))))))

loaded_or : (w : World) (q : Pos) → IsTrue (w.loaded q) ⊎ ¬ IsTrue (w.loaded q)
loaded_or w q = by (w.loaded q) where
  by : (b : Bool) → IsTrue b ⊎ ¬ IsTrue b
  by true = inl refl
  by false = inr (λ h. Rattle.std.proofs.lemmas.Bool.true≢false (sym h))

pub loaded_reach_or : (w : World) (p q : Pos) → InLoadedReach w p q ⊎ ¬ InLoadedReach w p q
loaded_reach_or w p q = and_or (InReach p q) (IsTrue (w.loaded q)) (reach_or p q) (loaded_or w q)

-- what is written apart from a reach does not change what is read there
pub apart_agree : (w : World) (p q : Pos) (v : World) → AreApart w p q → Kept (InLoadedReach w p) w v → Agree (InReach q) v w
apart_agree w p q v apart kept =
    record {
      same_loaded = λ r i. ap (λ f. f r) kept.kept_loaded;
      same_number = λ r i. kept.kept_number r (λ h. apart r h.0 i h.1);
      same_pending = λ r i. kept.kept_pending r (λ h. apart r h.0 i h.1);
    }

pub apart_sym : (w : World) (p q : Pos) → AreApart w p q → AreApart w q p
apart_sym w p q h r i j l = h r j i l

along : (v w : World) (p q : Pos) → v.loaded ≡ w.loaded → InLoadedReach v p q → InLoadedReach w p q
along v w p q e h = (h.0, subst (λ f. IsTrue (f q)) e h.1)

cell_same : (w : World) (p q r : Pos) (A : Type 0) (b a u a' b' : A)
    → (InLoadedReach w p r → b ≡ a) → (InLoadedReach w p r → b' ≡ a) → (¬ InLoadedReach w p r → b' ≡ a') → (InReach q r → b ≡ a')
    → (¬ InReach q r → b ≡ a) → (¬ InLoadedReach w p r → a ≡ u) → (¬ InReach q r → a' ≡ u) → b ≡ b'
cell_same w p q r A b a u a' b' f1 f2 f3 f4 f5 f6 f7 = by (loaded_reach_or w p r) (reach_or q r) where
  by : InLoadedReach w p r ⊎ ¬ InLoadedReach w p r → InReach q r ⊎ ¬ InReach q r → b ≡ b'
  by (inl h) x = f1 h ∙ sym (f2 h)
  by (inr h) (inl i) = f4 i ∙ sym (f3 h)
  by (inr h) (inr i) = f5 i ∙ f6 h ∙ sym (f7 i) ∙ sym (f3 h)

pub apart_commute : (k : ℕ → Kind) (now : ℕ) (p q : Pos) (w : World) → AreApart w p q → Commute k now p q w
apart_commute k now p q w apart =
    let a : World = (turn k now p w).world in
    let a' : World = (turn k now q w).world in
    let ka : Kept (InLoadedReach w p) w a = turn_kept k now p w in
    let ka' : Kept (InLoadedReach w q) w a' = turn_kept k now q w in
    let b : World = (turn k now q a).world in
    let b' : World = (turn k now p a').world in
    let kb : Kept (InLoadedReach a q) a b = turn_kept k now q a in
    let kb' : Kept (InLoadedReach a' p) a' b' = turn_kept k now p a' in
    let sq : Same (InReach q) (turn k now q a) (turn k now q w) = turn_same k (InReach q) now q a w (sees_turn q) (apart_agree w p q a apart ka) in
    let sp : Same (InReach p) (turn k now p a') (turn k now p w) = turn_same k (InReach p) now p a' w (sees_turn p) (apart_agree w q p a' (apart_sym w p q apart) ka') in
    let out : (r : Pos) → InLoadedReach w p r → ¬ InLoadedReach a q r = λ r h i. apart r h.0 i.0 h.1 in
    let off : (r : Pos) → ¬ InLoadedReach w p r → ¬ InLoadedReach a' p r = λ r h i. h (along a' w p r ka'.kept_loaded i) in
    record {
      same_cells = record {
        same_loaded = λ r u. ap (λ f. f r) (kb.kept_loaded ∙ ka.kept_loaded ∙ sym ka'.kept_loaded ∙ sym kb'.kept_loaded);
        same_number = λ r u. cell_same w p q r ℕ (b.number r) (a.number r) (w.number r) (a'.number r) (b'.number r)
            (λ h. kb.kept_number r (out r h)) (λ h. sp.agree.same_number r h.0) (λ h. kb'.kept_number r (off r h)) (λ i. sq.agree.same_number r i)
            (λ i. kb.kept_number r (λ h. i h.0)) (λ h. ka.kept_number r h) (λ i. ka'.kept_number r (λ h. i h.0));
        same_pending = λ r u. cell_same w p q r Bool (b.pending r) (a.pending r) (w.pending r) (a'.pending r) (b'.pending r)
            (λ h. kb.kept_pending r (out r h)) (λ h. sp.agree.same_pending r h.0) (λ h. kb'.kept_pending r (off r h)) (λ i. sq.agree.same_pending r i)
            (λ i. kb.kept_pending r (λ h. i h.0)) (λ h. ka.kept_pending r h) (λ i. ka'.kept_pending r (λ h. i h.0));
      };
      same_first = sym sp.same_made;
      same_second = sq.same_made;
    }
