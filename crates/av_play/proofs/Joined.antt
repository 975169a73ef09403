-- A turn in one parcel is a turn in the whole, and a parcel that is put back changes nothing in the whole.
use Rattle.std.proofs.Common.{◌≡◌, ℕ, zero, suc, Bool, true, false, cond, List, [], ◌∷◌, slice_get, slice_set, Option, Some, None, ◌⊎◌, inl, inr, refl, sym, ap, ◌∙◌, subst, arith, IsTrue}
use Rattle.std.specs.List.{Contains}
use Rattle.std.proofs.lemmas.Bool.{true≢false, cases_Bool, false_from_ne_true}
use Rattle.av_types.specs.declared.position.SectionPos.{SectionPos}
use Rattle.av_cells.specs.declared.kind.Kind.{Kind}
use Rattle.av_cells.specs.Grid.{Filling, Grid, is_here, cells_of, only, without, over}
use Rattle.av_types.specs.Positions.{section_of}
use Rattle.av_water.specs.Frame.{Same}
use Rattle.std.proofs.lemmas.List.Elements.{Contains-push_cases}
use Rattle.av_play.specs.declared.event.DueEntry.{DueEntry}
use Rattle.av_play.specs.Parts.{InTerritory}
use Rattle.av_play.specs.Play.{turn_of, world_after}
use Rattle.av_play.specs.Laws.{IsOfPart}
use Rattle.av_play.specs.Joined.{joined, empty, AreCarved, IsTurned, mend_all}
use Rattle.av_play.proofs.Lists.{at_set, none_contained}
use Rattle.av_play.proofs.Parcels.{part_is_whole, IsSeen, agree_picked}
use Rattle.av_play.proofs.Turns.{turn_within}

gone : (o : Option Filling) → is_here o ≡ false → o ≡ None
gone None h = refl
gone (Some f) h = absurd (true≢false h)

-- nowhere in these parcels
abbrev IsNowhere : List Grid → SectionPos → Type 0
IsNowhere [] s = Unit {0}
IsNowhere (p ∷ ps) s = (is_here (p s) ≡ false) × IsNowhere ps s

joined_off : (ps : List Grid) (rest : Grid) (s : SectionPos) → IsNowhere ps s → joined ps rest s ≡ rest s
joined_off [] rest s h = refl
joined_off (p ∷ ps) rest s h = ap (λ b. cond b (p s) (joined ps rest s)) h.0 ∙ joined_off ps rest s h.1

nowhere : (ps : List Grid) (s : SectionPos) → ((m : ℕ) (q : Grid) → slice_get ps m ≡ Some q → is_here (q s) ≡ false) → IsNowhere ps s
nowhere [] s f = tt
nowhere (p ∷ ps) s f = (f zero p refl, nowhere ps s (λ m. f (suc m)))

joined_at : (ps : List Grid) (rest : Grid) (n : ℕ) (p : Grid) (s : SectionPos) → slice_get ps n ≡ Some p → IsTrue (is_here (p s)) → ((m : ℕ) (q : Grid) → slice_get ps m ≡ Some q → ¬ (m ≡ n) → is_here (q s) ≡ false) → joined ps rest s ≡ p s
joined_at [] rest n p s e h f = cc
joined_at (x ∷ xs) rest zero p s e h f =
    let g : x ≡ p = cc in
    ap (λ (y : Grid). cond (is_here (y s)) (y s) (joined xs rest s)) g ∙ ap (λ b. cond b (p s) (joined xs rest s)) h
joined_at (x ∷ xs) rest (suc n) p s e h f =
    ap (λ b. cond b (x s) (joined xs rest s)) (f zero x refl (λ g. omega arith)) ∙ joined_at xs rest n p s e h (λ m q i j. f (suc m) q i (λ g. j (omega arith)))

-- a parcel without the section exchanged for another one
set_off : (xs : List Grid) (rest : Grid) (j : ℕ) (p t : Grid) (s : SectionPos) → slice_get xs j ≡ Some p → is_here (p s) ≡ false → is_here (t s) ≡ false → joined (slice_set xs j t) rest s ≡ joined xs rest s
set_off [] rest j p t s e h g = cc
set_off (x ∷ xs) rest zero p t s e h g =
    let f : x ≡ p = cc in
    ap (λ b. cond b (t s) (joined xs rest s)) g ∙ sym (ap (λ (y : Grid). cond (is_here (y s)) (y s) (joined xs rest s)) f ∙ ap (λ b. cond b (p s) (joined xs rest s)) h)
set_off (x ∷ xs) rest (suc j) p t s e h g = ap (λ o. cond (is_here (x s)) (x s) o) (set_off xs rest j p t s e h g)

joined_rest : (xs : List Grid) (a b : Grid) (s : SectionPos) → a s ≡ b s → joined xs a s ≡ joined xs b s
joined_rest [] a b s e = e
joined_rest (x ∷ xs) a b s e = ap (λ o. cond (is_here (x s)) (x s) o) (joined_rest xs a b s e)

some_is : (p q : Grid) → Some p ≡ Some q → p ≡ q
some_is p q e = cc

module _ (ps : List Grid) (rest : Grid) (carved : AreCarved ps rest) (n : ℕ) (p : Grid) (there : slice_get ps n ≡ Some p) where
  abbrev picked : SectionPos → Bool
  picked s = is_here (p s)

  others_not : (s : SectionPos) → IsTrue (is_here (p s)) → (m : ℕ) (q : Grid) → slice_get ps m ≡ Some q → ¬ (m ≡ n) → is_here (q s) ≡ false
  others_not s h m q e f = false_from_ne_true (is_here (q s)) (λ g. f (carved.alone m n q p s e there g h))

  whole_at : (s : SectionPos) → IsTrue (is_here (p s)) → joined ps rest s ≡ p s
  whole_at s h = joined_at ps rest n p s there h (others_not s h)

  -- the parcel is its sections of the whole
  parcel_is : only picked (joined ps rest) ≡ p
  parcel_is = λ i s. by s (cases_Bool (is_here (p s))) i where
    by : (s : SectionPos) → (is_here (p s) ≡ true) ⊎ (is_here (p s) ≡ false) → cond (is_here (p s)) (joined ps rest s) None ≡ p s
    by s (inl h) = ap (λ b. cond b (joined ps rest s) None) h ∙ whole_at s h
    by s (inr h) = ap (λ b. cond b (joined ps rest s) None) h ∙ sym (gone (p s) h)

  -- a parcel exchanged for one with the same sections
  module _ (t : Grid) (same : (s : SectionPos) → is_here (t s) ≡ is_here (p s)) where
    exchanged : joined (slice_set ps n t) rest ≡ over t (without picked (joined ps rest))
    exchanged = λ i s. by s (cases_Bool (is_here (p s))) i where
      unset : (s : SectionPos) → IsTrue (is_here (p s)) → (m : ℕ) (q : Grid) → slice_get (slice_set ps n t) m ≡ Some q → ¬ (m ≡ n) → is_here (q s) ≡ false
      unset s h m q e f = from (at_set ps n m p t there) where
        from : ((m ≡ n) × (slice_get (slice_set ps n t) m ≡ Some t)) ⊎ ((¬ (m ≡ n)) × (slice_get (slice_set ps n t) m ≡ slice_get ps m)) → is_here (q s) ≡ false
        from (inl g) = absurd (f g.0)
        from (inr g) = others_not s h m q (sym g.1 ∙ e) f

      now_there : slice_get (slice_set ps n t) n ≡ Some t
      now_there = from (at_set ps n n p t there) where
        from : ((n ≡ n) × (slice_get (slice_set ps n t) n ≡ Some t)) ⊎ ((¬ (n ≡ n)) × (slice_get (slice_set ps n t) n ≡ slice_get ps n)) → slice_get (slice_set ps n t) n ≡ Some t
        from (inl g) = g.1
        from (inr g) = absurd (g.0 refl)

      by : (s : SectionPos) → (is_here (p s) ≡ true) ⊎ (is_here (p s) ≡ false) → joined (slice_set ps n t) rest s ≡ cond (is_here (t s)) (t s) (cond (is_here (p s)) None (joined ps rest s))
      by s (inl h) = joined_at (slice_set ps n t) rest n t s now_there (same s ∙ h) (unset s h) ∙ sym (ap (λ b. cond b (t s) (cond (is_here (p s)) None (joined ps rest s))) (same s ∙ h))
      by s (inr h) = set_off ps rest n p t s there h (same s ∙ h) ∙ sym (ap (λ b. cond b (t s) (cond (is_here (p s)) None (joined ps rest s))) (same s ∙ h) ∙ ap (λ b. cond b None (joined ps rest s)) h)

    -- turns in the parcel are turns in the whole
    pub parcel_turned : (k : ℕ → Kind) (now : ℕ) (x : DueEntry) → ((s : SectionPos) → InTerritory (cells_of (joined ps rest)) x.entry.pos s → IsTrue (is_here (p s))) → cells_of t ≡ (turn_of k now x (cells_of p)).world
        → IsTurned k now x (joined ps rest) p (joined (slice_set ps n t) rest)
    parcel_turned k now x inside e =
        let e' : cells_of t ≡ world_after k now (x ∷ []) (cells_of (only picked (joined ps rest))) = e ∙ ap (λ (u : Grid). (turn_of k now x (cells_of u)).world) (sym parcel_is) in
        let b = part_is_whole k now (joined ps rest) (x ∷ []) picked (λ s o. inside s (owned s o)) t e' in
        let m : Same (IsSeen picked (joined ps rest)) (turn_of k now x (cells_of (only picked (joined ps rest)))) (turn_of k now x (cells_of (joined ps rest))) =
        turn_within k now x.entry.pos (IsSeen picked (joined ps rest)) (cells_of (only picked (joined ps rest))) (cells_of (joined ps rest))
        (λ q i l. inside (section_of q) (record { block = q; in_reach = i; loaded = l; lies = refl })) (agree_picked picked (joined ps rest)) in
        record { world = ap cells_of exchanged ∙ b.cells; made = ap (λ (u : Grid). (turn_of k now x (cells_of u)).made) (sym parcel_is) ∙ m.same_made }
      where
        owned : (s : SectionPos) → IsOfPart (cells_of (joined ps rest)) (x ∷ []) s → InTerritory (cells_of (joined ps rest)) x.entry.pos s
        owned s o = from (Contains-push_cases [] x o.owner o.there) where
          from : Contains [] o.owner ⊎ (x ≡ o.owner) → InTerritory (cells_of (joined ps rest)) x.entry.pos s
          from (inl c) = absurd (none_contained o.owner c)
          from (inr g) = subst (λ (y : DueEntry). InTerritory (cells_of (joined ps rest)) y.entry.pos s) (sym g) o.territory

  -- the parcel put back
  pub parcel_back : joined (slice_set ps n empty) (over p rest) ≡ joined ps rest
  parcel_back = λ i s. by s (cases_Bool (is_here (p s))) i where
    unset : (s : SectionPos) → IsTrue (is_here (p s)) → (m : ℕ) (q : Grid) → slice_get (slice_set ps n empty) m ≡ Some q → is_here (q s) ≡ false
    unset s h m q e = from (at_set ps n m p empty there) where
      from : ((m ≡ n) × (slice_get (slice_set ps n empty) m ≡ Some empty)) ⊎ ((¬ (m ≡ n)) × (slice_get (slice_set ps n empty) m ≡ slice_get ps m)) → is_here (q s) ≡ false
      from (inl g) = let f : empty ≡ q = some_is empty q (sym g.1 ∙ e) in ap (λ (u : Grid). is_here (u s)) (sym f)
      from (inr g) = others_not s h m q (sym g.1 ∙ e) g.0

    by : (s : SectionPos) → (is_here (p s) ≡ true) ⊎ (is_here (p s) ≡ false) → joined (slice_set ps n empty) (over p rest) s ≡ joined ps rest s
    by s (inl h) =
        joined_off (slice_set ps n empty) (over p rest) s (nowhere (slice_set ps n empty) s (unset s h)) ∙ ap (λ b. cond b (p s) (rest s)) h ∙ sym (whole_at s h)
    by s (inr h) = set_off ps (over p rest) n p empty s there h refl ∙ joined_rest ps (over p rest) rest s (ap (λ b. cond b (p s) (rest s)) h)

-- grids that are mended one after the other, in any order, where no section is in two of them
pub mended_off : (ts : List Grid) (g : Grid) (s : SectionPos) → IsNowhere ts s → mend_all ts g s ≡ g s
mended_off [] g s h = refl
mended_off (x ∷ xs) g s h = mended_off xs (over x g) s h.1 ∙ ap (λ b. cond b (x s) (g s)) h.0

pub mended_at : (ts : List Grid) (g : Grid) (n : ℕ) (t : Grid) (s : SectionPos) → slice_get ts n ≡ Some t → IsTrue (is_here (t s)) → ((m : ℕ) (q : Grid) → slice_get ts m ≡ Some q → ¬ (m ≡ n) → is_here (q s) ≡ false) → mend_all ts g s ≡ t s
mended_at [] g n t s e h f = cc
mended_at (x ∷ xs) g zero t s e h f =
    let i : x ≡ t = cc in
    mended_off xs (over x g) s (nowhere xs s (λ m q j. f (suc m) q j (λ l. omega arith)))
    ∙ ap (λ (y : Grid). cond (is_here (y s)) (y s) (g s)) i ∙ ap (λ b. cond b (t s) (g s)) h
mended_at (x ∷ xs) g (suc n) t s e h f = mended_at xs (over x g) n t s e h (λ m q i j. f (suc m) q i (λ l. j (omega arith)))
