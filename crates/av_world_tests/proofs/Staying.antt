-- A part of a world stays one while its blocks are set and entries are put aside.
use Rattle.std.proofs.Common.{◌≡◌, ℕ, Bool, true, false, cond, not, IsTrue, List, [], ◌∷◌, ◌++◌, refl, sym, ap, subst, ◌∙◌}
use Rattle.std.proofs.lemmas.Bool.{and_parts, not-true}
use Rattle.av_types.specs.declared.position.Pos.{Pos}
use Rattle.av_types.specs.declared.position.ChunkPos.{ChunkPos}
use Rattle.av_types.specs.declared.position.Height.{Height}
use Rattle.av_types.specs.declared.tick.Entry.{Entry}
use Rattle.av_types.specs.Water.{is_wet}
use Rattle.av_cells.specs.declared.kind.Kind.{Kind}
use Rattle.av_cells.specs.Positions.{around}
use Rattle.av_cells.specs.Rule.{wet_at}
use Rattle.av_cells.specs.Turn.{Change, change, entry_of, wakes, woken, woken_all, set_awake}
use Rattle.av_cells.specs.World.{World, Lists, with_number, with_entry, with_entry_if, listed_if, listed_all}
use Rattle.av_cells.proofs.Loaded.{wet_is_loaded}
use Rattle.av_world.specs.OutOf.{IsPartOf}
use Rattle.av_world.proofs.Leaving.{part_added}

listed_push : (x : Lists) (es : List Entry) (e : Entry) → listed_all x (es ++ e ∷ []) ≡ listed_if true (listed_all x es) e
listed_push x [] e = refl
listed_push x (y ∷ es) e = listed_push (listed_if true x y) es e

module _ (h : Height) (ps : List ChunkPos) (l : Lists) where
  moved : (b m : World) (x y : Lists) → m ≡ b → y ≡ x → IsPartOf h ps l b x → IsPartOf h ps l m y
  moved b m x y same lists part = subst (λ (w : World). IsPartOf h ps l w y) (sym same) (subst (IsPartOf h ps l b) (sym lists) part)

  added : (b : World) (x : Lists) (e : Entry) → IsTrue (b.loaded e.pos) → IsPartOf h ps l b x → IsPartOf h ps l (with_entry b e) (listed_if (not (b.pending e.pos)) x e)
  added b x e here part = by (b.pending e.pos) refl where
    by : (t : Bool) → b.pending e.pos ≡ t → IsPartOf h ps l (with_entry_if (not t) b e) (listed_if (not t) x e)
    by true s = part
    by false s = part_added h ps l b x e here s part

  pub stays_by_add : (b m w : World) (x y z : Lists) (e : Entry) → m ≡ b → y ≡ x → w ≡ with_entry m e → z ≡ listed_if (not (m.pending e.pos)) y e → IsTrue (m.loaded e.pos) → IsPartOf h ps l b x → IsPartOf h ps l w z
  stays_by_add b m w x y z e same lists changed listed here part = moved (with_entry m e) w (listed_if (not (m.pending e.pos)) y e) z changed listed (added m y e here (moved b m x y same lists part))

  one_woken : (k : ℕ → Kind) (now : ℕ) (p : Pos) (x : Lists) (c : Change) → IsPartOf h ps l c.world (listed_all x c.made) → IsPartOf h ps l (woken k now p c).world (listed_all x (woken k now p c).made)
  unfolding woken
  one_woken k now p x c part = by (wakes k c.world p) refl where
    by : (t : Bool) → wakes k c.world p ≡ t → IsPartOf h ps l (with_entry_if t c.world (entry_of p now)) (listed_all x (cond t (c.made ++ entry_of p now ∷ []) c.made))
    by true s =
        let parts = and_parts (is_wet (wet_at k c.world p)) (not (c.world.pending p)) s in
        subst (IsPartOf h ps l (with_entry_if true c.world (entry_of p now))) (sym (listed_push x c.made (entry_of p now)))
        (part_added h ps l c.world (listed_all x c.made) (entry_of p now) (wet_is_loaded k c.world p parts.0) (not-true (c.world.pending p) parts.1) part)
    by false s = part

  all_woken : (k : ℕ → Kind) (now : ℕ) (qs : List Pos) (x : Lists) (c : Change) → IsPartOf h ps l c.world (listed_all x c.made) → IsPartOf h ps l (woken_all k now qs c).world (listed_all x (woken_all k now qs c).made)
  all_woken k now [] x c part = part
  all_woken k now (q ∷ qs) x c part = all_woken k now qs x (woken k now q c) (one_woken k now q x c part)

  awake : (k : ℕ → Kind) (now : ℕ) (p : Pos) (n : ℕ) (b : World) (x : Lists) → IsPartOf h ps l b x
      → IsPartOf h ps l (set_awake k now p n (change b [])).world (listed_all x (set_awake k now p n (change b [])).made)
  unfolding set_awake
  awake k now p n b x part = all_woken k now (around p) x (change (with_number b p n) []) (record { inside = part.inside; tied = part.tied; apart = part.apart })

  pub stays_by_awake : (k : ℕ → Kind) (now : ℕ) (p : Pos) (n : ℕ) (b m w : World) (x y z : Lists) (es : List Entry) → m ≡ b → y ≡ x → change w es ≡ set_awake k now p n (change m []) → z ≡ listed_all y es
      → IsPartOf h ps l b x → IsPartOf h ps l w z
  stays_by_awake k now p n b m w x y z es same lists changed listed part =
      moved (set_awake k now p n (change m [])).world w (listed_all y (set_awake k now p n (change m [])).made) z (ap (λ (c : Change). c.world) changed) (listed ∙ ap (λ (c : Change). listed_all y c.made) changed)
      (awake k now p n m y (moved b m x y same lists part))
