-- Changes of a grid, as changes of its blocks.
use Rattle.std.proofs.Common.{◌≡◌, ℕ, zero, suc, ◌<◌, Bool, true, false, cond, not, ◌&&◌, nat_eq, Option, Some, None, List, [], ◌∷◌, length, get_or, refl, sym, ap, ◌∙◌, arith}
use Rattle.std.specs.List.{Contains}
use Rattle.std.proofs.lemmas.Bool.{true≢false}
use Rattle.std.proofs.lemmas.Bool.Decides.{Decides-eqb}
use Rattle.av_types.specs.Positions.{section_of, place_of, same_pos, same_section}
use Rattle.av_types.specs.declared.position.Pos.{Pos}
use Rattle.av_types.specs.declared.position.SectionPos.{SectionPos}
use Rattle.av_types.specs.declared.tick.Entry.{Entry}
use Rattle.av_types.proofs.Coordinates.{same_block}
use Rattle.av_types.proofs.SamePositions.{same_pos_is, same_pos_from, same_section_is, same_section_from, same_section-refl}
use Rattle.av_cells.specs.World.{World, with_number, with_entry, with_entry_if, without_entry}
use Rattle.av_cells.specs.Grid.{Grid, Filling, cells_of, with_filling, renumbered, renumbered_in, waited, waited_in, cleared, cleared_in, number_in, pending_in, is_here, among}

-- ---- one section exchanged

section_if : (g : Grid) (s : SectionPos) (f : Option Filling) (b : Bool) → b ≡ true → cond b f (g s) ≡ f
section_if g s f true e = refl
section_if g s f false e = absurd (true≢false (sym e))

pub filling_here : (g : Grid) (s : SectionPos) (f : Option Filling) → with_filling g s f s ≡ f
filling_here g s f = section_if g s f (same_section s s) (same_section-refl s)

other_if : (g : Grid) (s t : SectionPos) (f : Option Filling) → ¬ (t ≡ s) → (b : Bool) → same_section t s ≡ b → cond b f (g t) ≡ g t
other_if g s t f other true e = absurd (other (same_section_is t s e))
other_if g s t f other false e = refl

pub filling_elsewhere : (g : Grid) (s t : SectionPos) (f : Option Filling) → ¬ (t ≡ s) → with_filling g s f t ≡ g t
filling_elsewhere g s t f other = other_if g s t f other (same_section t s) refl

-- ---- one place of a section

-- one place of one section
module _ (g : Grid) (p : Pos) (f : Filling) (here : g (section_of p) ≡ Some f) where
  at_place : (A : Type 0) (v : A) (read : Option Filling → ℕ → A) (new : Filling) (each : (j : ℕ) → read (Some new) j ≡ cond (nat_eq j (place_of p)) v (read (Some f) j))
      → (q : Pos) (t u b : Bool) → same_section (section_of q) (section_of p) ≡ t → nat_eq (place_of q) (place_of p) ≡ u → same_pos q p ≡ b
      → read (cond t (Some new) (g (section_of q))) (place_of q) ≡ cond b v (read (g (section_of q)) (place_of q))
  at_place A v read new each q true true true e h s = each (place_of q) ∙ (rw h refl)
  at_place A v read new each q true true false e h s = absurd (true≢false (sym (same_pos_from q p (same_block q p (same_section_is (section_of q) (section_of p) e) ((Decides-eqb (place_of q) (place_of p)).0 h))) ∙ s))
  at_place A v read new each q true false true e h s = absurd (true≢false (sym ((Decides-eqb (place_of q) (place_of p)).1 (ap place_of (same_pos_is q p s))) ∙ h))
  at_place A v read new each q true false false e h s =
      let same = same_section_is (section_of q) (section_of p) e in
      each (place_of q) ∙ (rw h (ap (λ o. read o (place_of q)) (sym (ap g same ∙ here))))
  at_place A v read new each q false u true e h s = absurd (true≢false (sym (same_section_from (section_of q) (section_of p) (ap section_of (same_pos_is q p s))) ∙ e))
  at_place A v read new each q false u false e h s = refl

  kept_at : (A : Type 0) (read : Option Filling → A) (new : Filling) (same : read (Some new) ≡ read (Some f)) (q : Pos) (t : Bool) → same_section (section_of q) (section_of p) ≡ t
      → read (cond t (Some new) (g (section_of q))) ≡ read (g (section_of q))
  kept_at A read new same q true e = same ∙ ap read (sym (ap g (same_section_is (section_of q) (section_of p) e) ∙ here))
  kept_at A read new same q false e = refl

  renumbered_cells : (n : ℕ) → cells_of (with_filling g (section_of p) (Some (renumbered f (place_of p) n))) ≡ with_number (cells_of g) p n
  renumbered_cells n = λ i. record {
    loaded = λ q. kept_at Bool is_here (renumbered f (place_of p) n) refl q (same_section (section_of q) (section_of p)) refl i;
    number = λ q. at_place ℕ n number_in (renumbered f (place_of p) n) (λ j. refl) q (same_section (section_of q) (section_of p)) (nat_eq (place_of q) (place_of p)) (same_pos q p) refl refl refl i;
    pending = λ q. kept_at Bool (λ o. pending_in o (place_of q)) (renumbered f (place_of p) n) refl q (same_section (section_of q) (section_of p)) refl i;
  }

  waited_cells : (e : Entry) → e.pos ≡ p → cells_of (with_filling g (section_of p) (Some (waited f (place_of p)))) ≡ with_entry_if true (cells_of g) e
  waited_cells e is = rw is (λ i. record {
    loaded = λ q. kept_at Bool is_here (waited f (place_of p)) refl q (same_section (section_of q) (section_of p)) refl i;
    number = λ q. kept_at ℕ (λ o. number_in o (place_of q)) (waited f (place_of p)) refl q (same_section (section_of q) (section_of p)) refl i;
    pending = λ q. at_place Bool true pending_in (waited f (place_of p)) (λ j. refl) q (same_section (section_of q) (section_of p)) (nat_eq (place_of q) (place_of p)) (same_pos q p) refl refl refl i;
  })

  cleared_cells : (e : Entry) → e.pos ≡ p → cells_of (with_filling g (section_of p) (Some (cleared f (place_of p)))) ≡ without_entry (cells_of g) e
  cleared_cells e is = rw is (λ i. record {
    loaded = λ q. kept_at Bool is_here (cleared f (place_of p)) refl q (same_section (section_of q) (section_of p)) refl i;
    number = λ q. kept_at ℕ (λ o. number_in o (place_of q)) (cleared f (place_of p)) refl q (same_section (section_of q) (section_of p)) refl i;
    pending = λ q. at_place Bool false pending_in (cleared f (place_of p)) (λ j. refl) q (same_section (section_of q) (section_of p)) (nat_eq (place_of q) (place_of p)) (same_pos q p) refl refl refl i;
  })

set_if : (g : Grid) (p : Pos) (n : ℕ) (o : Option Filling) → g (section_of p) ≡ o → is_here o ≡ true
    → cells_of (with_filling g (section_of p) (renumbered_in o (place_of p) n)) ≡ with_number (cells_of g) p n
set_if g p n None e h = absurd (true≢false (sym h))
set_if g p n (Some f) e h = renumbered_cells g p f e n

-- a place of a section set is a block set
pub cells_set : (g : Grid) (p : Pos) (n : ℕ) → is_here (g (section_of p)) ≡ true
    → cells_of (with_filling g (section_of p) (renumbered_in (g (section_of p)) (place_of p) n)) ≡ with_number (cells_of g) p n
cells_set g p n h = set_if g p n (g (section_of p)) refl h

wait_if : (g : Grid) (e : Entry) (o : Option Filling) → g (section_of e.pos) ≡ o → is_here o ≡ true
    → cells_of (with_filling g (section_of e.pos) (waited_in o (place_of e.pos))) ≡ with_entry_if true (cells_of g) e
wait_if g e None s h = absurd (true≢false (sym h))
wait_if g e (Some f) s h = waited_cells g e.pos f s e refl

-- a place of a section pending is a block pending
pub cells_waited : (g : Grid) (e : Entry) → is_here (g (section_of e.pos)) ≡ true
    → cells_of (with_filling g (section_of e.pos) (waited_in (g (section_of e.pos)) (place_of e.pos))) ≡ with_entry_if true (cells_of g) e
cells_waited g e h = wait_if g e (g (section_of e.pos)) refl h

pending_if : (w : World) (e : Entry) (q : Pos) (b s : Bool) → w.pending e.pos ≡ b → same_pos q e.pos ≡ s → cond (true && s) true (w.pending q) ≡ cond (not b && s) true (w.pending q)
pending_if w e q true true h i = sym (ap w.pending (same_pos_is q e.pos i) ∙ h)
pending_if w e q true false h i = refl
pending_if w e q false s h i = refl

-- an entry of a block that is pending already changes nothing
pub entry_is : (w : World) (e : Entry) → with_entry_if true w e ≡ with_entry w e
entry_is w e = λ i. record { loaded = w.loaded; number = w.number; pending = λ q. pending_if w e q (w.pending e.pos) (same_pos q e.pos) refl refl i }

clear_if : (g : Grid) (e : Entry) (o : Option Filling) → g (section_of e.pos) ≡ o → is_here o ≡ true
    → cells_of (with_filling g (section_of e.pos) (cleared_in o (place_of e.pos))) ≡ without_entry (cells_of g) e
clear_if g e None s h = absurd (true≢false (sym h))
clear_if g e (Some f) s h = cleared_cells g e.pos f s e refl

-- a place of a section pending no longer is a block pending no longer
pub cells_cleared : (g : Grid) (e : Entry) → is_here (g (section_of e.pos)) ≡ true
    → cells_of (with_filling g (section_of e.pos) (cleared_in (g (section_of e.pos)) (place_of e.pos))) ≡ without_entry (cells_of g) e
cells_cleared g e h = clear_if g e (g (section_of e.pos)) refl h

-- ---- sections of a list

pub among_has : (ss : List SectionPos) (s : SectionPos) → among ss s ≡ true → Contains ss s
among_has [] s h = absurd (true≢false (sym h))
among_has (t ∷ ts) s h = by (same_section s t) refl h (among_has ts s) where
  by : (b : Bool) → same_section s t ≡ b → cond b true (among ts s) ≡ true → (among ts s ≡ true → Contains ts s) → Contains (t ∷ ts) s
  by true e h rest = (0, omega arith, sym (same_section_is s t e))
  by false e h rest = let r = rest h in let l = r.1 in (suc r.0, omega arith, r.2)

pub has_among : (ss : List SectionPos) (s : SectionPos) → Contains ss s → among ss s ≡ true
has_among [] s h = absurd (let l = h.1 in omega arith)
has_among (t ∷ ts) s h = by h.0 h.1 h.2 (has_among ts s) where
  or_more : (b : Bool) → among ts s ≡ true → cond b true (among ts s) ≡ true
  or_more true h = refl
  or_more false h = h

  by : (k : ℕ) → k < length (t ∷ ts) → get_or (t ∷ ts) k s ≡ s → (Contains ts s → among ts s ≡ true) → among (t ∷ ts) s ≡ true
  by zero l e rest = ap (λ b. cond b true (among ts s)) (same_section_from s t (sym e))
  by (suc k) l e rest = or_more (same_section s t) (rest (k, omega arith, e))
