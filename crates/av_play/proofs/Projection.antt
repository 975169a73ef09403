-- A list of turns, seen from the blocks of some of its entries: the others might as well not be there.
use Rattle.std.proofs.Common.{◌≡◌, ℕ, Bool, true, false, cond, List, [], ◌∷◌, ◌++◌, filter, refl, ap, ◌∙◌}
use Rattle.std.specs.List.{AllByRecursion, Contains}
use Rattle.std.proofs.lemmas.List.Elements.{filter-append}
use Rattle.av_types.specs.declared.position.Pos.{Pos}
use Rattle.av_types.specs.declared.tick.Made.{Made}
use Rattle.av_cells.specs.declared.kind.Kind.{Kind}
use Rattle.av_cells.specs.World.{World}
use Rattle.av_water.specs.Frame.{Agree, Same, InLoadedReach, AreApart}
use Rattle.av_water.proofs.Inside.{turn_kept}
use Rattle.av_play.specs.declared.event.DueEntry.{DueEntry}
use Rattle.av_play.specs.Play.{turn_of, made_by, world_after, made_after}
use Rattle.av_play.specs.Laws.{made_for}
use Rattle.av_play.proofs.Turns.{turn_within, turn_apart, moved_reach, all_for, none_for}

abbrev pub chosen : (ℕ → Bool) → List DueEntry → List DueEntry
chosen b es = filter (λ x. b x.index) es

-- the blocks that no entry writes which is not chosen
pub record IsFree (w : World) (all : List DueEntry) (b : ℕ → Bool) (q : Pos) : Type 0 where
  pub free : (y : DueEntry) → Contains all y → b y.index ≡ false → ¬ InLoadedReach w y.entry.pos q

-- those chosen are apart from the others
pub record SetsApart (w : World) (all : List DueEntry) (b : ℕ → Bool) : Type 0 where
  pub apart : (x y : DueEntry) → Contains all x → Contains all y → b x.index ≡ true → b y.index ≡ false → AreApart w x.entry.pos y.entry.pos

pub record Projects (k : ℕ → Kind) (now : ℕ) (b : ℕ → Bool) (R : Pos → Type 0) (v w : World) (es cs : List DueEntry) : Type 0 where
  pub cells : Agree R (world_after k now es v) (world_after k now cs w)
  pub made : made_for b (made_after k now es v) ≡ made_after k now cs w

pub project : (k : ℕ → Kind) (now : ℕ) (w0 : World) (all : List DueEntry) (b : ℕ → Bool) → SetsApart w0 all b → (es : List DueEntry) → AllByRecursion (Contains all) es → (v w : World) → v.loaded ≡ w0.loaded → w.loaded ≡ w0.loaded
    → Agree (IsFree w0 all b) v w → Projects k now b (IsFree w0 all b) v w es (chosen b es)
project k now w0 all b apart [] among v w lv lw a = record { cells = a; made = refl }
project k now w0 all b apart (x ∷ xs) among v w lv lw a = by (b x.index) refl (project k now w0 all b apart xs among.1) where
  by : (c : Bool) → b x.index ≡ c → ((v w : World) → v.loaded ≡ w0.loaded → w.loaded ≡ w0.loaded → Agree (IsFree w0 all b) v w → Projects k now b (IsFree w0 all b) v w xs (chosen b xs)) → Projects k now b (IsFree w0 all b) v w (x ∷ xs) (cond c (x ∷ chosen b xs) (chosen b xs))
  by true e rest =
      let s : Same (IsFree w0 all b) (turn_of k now x v) (turn_of k now x w) =
      turn_within k now x.entry.pos (IsFree w0 all b) v w (λ q r. record { free = λ y c f i. apart.apart x y among.0 c e f q r i.0 i.1 }) a in
      let p : Projects k now b (IsFree w0 all b) (turn_of k now x v).world (turn_of k now x w).world xs (chosen b xs) =
      rest (turn_of k now x v).world (turn_of k now x w).world ((turn_kept k now x.entry.pos v).kept_loaded ∙ lv) ((turn_kept k now x.entry.pos w).kept_loaded ∙ lw) s.agree in
      let own : made_for b (made_by k now x v) ≡ made_by k now x w = all_for b x.index 0 (turn_of k now x v).made e ∙ ap (λ l. Rattle.av_play.specs.Play.labelled x.index 0 l) s.same_made in
      record {
        cells = p.cells;
        made = filter-append (λ (m : Made). b m.maker) (made_by k now x v) (made_after k now xs (turn_of k now x v).world) ∙ (λ i. own i ++ p.made i);
      }
  by false e rest =
      let s : Agree (IsFree w0 all b) (turn_of k now x v).world w =
      turn_apart k now x.entry.pos (IsFree w0 all b) v w (λ q r i. r.free x among.0 e (moved_reach v w0 x.entry.pos q lv i)) a in
      let p : Projects k now b (IsFree w0 all b) (turn_of k now x v).world w xs (chosen b xs) =
      rest (turn_of k now x v).world w ((turn_kept k now x.entry.pos v).kept_loaded ∙ lv) lw s in
      let none : made_for b (made_by k now x v) ≡ [] = none_for b x.index 0 (turn_of k now x v).made e in
      record {
        cells = p.cells;
        made = filter-append (λ (m : Made). b m.maker) (made_by k now x v) (made_after k now xs (turn_of k now x v).world) ∙ (λ i. none i ++ p.made i);
      }

-- no turn loads or unloads a block
pub after_loaded : (k : ℕ → Kind) (now : ℕ) (es : List DueEntry) (w : World) → (world_after k now es w).loaded ≡ w.loaded
after_loaded k now [] w = refl
after_loaded k now (x ∷ xs) w = after_loaded k now xs (turn_of k now x w).world ∙ (turn_kept k now x.entry.pos w).kept_loaded
