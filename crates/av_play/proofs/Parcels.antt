-- A part's turns on its own sections alone are its turns in the whole world.
use Rattle.std.proofs.Common.{◌≡◌, ℕ, Bool, true, false, cond, List, [], ◌∷◌, ◌++◌, Option, Some, None, refl, sym, ap, ◌∙◌, subst, IsTrue}
use Rattle.std.specs.List.{AllByRecursion, Contains}
use Rattle.std.proofs.lemmas.Bool.{true≢false}
use Rattle.av_types.proofs.Each.{each_then}
use Rattle.av_types.specs.declared.position.Pos.{Pos}
use Rattle.av_types.specs.declared.position.SectionPos.{SectionPos}
use Rattle.av_types.specs.declared.tick.Entry.{Entry}
use Rattle.av_types.specs.declared.tick.Made.{Made}
use Rattle.av_types.specs.Positions.{section_of, place_of}
use Rattle.av_cells.specs.declared.kind.Kind.{Kind}
use Rattle.av_cells.specs.Positions.{InReach}
use Rattle.av_cells.specs.World.{World, Lists}
use Rattle.av_cells.specs.Grid.{Filling, Grid, is_here, number_in, pending_in, cells_of, only, without, over}
use Rattle.av_water.specs.Frame.{Agree, Same}
use Rattle.av_play.specs.declared.event.DueEntry.{DueEntry}
use Rattle.av_play.specs.Parts.{IsPlan, part_at}
use Rattle.av_play.specs.Play.{labelled, turn_of, world_after, made_after, gathered, in_order}
use Rattle.av_play.specs.Laws.{IsOfPart, IsAsAlone}
use Rattle.av_play.specs.Parcels.{AreMended, IsPutBack}
use Rattle.av_play.proofs.Lists.{none_chosen}
use Rattle.av_play.proofs.Turns.{turn_within}
use Rattle.av_play.proofs.Projection.{IsFree, project, after_loaded}
use Rattle.av_play.proofs.Trace.{known_all}
use Rattle.av_play.proofs.Interleaving.{stable_test, gathers_whole}

pub record SameTurns (k : ℕ → Kind) (now : ℕ) (R : Pos → Type 0) (v w : World) (es : List DueEntry) : Type 0 where
  pub cells : Agree R (world_after k now es v) (world_after k now es w)
  pub made : made_after k now es v ≡ made_after k now es w

-- worlds that agree on the reaches of all entries go on to do so
pub turns_within : (k : ℕ → Kind) (now : ℕ) (R : Pos → Type 0) (es : List DueEntry) → AllByRecursion (λ x. (q : Pos) → InReach x.entry.pos q → R q) es → (v w : World) → Agree R v w → SameTurns k now R v w es
turns_within k now R [] h v w a = record { cells = a; made = refl }
turns_within k now R (x ∷ xs) h v w a =
    let s : Same R (turn_of k now x v) (turn_of k now x w) = turn_within k now x.entry.pos R v w h.0 a in
    let t : SameTurns k now R (turn_of k now x v).world (turn_of k now x w).world xs =
    turns_within k now R xs h.1 (turn_of k now x v).world (turn_of k now x w).world s.agree in
    record { cells = t.cells; made = λ i. labelled x.index 0 (s.same_made i) ++ t.made i }

picked : (o : Option Filling) (c : Bool) → (IsTrue (is_here o) → IsTrue c) → cond c o None ≡ o
picked None true h = refl
picked None false h = refl
picked (Some f) true h = refl
picked (Some f) false h = absurd (true≢false (sym (h refl)))

-- the blocks that are as in the whole: those of picked sections, and those that are not loaded
abbrev pub IsSeen : (SectionPos → Bool) → Grid → Pos → Type 0
IsSeen b g q = IsTrue (is_here (g (section_of q))) → IsTrue (b (section_of q))

pub agree_picked : (b : SectionPos → Bool) (g : Grid) → Agree (IsSeen b g) (cells_of (only b g)) (cells_of g)
agree_picked b g =
    record {
      same_loaded = λ q r. ap is_here (picked (g (section_of q)) (b (section_of q)) r);
      same_number = λ q r. ap (λ o. number_in o (place_of q)) (picked (g (section_of q)) (b (section_of q)) r);
      same_pending = λ q r. ap (λ o. pending_in o (place_of q)) (picked (g (section_of q)) (b (section_of q)) r);
    }

-- a part's turns on its own sections alone are those in the whole
pub part_turns : (k : ℕ → Kind) (now : ℕ) (g : Grid) (part : List DueEntry) (b : SectionPos → Bool) → ((s : SectionPos) → IsOfPart (cells_of g) part s → IsTrue (b s))
    → SameTurns k now (IsSeen b g) (cells_of (only b g)) (cells_of g) part
part_turns k now g part b h =
    turns_within k now (IsSeen b g) part
    (each_then (Contains part) (λ x. (q : Pos) → InReach x.entry.pos q → IsSeen b g q)
    (λ x c q i l. h (section_of q) (record { owner = x; there = c; territory = record { block = q; in_reach = i; loaded = l; lies = refl } })) part (known_all part))
    (cells_of (only b g)) (cells_of g) (agree_picked b g)

pub itself_or_none : (o : Option Filling) → cond (is_here o) o None ≡ o
itself_or_none None = refl
itself_or_none (Some f) = refl

over_picked : (t : Grid) (b : SectionPos → Bool) (g : Grid) (s : SectionPos) → IsTrue (b s) → over t (without b g) s ≡ t s
over_picked t b g s c = ap (λ d. cond (is_here (t s)) (t s) (cond d None (g s))) c ∙ itself_or_none (t s)

over_other : (t : Grid) (b : SectionPos → Bool) (g : Grid) (s : SectionPos) → b s ≡ false → is_here (t s) ≡ false → over t (without b g) s ≡ g s
over_other t b g s c e = (λ i. cond (e i) (t s) (cond (c i) None (g s)))

no_entry_writes : (g : Grid) (part : List DueEntry) (b : SectionPos → Bool) → ((s : SectionPos) → IsOfPart (cells_of g) part s → IsTrue (b s)) → (q : Pos) → b (section_of q) ≡ false → IsFree (cells_of g) part (λ i. false) q
no_entry_writes g part b h q e =
    record { free = λ y c f i. true≢false (sym (h (section_of q) (record { owner = y; there = c; territory = record { block = q; in_reach = i.0; loaded = i.1; lies = refl } })) ∙ e) }

-- a part turned on its own sections alone and put back is the part turned in the whole
module _ (k : ℕ → Kind) (now : ℕ) (g : Grid) (part : List DueEntry) (b : SectionPos → Bool) (h : (s : SectionPos) → IsOfPart (cells_of g) part s → IsTrue (b s)) (t : Grid) (e : cells_of t ≡ world_after k now part (cells_of (only b g))) where
  put_back : {A : Type 0} (read : Option Filling → Pos → A) (seen : World → Pos → A) → ((u : Grid) (q : Pos) → seen (cells_of u) q ≡ read (u (section_of q)) q) → ((R : Pos → Type 0) (v w : World) → Agree R v w → (q : Pos) → R q → seen v q ≡ seen w q)
      → (q : Pos) → seen (cells_of (over t (without b g))) q ≡ seen (world_after k now part (cells_of g)) q
  put_back {A} read seen is same q = by (b (section_of q)) refl where
    here : is_here (t (section_of q)) ≡ is_here (only b g (section_of q))
    here = ap (λ u. u.loaded q) e ∙ ap (λ f. f q) (after_loaded k now part (cells_of (only b g)))

    untouched : Agree (IsFree (cells_of g) part (λ i. false)) (world_after k now part (cells_of g)) (cells_of g)
    untouched = subst (λ l. Agree (IsFree (cells_of g) part (λ i. false)) (world_after k now part (cells_of g)) (world_after k now l (cells_of g))) (none_chosen part)
        (project k now (cells_of g) part (λ i. false) (record { apart = λ x y cx cy hx hy. absurd (true≢false (sym hx)) }) part (known_all part) (cells_of g) (cells_of g) refl refl
        (record { same_loaded = λ r f. refl; same_number = λ r f. refl; same_pending = λ r f. refl })).cells

    by : (c : Bool) → b (section_of q) ≡ c → seen (cells_of (over t (without b g))) q ≡ seen (world_after k now part (cells_of g)) q
    by true c =
        is (over t (without b g)) q ∙ ap (λ o. read o q) (over_picked t b g (section_of q) c) ∙ sym (is t q) ∙ ap (λ u. seen u q) e
        ∙ same (IsSeen b g) _ _ (part_turns k now g part b h).cells q (λ _. c)
    by false c =
        is (over t (without b g)) q ∙ ap (λ o. read o q) (over_other t b g (section_of q) c (here ∙ ap (λ d. is_here (cond d (g (section_of q)) None)) c)) ∙ sym (is g q)
        ∙ sym (same (IsFree (cells_of g) part (λ i. false)) _ _ untouched q (no_entry_writes g part b h q c))

  pub put_back_is : cells_of (over t (without b g)) ≡ world_after k now part (cells_of g)
  put_back_is =
      λ i. record {
        loaded = λ q. put_back (λ o q. is_here o) (λ v q. v.loaded q) (λ u q. refl) (λ R v w a q r. a.same_loaded q r) q i;
        number = λ q. put_back (λ o q. number_in o (place_of q)) (λ v q. v.number q) (λ u q. refl) (λ R v w a q r. a.same_number q r) q i;
        pending = λ q. put_back (λ o q. pending_in o (place_of q)) (λ v q. v.pending q) (λ u q. refl) (λ R v w a q r. a.same_pending q r) q i;
      }

pub part_is_whole : (k : ℕ → Kind) (now : ℕ) (g : Grid) (part : List DueEntry) (b : SectionPos → Bool) → ((s : SectionPos) → IsOfPart (cells_of g) part s → IsTrue (b s)) → (t : Grid) → cells_of t ≡ world_after k now part (cells_of (only b g))
    → IsPutBack k now g part b t
part_is_whole k now g part b h t e = record { cells = put_back_is k now g part b h t e; made = (part_turns k now g part b h).made }

module _ (k : ℕ → Kind) (now : ℕ) (g : Grid) (parts : List (List DueEntry)) (part_of : ℕ → ℕ) (picks : ℕ → SectionPos → Bool) (parcels : ℕ → Grid) (h : Grid) (made : List Made) (m : AreMended k now g parts part_of picks parcels h made) where
  turns : (n : ℕ) → SameTurns k now (IsSeen (picks n) g) (cells_of (only (picks n) g)) (cells_of g) (part_at parts n)
  turns n = part_turns k now g (part_at parts n) (picks n) (λ s. (m.exact n s).1)

  here : (n : ℕ) (q : Pos) → IsTrue (picks n (section_of q)) → is_here (parcels n (section_of q)) ≡ is_here (g (section_of q))
  here n q c = ap (λ u. u.loaded q) (m.turned n) ∙ ap (λ f. f q) (after_loaded k now (part_at parts n) (cells_of (only (picks n) g))) ∙ ap is_here (picked (g (section_of q)) (picks n (section_of q)) (λ _. c))

  loaded_same : (q : Pos) → is_here (h (section_of q)) ≡ is_here (g (section_of q))
  loaded_same q = stable_test _ _ (λ differ. differ (ap is_here (m.others (section_of q) (λ n c. differ (ap is_here (m.mended n (section_of q) c) ∙ here n q c)))))

  pub mended_alone : IsAsAlone section_of k now (cells_of g) parts part_of (part_at parts) (cells_of h) made
  mended_alone =
      record {
        loaded = λ i q. loaded_same q i;
        sections = λ n. record {
          same_loaded = λ q o. let c : IsTrue (picks n (section_of q)) = (m.exact n (section_of q)).1 o in ap is_here (m.mended n (section_of q) c) ∙ ap (λ u. u.loaded q) (m.turned n) ∙ (turns n).cells.same_loaded q (λ _. c);
          same_number = λ q o. let c : IsTrue (picks n (section_of q)) = (m.exact n (section_of q)).1 o in ap (λ f. number_in f (place_of q)) (m.mended n (section_of q) c) ∙ ap (λ u. u.number q) (m.turned n) ∙ (turns n).cells.same_number q (λ _. c);
          same_pending = λ q o. let c : IsTrue (picks n (section_of q)) = (m.exact n (section_of q)).1 o in ap (λ f. pending_in f (place_of q)) (m.mended n (section_of q) c) ∙ ap (λ u. u.pending q) (m.turned n) ∙ (turns n).cells.same_pending q (λ _. c);
        };
        elsewhere = record {
          same_loaded = λ q f. ap is_here (m.others (section_of q) (λ n c. f n ((m.exact n (section_of q)).0 c)));
          same_number = λ q f. ap (λ o. number_in o (place_of q)) (m.others (section_of q) (λ n c. f n ((m.exact n (section_of q)).0 c)));
          same_pending = λ q f. ap (λ o. pending_in o (place_of q)) (m.others (section_of q) (λ n c. f n ((m.exact n (section_of q)).0 c)));
        };
        put_aside = λ n. m.put_aside n ∙ (turns n).made;
      }

pub mended_whole : (g : Grid) (entries : List Entry) (parts : List (List DueEntry)) (plan : IsPlan (cells_of g) entries parts) (k : ℕ → Kind) (now : ℕ) (picks : ℕ → SectionPos → Bool) (parcels : ℕ → Grid) (h : Grid) (made : List Made)
    → AreMended k now g parts plan.part_of picks parcels h made → (lists : Lists) → gathered (cells_of h) lists made ≡ in_order k now entries (cells_of g) lists
mended_whole g entries parts plan k now picks parcels h made m =
    gathers_whole section_of (cells_of g) entries parts plan k now (cells_of h) made (mended_alone k now g parts plan.part_of picks parcels h made m)
