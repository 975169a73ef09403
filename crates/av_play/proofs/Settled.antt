-- Parts turned on their own sections, put back without what they put aside, which is then appended.
use Rattle.std.proofs.Common.{◌≡◌, ℕ, Bool, true, false, cond, List, [], ◌∷◌, refl, sym, ap, ◌∙◌, IsTrue, subst}
use Rattle.std.specs.Ordering.{is_lt}
use Rattle.av_types.specs.declared.position.Pos.{Pos}
use Rattle.av_types.specs.declared.position.SectionPos.{SectionPos}
use Rattle.av_types.specs.declared.tick.Entry.{Entry}
use Rattle.av_types.specs.declared.tick.Made.{Made}
use Rattle.av_types.specs.Positions.{section_of}
use Rattle.av_cells.specs.declared.kind.Kind.{Kind}
use Rattle.av_cells.specs.Positions.{same_pos}
use Rattle.av_cells.specs.World.{World, Lists, listed_all}
use Rattle.av_cells.specs.Grid.{Grid, cells_of, only}
use Rattle.av_ticks.specs.Entries.{made_order}
use Rattle.av_types.specs.Order.{inserted, ordered}
use Rattle.av_play.specs.declared.event.DueEntry.{DueEntry}
use Rattle.av_play.specs.Parts.{numbered, IsPlan, part_at}
use Rattle.av_play.specs.Play.{in_order, world_after, made_after, entries_of}
use Rattle.av_play.specs.Laws.{IsAsAlone}
use Rattle.av_play.specs.Parcels.{AreSettled}
use Rattle.av_play.specs.Waiting.{is_among, AreNew, appended}
use Rattle.av_play.proofs.Projection.{after_loaded}
use Rattle.av_play.proofs.Parcels.{part_turns, SameTurns, IsSeen}
use Rattle.av_play.proofs.Interleaving.{alone_after, whole_world, merged}
use Rattle.av_play.proofs.Merge.{in_order_is}
use Rattle.av_play.proofs.Waiting.{turns_wait, turns_fresh}

-- entries in another order are of the same blocks
among_inserted : (q : Pos) (m : Made) (ms : List Made) → is_among q (entries_of (inserted made_order m ms)) ≡ is_among q (entries_of (m ∷ ms))
among_inserted q m [] = refl
among_inserted q m (x ∷ xs) = by (is_lt (made_order x m)) (same_pos q x.entry.pos) (same_pos q m.entry.pos) refl refl (among_inserted q m xs) where
  by : (b c d : Bool) → same_pos q x.entry.pos ≡ c → same_pos q m.entry.pos ≡ d → is_among q (entries_of (inserted made_order m xs)) ≡ is_among q (entries_of (m ∷ xs))
      → is_among q (entries_of (cond b (x ∷ inserted made_order m xs) (m ∷ x ∷ xs))) ≡ is_among q (entries_of (m ∷ x ∷ xs))
  by false c d e f h = refl
  by true c d e f h = ap (λ r. cond (same_pos q x.entry.pos) true r) h ∙ swap (same_pos q x.entry.pos) (same_pos q m.entry.pos) (is_among q (entries_of xs)) where
    swap : (c d r : Bool) → cond c true (cond d true r) ≡ cond d true (cond c true r)
    swap true true r = refl
    swap true false r = refl
    swap false d r = refl

pub among_ordered : (q : Pos) (ms : List Made) → is_among q (entries_of (ordered made_order ms)) ≡ is_among q (entries_of ms)
among_ordered q [] = refl
among_ordered q (m ∷ ms) = among_inserted q m (ordered made_order ms) ∙ ap (λ r. cond (same_pos q m.entry.pos) true r) (among_ordered q ms)

-- what is new in a world is new where the same blocks wait
new_where : (v w : World) (es : List Entry) → ((q : Pos) → v.pending q ≡ w.pending q) → AreNew w es → AreNew v es
new_where v w [] same n = tt
new_where v w (e ∷ es) same n = (same e.pos ∙ n.0, n.1, new_where v w es same n.2)

module _ (g : Grid) (entries : List Entry) (parts : List (List DueEntry)) (plan : IsPlan (cells_of g) entries parts) (k : ℕ → Kind) (now : ℕ) (picks : ℕ → SectionPos → Bool) (h : World) (made : List Made) (m : AreSettled k now g parts plan.part_of picks h made) where
  abbrev w : World
  w = cells_of g

  abbrev all : List DueEntry
  all = numbered 0 entries

  -- the numbers of h, and what waits after the tick
  abbrev v : World
  v = record { loaded = h.loaded; number = h.number; pending = (world_after k now all w).pending }

  turns : (n : ℕ) → SameTurns k now (IsSeen (picks n) g) (cells_of (only (picks n) g)) w (part_at parts n)
  turns n = part_turns k now g (part_at parts n) (picks n) (λ s. (m.exact n s).1)

  serial : IsAsAlone section_of k now w parts plan.part_of (part_at parts) (world_after k now all w) (made_after k now all w)
  serial = alone_after section_of w entries parts plan k now

  v_alone : IsAsAlone section_of k now w parts plan.part_of (part_at parts) v made
  v_alone =
      record {
        loaded = λ i q. m.same_loaded q i;
        sections = λ n. record {
          same_loaded = λ q o. m.same_loaded q ∙ ap (λ f. f q) (sym (after_loaded k now (part_at parts n) w));
          same_number = λ q o. let c : IsTrue (picks n (section_of q)) = (m.exact n (section_of q)).1 o in m.numbers n q c ∙ (turns n).cells.same_number q (λ _. c);
          same_pending = λ q o. (serial.sections n).same_pending q o;
        };
        elsewhere = record {
          same_loaded = λ q f. m.same_loaded q;
          same_number = λ q f. m.others q (λ n c. f n ((m.exact n (section_of q)).0 c));
          same_pending = λ q f. serial.elsewhere.same_pending q f;
        };
        put_aside = λ n. m.put_aside n ∙ (turns n).made;
      }

  list : ordered made_order made ≡ made_after k now all w
  list = merged section_of w entries parts plan k now v made v_alone

  pub settled_new : AreNew h (entries_of (ordered made_order made))
  settled_new = new_where h w _ m.same_pending (subst (λ ms. AreNew w (entries_of ms)) (sym list) (turns_fresh k now all w))

  pub settled_whole : (lists : Lists) → appended h lists (entries_of (ordered made_order made)) ≡ in_order k now entries w lists
  settled_whole lists =
      let same : v ≡ world_after k now all w = whole_world section_of w entries parts plan k now v made v_alone in
      (λ i. record {
        world = record {
          loaded = (same i).loaded;
          number = (same i).number;
          pending = λ q. ((λ j. cond (is_among q (entries_of (list j))) true (m.same_pending q j)) ∙ sym (turns_wait k now all w q)) i;
        };
        lists = listed_all lists (entries_of (list i));
      }) ∙ sym (in_order_is k now 0 entries w lists)
