-- Where all parts are back, what was put aside can be appended, and that gives the end of the play.
use Rattle.std.proofs.Common.{◌≡◌, ℕ, ◌<◌, Bool, true, false, cond, ◌&&◌, List, [], ◌∷◌, length, get_or, slice_get, Option, Some, refl, sym, ap, ◌∙◌, subst, arith, IsTrue, All}
use Rattle.std.specs.List.{AllPairs}
use Rattle.std.specs.Ordering.{is_lt}
use Rattle.std.proofs.lemmas.Bool.{true≢false}
use Rattle.std.proofs.lemmas.List.Elements.{All-cons, All-nil}
use Rattle.std.proofs.lemmas.List.Kept.{AllPairs-cons}
use Rattle.std.proofs.lemmas.Option.{slice_get_within, slice_get-get_or, get_or_from_slice_get}
use Rattle.av_ticks.proofs.Lookup.{cond_neither}
use Rattle.av_types.specs.Positions.{chunk_of}
use Rattle.av_types.specs.declared.position.Pos.{Pos}
use Rattle.av_types.specs.declared.position.ChunkPos.{ChunkPos}
use Rattle.av_types.specs.declared.position.SectionPos.{SectionPos}
use Rattle.av_types.specs.declared.position.Height.{Height}
use Rattle.av_types.specs.declared.tick.Entry.{Entry}
use Rattle.av_types.specs.declared.tick.Made.{Made}
use Rattle.av_types.proofs.SamePositions.{same_pos_from, same_pos_back}
use Rattle.av_ticks.specs.Entries.{is_pending, made_order}
use Rattle.av_types.specs.Order.{ordered, inserted}
use Rattle.av_cells.specs.Positions.{same_pos}
use Rattle.av_cells.specs.World.{World, Lists}
use Rattle.av_world.specs.Appended.{entries_made, with_entries as with_appended}
use Rattle.av_play.specs.declared.event.DueEntry.{DueEntry}
use Rattle.av_play.specs.declared.event.Stage.{Stage}
use Rattle.av_play.specs.declared.event.Stage.TheVariants.{Ended}
use Rattle.av_play.specs.Play.{entries_of}
use Rattle.av_play.specs.Waiting.{is_among, with_entries, AreNew}
use Rattle.av_inter.specs.Out.{Out}
use Rattle.av_inter.specs.Whole.{whole}
use Rattle.av_inter.specs.Lawful.{is_home, is_ended, listed, IsCore}
use Rattle.av_inter.proofs.LookUps.{AreOff, read_off}
use Rattle.av_inter.proofs.OneTurn.{new_among, new_from}

among_inserted : (q : Pos) (m : Made) (ms : List Made) → is_among q (entries_of (inserted made_order m ms)) ≡ cond (same_pos q m.entry.pos) true (is_among q (entries_of ms))
among_inserted q m [] = refl
among_inserted q m (y ∷ ys) = by (is_lt (made_order y m)) (among_inserted q m ys) where
  swap : (a b c : Bool) → cond a true (cond b true c) ≡ cond b true (cond a true c)
  swap true true c = refl
  swap true false c = refl
  swap false true c = refl
  swap false false c = refl

  by : (b : Bool) → is_among q (entries_of (inserted made_order m ys)) ≡ cond (same_pos q m.entry.pos) true (is_among q (entries_of ys))
      → is_among q (entries_of (cond b (y ∷ inserted made_order m ys) (m ∷ y ∷ ys))) ≡ cond (same_pos q m.entry.pos) true (cond (same_pos q y.entry.pos) true (is_among q (entries_of ys)))
  by true h = ap (λ c. cond (same_pos q y.entry.pos) true c) h ∙ swap (same_pos q y.entry.pos) (same_pos q m.entry.pos) (is_among q (entries_of ys))
  by false h = refl

among_ordered : (q : Pos) (ms : List Made) → is_among q (entries_of (ordered made_order ms)) ≡ is_among q (entries_of ms)
among_ordered q [] = refl
among_ordered q (m ∷ ms) = among_inserted q m (ordered made_order ms) ∙ ap (λ c. cond (same_pos q m.entry.pos) true c) (among_ordered q ms)

new_inserted : (w : World) (m : Made) (ms : List Made) → w.pending m.entry.pos ≡ false → is_among m.entry.pos (entries_of ms) ≡ false → AreNew w (entries_of ms) → AreNew w (entries_of (inserted made_order m ms))
new_inserted w m [] p a h = (p, refl, tt)
new_inserted w m (y ∷ ys) p a h = by (is_lt (made_order y m)) (new_inserted w m ys p) where
  by : (b : Bool) → (is_among m.entry.pos (entries_of ys) ≡ false → AreNew w (entries_of ys) → AreNew w (entries_of (inserted made_order m ys))) → AreNew w (entries_of (cond b (y ∷ inserted made_order m ys) (m ∷ y ∷ ys)))
  by true more =
      let n = cond_neither (same_pos m.entry.pos y.entry.pos) (is_among m.entry.pos (entries_of ys)) a in
      (h.0, among_inserted y.entry.pos m ys ∙ ap (λ c. cond c true (is_among y.entry.pos (entries_of ys))) (same_pos_back m.entry.pos y.entry.pos n.0) ∙ h.1, more n.1 h.2)
  by false more = (p, a, h)

pub new_ordered : (w : World) (ms : List Made) → AreNew w (entries_of ms) → AreNew w (entries_of (ordered made_order ms))
new_ordered w [] h = tt
new_ordered w (m ∷ ms) h = new_inserted w m (ordered made_order ms) h.0 (among_ordered m.entry.pos ms ∙ h.1) (new_ordered w ms h.2)

-- what holds of each block among the entries holds of each entry
pub each_among : (P : Pos → Type 0) (ms : List Made) → ((q : Pos) → is_among q (entries_of ms) ≡ true → P q) → All (λ m. P m.entry.pos) ms
each_among P [] h = All-nil (λ m. P m.entry.pos)
each_among P (m ∷ ms) h =
    All-cons (λ m. P m.entry.pos) m ms (h m.entry.pos (ap (λ c. cond c true (is_among m.entry.pos (entries_of ms))) (same_pos_from m.entry.pos m.entry.pos refl))) (each_among P ms (λ q a. h q (or_later (same_pos q m.entry.pos) a)))
  where
    or_later : (c : Bool) {d : Bool} → d ≡ true → cond c true d ≡ true
    or_later true e = refl
    or_later false e = e

none_among : (q : Pos) (ms : List Made) → is_among q (entries_of ms) ≡ false → All (λ m. same_pos m.entry.pos q ≡ false) ms
none_among q [] h = All-nil (λ m. same_pos m.entry.pos q ≡ false)
none_among q (m ∷ ms) h = by (same_pos q m.entry.pos) refl h (none_among q ms) where
  by : (c : Bool) → same_pos q m.entry.pos ≡ c → cond c true (is_among q (entries_of ms)) ≡ false → (is_among q (entries_of ms) ≡ false → All (λ m. same_pos m.entry.pos q ≡ false) ms) → All (λ m. same_pos m.entry.pos q ≡ false) (m ∷ ms)
  by true e u more = absurd (true≢false u)
  by false e u more = All-cons (λ m. same_pos m.entry.pos q ≡ false) m ms (same_pos_back q m.entry.pos e) (more u)

pub new_pairs : (w : World) (ms : List Made) → AreNew w (entries_of ms) → AllPairs (λ a b. same_pos b.entry.pos a.entry.pos ≡ false) ms
new_pairs w [] h = λ i j d l m. absurd (omega arith)
new_pairs w (m ∷ ms) h = AllPairs-cons (λ a b. same_pos b.entry.pos a.entry.pos ≡ false) m ms (none_among m.entry.pos ms h.1) (new_pairs w ms h.2)

pub entries_are : (ms : List Made) → entries_made ms ≡ entries_of ms
entries_are [] = refl
entries_are (m ∷ ms) = ap (λ es. m.entry ∷ es) (entries_are ms)

pub among_is : (q : Pos) (es : List Entry) → is_pending q es ≡ is_among q es
among_is q [] = refl
among_is q (e ∷ es) = ap (λ c. cond (same_pos q e.pos) true c) (among_is q es)

-- entries in order, and as they were put aside, make the same blocks wait
pub appended_is : (w : World) (ms ns : List Made) → ns ≡ ordered made_order ms → with_appended w (entries_made ns) ≡ with_entries w (entries_of ms)
appended_is w ms ns e = λ i. record { loaded = w.loaded; number = w.number; pending = λ q. cond ((ap (λ es. is_pending q es) (ap entries_made e ∙ entries_are (ordered made_order ms)) ∙ among_is q (entries_of (ordered made_order ms)) ∙ among_ordered q ms) i) true (w.pending q) }

module _ (count : ℕ) (h : Height) (ps : List ChunkPos) (l : Lists) (rest : World) (secs : List (List SectionPos)) (parts : List (List DueEntry)) (stages : List Stage) (os : List (Option Out)) (made : List Made)
    (core : IsCore count h ps l rest secs parts stages os made) (tied_rest : (q : Pos) → rest.loaded q ≡ true → rest.pending q ≡ is_pending q (l (chunk_of q))) (ended : All (λ s. s ≡ Ended) stages) where
  off : (q : Pos) → AreOff os q
  off q n o e = absurd (true≢false (sym (sym (ap is_home e) ∙ core.back n ∙ ap is_ended at))) where
    inside : n < length stages
    inside = let a = slice_get_within os n (Some o) e in let b = core.counted in omega arith

    at : slice_get stages n ≡ Some Ended
    at = slice_get-get_or stages n Ended inside ∙ ap Some (ended n Ended inside)

  pub rest_is : whole os rest made ≡ with_entries rest (entries_of made)
  rest_is =
      λ i. record {
        loaded = λ q. read_off (λ v. v.loaded) os rest q (off q) i;
        number = λ q. read_off (λ v. v.number) os rest q (off q) i;
        pending = λ q. cond (is_among q (entries_of made)) true (read_off (λ v. v.pending) os rest q (off q) i);
      }

  loaded_is : (q : Pos) → is_among q (entries_of made) ≡ true → rest.loaded q ≡ true
  loaded_is q a = sym (read_off (λ v. v.loaded) os rest q (off q)) ∙ core.within q a

  fresh_is : (q : Pos) → is_among q (entries_of made) ≡ true → rest.pending q ≡ false
  fresh_is q a =
      tied_rest q (loaded_is q a) ∙ right ((whole os rest made).loaded q) (is_pending q (l (chunk_of q))) (core.within q a) (new_among (listed (whole os rest made) l) q (entries_of made) (new_from (listed (whole os rest made) l) (entries_of made) core.fresh) a)
    where
      right : (b c : Bool) → b ≡ true → b && c ≡ false → c ≡ false
      right true c e f = f
      right false c e f = absurd (true≢false (sym e))

  pub can_load : (ns : List Made) → ns ≡ ordered made_order made → All (λ m. IsTrue (rest.loaded m.entry.pos)) ns
  can_load ns e = subst (All (λ m. IsTrue (rest.loaded m.entry.pos))) (sym e) (each_among (λ q. IsTrue (rest.loaded q)) (ordered made_order made) (λ q a. loaded_is q (sym (among_ordered q made) ∙ a)))

  pub are_fresh : (ns : List Made) → ns ≡ ordered made_order made → All (λ m. rest.pending m.entry.pos ≡ false) ns
  are_fresh ns e = subst (All (λ m. rest.pending m.entry.pos ≡ false)) (sym e) (each_among (λ q. rest.pending q ≡ false) (ordered made_order made) (λ q a. fresh_is q (sym (among_ordered q made) ∙ a)))

  pub are_distinct : (ns : List Made) → ns ≡ ordered made_order made → AllPairs (λ a b. same_pos b.entry.pos a.entry.pos ≡ false) ns
  are_distinct ns e = subst (AllPairs (λ a b. same_pos b.entry.pos a.entry.pos ≡ false)) (sym e) (new_pairs (listed (whole os rest made) l) (ordered made_order made) (new_ordered (listed (whole os rest made) l) made (new_from (listed (whole os rest made) l) (entries_of made) core.fresh)))

pub all_from_back : (stages : List Stage) → ((n : ℕ) (g : Stage) → slice_get stages n ≡ Some g → g ≡ Ended) → All (λ s. s ≡ Ended) stages
all_from_back stages h k d l = h k (get_or stages k d) (slice_get-get_or stages k d l)

pub back_from_all : (stages : List Stage) → All (λ s. s ≡ Ended) stages → (n : ℕ) (g : Stage) → slice_get stages n ≡ Some g → g ≡ Ended
back_from_all stages h n g e = sym (get_or_from_slice_get stages n g Ended e) ∙ h n Ended (slice_get_within stages n g e)
