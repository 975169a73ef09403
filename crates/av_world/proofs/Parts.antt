-- Sections taken out one after the other.
use Rattle.std.proofs.Common.{◌≡◌, ◌≢◌, ℕ, zero, suc, ◌+◌, ◌<◌, ◌≤◌, Bool, true, false, cond, IsTrue, List, [], ◌∷◌, length, get_or, slice_set, drop, Option, None, refl, sym, ap, ◌∙◌, arith, ◌⊎◌, inl, inr, true≢false, length-set, get_or-set_same, get_or-set_other}
use Rattle.std.specs.List.{AllPairs}
use Rattle.std.proofs.lemmas.Bool.{cases_eq}
use Rattle.std.proofs.lemmas.List.{drop_more, drop_all, get_or_default}
use Rattle.av_types.specs.Positions.{section_of, place_of, chunk_of}
use Rattle.av_types.specs.declared.position.Pos.{Pos}
use Rattle.av_types.specs.declared.position.SectionPos.{SectionPos}
use Rattle.av_types.proofs.SamePositions.{same_section_is, same_section_from}
use Rattle.av_section.specs.declared.section.Section.{Section}
use Rattle.av_ticks.specs.Entries.{is_pending}
use Rattle.av_cells.specs.Positions.{same_section}
use Rattle.av_cells.specs.World.{Lists}
use Rattle.av_cells.specs.Grid.{Grid, Filling, with_filling, among, only, without, is_here, pending_in, cells_of}
use Rattle.av_world.specs.Lawful.{IsTied}
use Rattle.av_world.specs.Sections.{filling_in}
use Rattle.av_world.specs.Parts.{index, part_grid}

-- ---- a section exchanged keeps what waits tied to the lists

pub tied_exchanged : (g : Grid) (l : Lists) (s : SectionPos) (f : Option Filling) → IsTied (cells_of g) l
    → ((p : Pos) → section_of p ≡ s → IsTrue (is_here f) → pending_in f (place_of p) ≡ is_pending p (l (chunk_of p))) → IsTied (cells_of (with_filling g s f)) l
tied_exchanged g l s f tied new = λ p t. by p (same_section (section_of p) s) refl t where
  by : (p : Pos) (b : Bool) → same_section (section_of p) s ≡ b → IsTrue (is_here (cond b f (g (section_of p)))) → pending_in (cond b f (g (section_of p))) (place_of p) ≡ is_pending p (l (chunk_of p))
  by p true e t = new p (same_section_is (section_of p) s e) t
  by p false e t = tied p t

-- ---- where a section stands among some

pub index_found : (ts : List SectionPos) (s d : SectionPos) (i : ℕ) → i < length ts → get_or ts i d ≡ s → ((j : ℕ) → j < i → same_section (get_or ts j d) s ≡ false) → index ts s ≡ i
index_found [] s d i below at others = absurd (omega arith)
index_found (t ∷ ts) s d zero below at others = rw (same_section_from t s at) refl
index_found (t ∷ ts) s d (suc i) below at others = rw (others 0 (omega arith)) (ap suc (index_found ts s d i (omega arith) at (λ j h. others (suc j) (omega arith))))

-- in a list of distinct sections a section stands where it is found
pub index_at_index : (ts : List SectionPos) (s d : SectionPos) (i : ℕ) → AllPairs (λ s t. same_section t s ≡ false) ts → i < length ts → get_or ts i d ≡ s → index ts s ≡ i
index_at_index ts s d i distinct below at = index_found ts s d i below at (λ j lt. by j (same_section (get_or ts j d) s) refl lt) where
  by : (j : ℕ) (b : Bool) → same_section (get_or ts j d) s ≡ b → j < i → b ≡ false
  by j true e lt = absurd (true≢false (sym (same_section_from (get_or ts i d) (get_or ts j d) (at ∙ sym (same_section_is (get_or ts j d) s e))) ∙ distinct j i d lt below))
  by j false e lt = refl

pub index_absent : (ts : List SectionPos) (s : SectionPos) → among ts s ≡ false → index ts s ≡ length ts
index_absent [] s h = refl
index_absent (t ∷ ts) s h = by (same_section s t) (same_section t s) refl refl h (λ n. index_absent ts s n) where
  by : (b c : Bool) → same_section s t ≡ b → same_section t s ≡ c → cond b true (among ts s) ≡ false → (among ts s ≡ false → index ts s ≡ length ts) → cond c zero (suc (index ts s)) ≡ suc (length ts)
  by true c e f n rest = absurd (true≢false n)
  by false true e f n rest = absurd (true≢false (sym (same_section_from s t (sym (same_section_is t s f))) ∙ e))
  by false false e f n rest = ap suc (rest n)

pub index_among : (ts : List SectionPos) (s d : SectionPos) → among ts s ≡ true → (index ts s < length ts) × (get_or ts (index ts s) d ≡ s)
index_among [] s d h = absurd (true≢false (sym h))
index_among (t ∷ ts) s d h = by (same_section s t) (same_section t s) refl refl h (λ n. index_among ts s d n) where
  by : (b c : Bool) → same_section s t ≡ b → same_section t s ≡ c → cond b true (among ts s) ≡ true → (among ts s ≡ true → (index ts s < length ts) × (get_or ts (index ts s) d ≡ s))
      → (cond c zero (suc (index ts s)) < suc (length ts)) × (get_or (t ∷ ts) (cond c zero (suc (index ts s))) d ≡ s)
  by b true e f n rest = (omega arith, same_section_is t s f)
  by true false e f n rest = absurd (true≢false (sym (same_section_from t s (sym (same_section_is s t e))) ∙ f))
  by false false e f n rest = let r = rest n in (omega (arith, r.0), r.1)

pub past_none : (slots : List (Option Section)) (i : ℕ) → length slots ≤ i → get_or slots i None ≡ None
past_none [] i h = refl
past_none (x ∷ xs) zero h = absurd (omega arith)
past_none (x ∷ xs) (suc i) h = past_none xs i (omega arith)

-- ---- taken out one after the other: the first i are out of the world and in their slots

pub record IsTaking (at : List SectionPos) (old now : Grid) (slots : List (Option Section)) (i : ℕ) : Type 0 where
  pub count : length slots ≡ length at
  pub grid : without (among (drop i at)) now ≡ without (among at) old
  pub rest : (j : ℕ) (d : SectionPos) → i ≤ j → j < length at → now (get_or at j d) ≡ old (get_or at j d)
  pub taken : (j : ℕ) (d : SectionPos) → j < i → filling_in (get_or slots j None) ≡ old (get_or at j d)

each : (a b : Bool) (o : Option Filling) → cond b None (cond a None o) ≡ cond (cond a true b) None o
each true true o = refl
each true false o = refl
each false b o = refl

without_more : (g : Grid) (s : SectionPos) (rest : List SectionPos) → without (among rest) (with_filling g s None) ≡ without (among (s ∷ rest)) g
without_more g s rest = λ i t. each (same_section t s) (among rest t) (g t) i

pub taking_begins : (at : List SectionPos) (g : Grid) (slots : List (Option Section)) → length slots ≡ length at → IsTaking at g g slots 0
taking_begins at g slots count = record { count = count; grid = refl; rest = λ j d h k. refl; taken = λ j d h. absurd (omega arith) }

pub taking_goes_on : (at : List SectionPos) (old now : Grid) (slots : List (Option Section)) (i : ℕ) (d : SectionPos) (x : Option Section) → AllPairs (λ s t. same_section t s ≡ false) at → i < length at
    → filling_in x ≡ now (get_or at i d) → IsTaking at old now slots i → IsTaking at old (with_filling now (get_or at i d) None) (slice_set slots i x) (i + 1)
taking_goes_on at old now slots i d x distinct below is so = record {
  count = length-set slots i x ∙ so.count;
  grid = without_more now (get_or at i d) (drop (i + 1) at) ∙ (ap (λ xs. without (among xs) now) (sym (drop_more at i d below)) ∙ so.grid);
  rest = λ j e h k. rw (other j e h k) (so.rest j e (omega arith) k);
  taken = λ j e h. taken_at j e h (cases_eq j i);
} where
  other : (j : ℕ) (e : SectionPos) → i + 1 ≤ j → j < length at → same_section (get_or at j e) (get_or at i d) ≡ false
  other j e h k = rw (get_or_default at i d e below) (distinct i j e (omega arith) k)

  taken_at : (j : ℕ) (e : SectionPos) → j < i + 1 → (j ≡ i) ⊎ (j ≢ i) → filling_in (get_or (slice_set slots i x) j None) ≡ old (get_or at j e)
  taken_at j e h (inl same) =
      rw (same, get_or-set_same slots i x None (omega (arith, so.count, below))) (is ∙ (so.rest i d (omega arith) below ∙ ap old (get_or_default at i d e below)))
  taken_at j e h (inr n) = rw (get_or-set_other slots i j x None n) (so.taken j e (omega (arith, n)))

pub taking_ends : (at : List SectionPos) (old now : Grid) (slots : List (Option Section)) (i : ℕ) → length at ≤ i → IsTaking at old now slots i → now ≡ without (among at) old
taking_ends at old now slots i past so = ap (λ xs. without (among xs) now) (sym (drop_all i at past)) ∙ so.grid

pub taken_all : (at : List SectionPos) (old now : Grid) (slots : List (Option Section)) (i : ℕ) → length at ≤ i → IsTaking at old now slots i → part_grid at slots ≡ only (among at) old
taken_all at old now slots i past so = λ k s. by s (among at s) refl k where
  by : (s : SectionPos) (b : Bool) → among at s ≡ b → part_grid at slots s ≡ cond b (old s) None
  by s true e = let r = index_among at s s e in so.taken (index at s) s (omega (arith, r.0)) ∙ ap old r.1
  by s false e = ap filling_in (ap (λ j. get_or slots j None) (index_absent at s e) ∙ past_none slots (length at) (omega (arith, so.count)))

pub index_past : (ts : List SectionPos) (s d : SectionPos) → ((j : ℕ) → j < length ts → same_section (get_or ts j d) s ≡ false) → index ts s ≡ length ts
index_past [] s d h = refl
index_past (t ∷ ts) s d h = rw (h 0 (omega arith)) (ap suc (index_past ts s d (λ j l. h (suc j) (omega arith))))
