-- A chunk that was read, put together.
use Rattle.std.proofs.Common.{◌≡◌, ℕ, ◌<◌, ◌≤◌, ℤ, Bool, true, false, ◌||◌, Option, Some, None, List, [], ◌∷◌, ◌++◌, length, get_or, slice_get, refl, sym, ap, subst, ◌∙◌, arith, min, if◌then◌else◌, codes}
use Rattle.std.proofs.lemmas.Bool.Decides.{nat_tests}
use Rattle.std.proofs.lemmas.List.Elements.{All-from_recursion}
use Rattle.std.specs.List.{AllByRecursion, list_any, flat_map}
use Rattle.std.proofs.lemmas.Bool.{and_parts}
use Rattle.av_types.specs.Division.{divided}
use Rattle.av_types.specs.Faults.{least, lesser}
use Rattle.av_types.specs.Positions.{is_section_of, place_of, section_index}
use Rattle.av_types.specs.declared.position.Pos.{Pos}
use Rattle.av_types.specs.declared.position.ChunkPos.{ChunkPos}
use Rattle.av_types.specs.declared.position.Height.{Height}
use Rattle.av_types.specs.declared.tick.Entry.{Entry}
use Rattle.av_tags.specs.Nbt.{NamedTag, Document, members_of}
use Rattle.av_tags.specs.ByName.{emptied}
use Rattle.av_tags.specs.Shape.{members_in}
use Rattle.av_tags.specs.View.{named_views}
use Rattle.av_tags.specs.declared.tag.Named.{Named}
use Rattle.av_state.specs.BlockState.{BlockState}
use Rattle.av_state.specs.StateList.{with_states, most_states}
use Rattle.av_ticks.specs.Entries.{is_pending}
use Rattle.av_ticks.specs.Ticks.{entries}
use Rattle.av_section.specs.BlockStates.{when}
use Rattle.av_section.specs.Section.{number_at}
use Rattle.av_section.specs.Section as section
use Rattle.av_section.specs.declared.section.Section.{Section}
use Rattle.av_document.specs.Ticks.{lies_in}
use Rattle.av_document.specs.Law.{HasInts}
use Rattle.av_document.specs.Stored.{IsStored, WasRead}
use Rattle.av_document.proofs.Ints.{ints_read}
use Rattle.av_document.specs.Chunk.{root_tags, sections, ticks, numbered, section_states, first_fault, DenotesChunk, block_cell, block_states_of, tags_at, cell_of}
use Rattle.av_document.proofs.Positions.{within_from, place_of-lt}
use Rattle.av_chunk.specs.declared.chunk.Chunk.{Chunk}
use Rattle.av_chunk.specs.declared.rest.ChunkRest.{ChunkRest}
use Rattle.av_codec.specs.declared.reading.sections.Sections.{Sections}
use Rattle.av_codec.specs.declared.reading.water.Ticks.{Ticks}
use Rattle.av_chunk.specs.Rest.{rest_with, found_outside}
use Rattle.av_chunk.specs.Views.{section_in, state_in, cells_of, rest_of, is_entry_at}
use Rattle.av_chunk.specs.Reading.{IsLoaded}
use Rattle.av_codec.specs.Assembly.{IsTakenApart}
use Rattle.av_codec.specs.Pending.{SlotAddsAll, MarksPending}
use Rattle.av_codec.specs.TicksRead.{AreTicks}
use Rattle.av_codec.specs.SectionsRead.{are_too_many, SlotHas, AreSectionsRead}
use Rattle.av_chunk.specs.Reading.{IsAdmitted}
use Rattle.av_codec.proofs.Admitted.{first_loaded}
use Rattle.av_codec.proofs.WaterIn.{AreIn, water_in, pending_at}

pub members_in-of : (ms : List NamedTag) → members_in (members_of ms) ≡ ms
members_in-of [] = refl
members_in-of (m ∷ ms) = ap (λ xs. m ∷ xs) (members_in-of ms)

-- ---- a slot after its places were made pending

pub record Filled (table : List BlockState) (cell : ℕ → BlockState) (test : ℕ → Bool) (now : Option Section) : Type 0 where
  pub value : Section
  pub is : now ≡ Some value
  pub numbers : (i : ℕ) → i < 4096 → slice_get table (number_at value i) ≡ Some (cell i)
  pub pending : (i : ℕ) → section.is_pending value i ≡ test i

filled : (table : List BlockState) (cell : ℕ → BlockState) (test : ℕ → Bool) (old now : Option Section) → SlotHas table cell old → SlotAddsAll old now test → Filled table cell test now
filled table cell test None now s a = absurd s
filled table cell test (Some x) None s a = absurd a
filled table cell test (Some x) (Some v) s a = record {
  value = v;
  is = refl;
  numbers = λ i p. rw (a.numbers i) (s.numbers i p);
  pending = λ i. a.pending i ∙ ap (λ b. b || test i) (s.pending i);
}

-- ---- the whole

few_states : (table more : List BlockState) (new : List BlockState) → new ≡ with_states table more → length new ≤ most_states → are_too_many table more ≡ false
few_states table more new e p = let q : length (with_states table more) ≤ most_states = rw e at p in grind (arith, nat_tests)

pub record Parts (c : ChunkPos) (h : Height) (root : List NamedTag) (old new : List BlockState) (read : Sections) (t : Ticks) (chunk : Chunk) (tags : List Named) : Type 0 where
  pub admitted : IsAdmitted h c root
  pub read_are : AreSectionsRead h (sections root) old new read
  pub ticks_are : AreTicks c h (ticks root) t
  pub few : length new ≤ most_states
  pub water : entries chunk.ticks ≡ entries t.water
  pub marked : MarksPending h (entries t.water) read.sections.items chunk.sections.items
  pub tags_are : named_views tags ≡ emptied (codes "fluid_ticks") (emptied (codes "sections") root)

slot_of : (c : ChunkPos) (h : Height) (root : List NamedTag) (old new : List BlockState) (read : Sections) (t : Ticks) (chunk : Chunk) (tags : List Named)
    → Parts c h root old new read t chunk tags → (y : ℤ) → is_section_of h y ≡ true
    → Filled new (block_cell (block_states_of (tags_at y root))) (λ i. list_any (is_entry_at h (section_index h y) i) (entries t.water)) (section_in h chunk y)
slot_of c h root old new read t chunk tags p y s =
    filled new _ _ (get_or read.sections.items (section_index h y) None) (section_in h chunk y) (p.read_are.cells y s) (p.marked.slots (section_index h y))

state_of : (c : ChunkPos) (h : Height) (root : List NamedTag) (old new : List BlockState) (read : Sections) (t : Ticks) (chunk : Chunk) (tags : List Named)
    → Parts c h root old new read t chunk tags → (q : Pos) → lies_in c h q ≡ true → state_in new h chunk q ≡ Some (cell_of root q)
state_of c h root old new read t chunk tags p q s =
    let f = slot_of c h root old new read t chunk tags p (divided q.y 16) (within_from c h q s).height in
    rw f.is (f.numbers (place_of q) (place_of-lt q))

no_faults : (c : ChunkPos) (h : Height) (root : List NamedTag) (old new : List BlockState) (read : Sections) (t : Ticks) (chunk : Chunk) (tags : List Named)
    → Parts c h root old new read t chunk tags → first_fault h c old root ≡ None
no_faults c h root old new read t chunk tags p =
    let few = few_states old (flat_map (section_states h) (sections root)) new p.read_are.states p.few in
    first_loaded h c root old p.admitted ∙ rw (p.read_are.no_fault, p.ticks_are.good, few) refl

-- what the document denotes
pub denotes : (c : ChunkPos) (h : Height) (d : Document) (root : List NamedTag) (old new : List BlockState) (read : Sections) (t : Ticks) (chunk : Chunk) (tags : List Named)
    → Parts c h root old new read t chunk tags → root_tags d ≡ root → DenotesChunk c h d (cells_of new h chunk) (entries chunk.ticks) (rest_with h d.name tags t.foreign.items read.kept.items read.outside.items)
denotes c h d root old new read t chunk tags p e =
    let a = p.admitted in
    record {
      no_fault = rw (e, a.level, a.status, a.full, a.shape, a.here, p.read_are.no_fault, p.ticks_are.good) refl;
      full = rw e a.full;
      cells_are = λ q s. rw (e, state_of c h root old new read t chunk tags p q s) refl;
      water_is = rw e (p.water ∙ p.ticks_are.water);
      name_is = refl;
      tags_are = rw e p.tags_are;
      foreign_are = rw e p.ticks_are.foreign_are;
      outside_is = λ y. rw e (outside_of y (is_section_of h y) refl);
      section_is = λ y s. rw e (p.read_are.rests y s);
    }
  where
    outside_of : (y : ℤ) (b : Bool) → is_section_of h y ≡ b → (if b then None else found_outside y read.outside.items) ≡ (if b then None else numbered y (sections root))
    outside_of y true s = refl
    outside_of y false s = p.read_are.others y s

each_in : (c : ChunkPos) (h : Height) (es : List Entry) → AreIn c h es → AllByRecursion (λ e. lies_in c h e.pos ≡ true) es
each_in c h [] p = tt
each_in c h (e ∷ es) p = ((and_parts (lies_in c h e.pos) _ p).0, each_in c h es (and_parts (lies_in c h e.pos) _ p).1)

pub loaded : (c : ChunkPos) (h : Height) (d : Document) (root : List NamedTag) (old new : List BlockState) (read : Sections) (t : Ticks) (chunk : Chunk) (rest : ChunkRest)
    → IsStored d → root_tags d ≡ root → Parts c h root old new read t chunk rest.tags.items
    → rest.pos ≡ c → rest.height ≡ h → rest_of rest ≡ rest_with h d.name rest.tags.items t.foreign.items read.kept.items read.outside.items
    → IsLoaded c h d old new chunk rest
loaded c h d root old new read t chunk rest stored e p own height same =
    let slot = slot_of c h root old new read t chunk rest.tags.items p in
    let read_in = water_in c h [] (ticks root) p.ticks_are.good refl in
    let within : AreIn c h (entries chunk.ticks) = rw p.water (rw (← p.ticks_are.water) at read_in) in
    let holds = denotes c h d root old new read t chunk rest.tags.items p e in
    record {
      no_fault = rw e (no_faults c h root old new read t chunk rest.tags.items p);
      denotes = subst (DenotesChunk c h d (cells_of new h chunk) (entries chunk.ticks)) (sym same) holds;
      numbered = λ q s. rw (state_of c h root old new read t chunk rest.tags.items p q s) refl;
      whole = record { count = p.marked.count ∙ p.read_are.count; each_there = λ y s. rw ((slot y s).is) refl };
      within = All-from_recursion (λ w. lies_in c h w.pos ≡ true) (entries chunk.ticks) (each_in c h (entries chunk.ticks) within);
      ints = All-from_recursion (HasInts 0) (entries chunk.ticks) (ints_read c h d (cells_of new h chunk) (entries chunk.ticks) _ (record { bytes = stored.bytes; spelled = stored.spelled }) holds);
      pending = λ q s.
          let f = slot (divided q.y 16) (within_from c h q s).height in
          rw f.is (f.pending (place_of q) ∙ (pending_at c h q (entries t.water) s (rw p.water at within) ∙ ap (is_pending q) (sym p.water)));
      pos_is = own;
      height_is = height;
      states = rw e p.read_are.states;
    }

-- ---- a document that was taken apart

pub taken_apart : (c : ChunkPos) (h : Height) (d : Document) (root : List NamedTag) (old new : List BlockState) (tags : List Named) (read : Sections) (t : Ticks)
    → IsStored d → root_tags d ≡ root → IsAdmitted h c root → named_views tags ≡ emptied (codes "fluid_ticks") (emptied (codes "sections") root)
    → AreSectionsRead h (sections root) old new read → AreTicks c h (ticks root) t → length new ≤ most_states → IsTakenApart c h d old new d.name tags read t
taken_apart c h d root old new tags read t stored e a left rows water few =
    record { stored = stored; admitted = rw e a; name_is = refl; tags_are = rw e left; sections_are = rw e rows; ticks_are = rw e water; few = few }

-- its parts, once the places of the entries are marked
pub assembly : (c : ChunkPos) (h : Height) (d : Document) (old new : List BlockState) (name : List ℕ) (tags : List Named) (read : Sections) (t : Ticks) (chunk : Chunk)
    → IsTakenApart c h d old new name tags read t → entries chunk.ticks ≡ entries t.water → MarksPending h (entries t.water) read.sections.items chunk.sections.items
    → Parts c h (root_tags d) old new read t chunk tags
assembly c h d old new name tags read t chunk taken water marked = record {
  admitted = taken.admitted;
  read_are = taken.sections_are;
  ticks_are = taken.ticks_are;
  few = taken.few;
  water = water;
  marked = marked;
  tags_are = taken.tags_are;
}

-- what is left of it was read
pub was_read : (c : ChunkPos) (h : Height) (d : Document) (old new : List BlockState) (name : List ℕ) (tags : List Named) (read : Sections) (t : Ticks) (chunk : Chunk)
    → IsTakenApart c h d old new name tags read t → Parts c h (root_tags d) old new read t chunk tags
    → WasRead c h (rest_with h name tags t.foreign.items read.kept.items read.outside.items)
was_read c h d old new name tags read t chunk taken parts = record {
  read = d;
  stored = taken.stored;
  cells = cells_of new h chunk;
  water = entries chunk.ticks;
  denotes = subst (λ n. DenotesChunk c h d (cells_of new h chunk) (entries chunk.ticks) (rest_with h n tags t.foreign.items read.kept.items read.outside.items)) (sym taken.name_is)
      (denotes c h d (root_tags d) old new read t chunk tags parts refl);
}

-- ---- a fault of the ticks beside one of the sections

abbrev meet : Option ℕ → Option ℕ → Option ℕ
meet None o = o
meet (Some a) o = Some (lesser a o)

meet_assoc : (a : ℕ) (m o : Option ℕ) → Some (lesser a (meet m o)) ≡ meet (Some (lesser a m)) o
meet_assoc a None o = refl
meet_assoc a (Some b) None = refl
meet_assoc a (Some b) (Some d) = ap Some (omega arith)

least-append : (xs ys : List ℕ) → least (xs ++ ys) ≡ meet (least xs) (least ys)
least-append [] ys = refl
least-append (x ∷ xs) ys = rw (least-append xs ys) (meet_assoc x (least xs) (least ys))

beside : (a : Option ℕ) (t : Bool) (n : ℕ) → meet a (least (when t 18)) ≡ Some n → meet (meet a (Some 16)) (least (when t 18)) ≡ Some (min n 16)
beside None true n e = let i : 18 ≡ n = cc in ap Some (omega arith)
beside None false n e = cc
beside (Some a) true n e = let i : min a 18 ≡ n = cc in ap Some (omega arith)
beside (Some a) false n e = let i : a ≡ n = cc in ap Some (omega arith)

pub ticks_beside : (xs : List ℕ) (t : Bool) (n : ℕ) → least (xs ++ when t 18) ≡ Some n → least ((xs ++ 16 ∷ []) ++ when t 18) ≡ Some (min n 16)
ticks_beside xs t n e =
    least-append (xs ++ 16 ∷ []) (when t 18) ∙ (ap (λ m. meet m (least (when t 18))) (least-append xs (16 ∷ [])) ∙ beside (least xs) t n (sym (least-append xs (when t 18)) ∙ e))
