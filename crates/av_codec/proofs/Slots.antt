-- Sections put at their indices.
use Rattle.std.proofs.Common.{◌≡◌, ◌≢◌, ℕ, ◌<◌, ◌≤◌, ◌+◌, ℤ, Bool, true, false, true≢false, Option, Some, None, List, [], ◌∷◌, ◌++◌, length, get_or, slice_set, slice_get, refl, sym, ap, ◌∙◌, arith, if◌then◌else◌, Decides, get_or-set_same, get_or-set_other, length-set, zero, suc, below_more, option_map, take, Result, Ok, Err, IfOk, IfErr}
use Rattle.std.proofs.lemmas.Bool.Decides.{Decides-int_eq}
use Rattle.std.proofs.lemmas.Option.{same_Some}
use Rattle.std.specs.Ordering.{int_eq}
use Rattle.std.specs.Option.{option_or}
use Rattle.std.specs.List.{flat_map}
use Rattle.std.proofs.lemmas.Grind.{flat_map-append}
use Rattle.std.proofs.lemmas.List.{append-nil}
use Rattle.av_types.specs.Faults.{fault_number, lesser}
use Rattle.av_types.specs.Positions.{is_section_of, section_index}
use Rattle.av_types.specs.declared.position.Height.{Height}
use Rattle.av_types.specs.declared.fault.Fault.{Fault}
use Rattle.av_tags.specs.Nbt.{NamedTag}
use Rattle.av_tags.specs.View.{named_views}
use Rattle.av_state.specs.BlockState.{BlockState, air}
use Rattle.av_state.specs.StateList.{first_states}
use Rattle.av_section.specs.Section.{number_at}
use Rattle.av_section.specs.Reading.{OnlyGrows}
use Rattle.av_section.specs.declared.section.Section.{Section}
use Rattle.av_document.specs.Chunk.{section_number, numbered, is_number, section_faults, section_states, section_rest, block_states_of, block_cell}
use Rattle.av_chunk.specs.declared.rest.SectionTags.{SectionTags}
use Rattle.av_chunk.specs.declared.rest.OutsideSection.{OutsideSection}
use Rattle.av_codec.specs.declared.reading.sections.SplitSection.{SplitSection}
use Rattle.av_codec.specs.declared.reading.sections.SplitSection.TheVariants.{Inside, Outside}
use Rattle.av_codec.specs.declared.reading.sections.Sections.{Sections}
use Rattle.av_chunk.specs.Rest.{section_or_missing, found_outside}
use Rattle.av_codec.specs.SectionsRead.{HasCells, IsInside, IsOutside, IsSplitSection, IsSectionRead, IsSectionRefused, or_missing, SlotHas, SlotFinds, SlotFilled, AreFilled, FilledBelow, HoldSections, AreMissing, IsSplitAdded, IsJudged, AreFound, AreSectionsRead, AreJudged, FitsHeight}
use Rattle.av_chunk.proofs.Heights.{offset_below, offset_apart}
use Rattle.av_codec.proofs.Numbers.{HasNewNumber}
use Rattle.av_codec.proofs.Judging.{with_states-append, first_kept, first_of, first_lesser, memory_first, memory_before}

-- ---- none so far

pub none_push : {A : Type 0} (xs : List (Option A)) → ((i : ℕ) → get_or xs i None ≡ None) → (i : ℕ) → get_or (xs ++ None ∷ []) i None ≡ None
none_push [] h zero = refl
none_push [] h (suc i) = refl
none_push (x ∷ xs) h zero = h zero
none_push (x ∷ xs) h (suc i) = none_push xs (λ j. h (suc j)) i

-- ---- a table that grows

slice_get-more : (xs ys : List BlockState) (n : ℕ) (x : BlockState) → slice_get xs n ≡ Some x → slice_get (xs ++ ys) n ≡ Some x
slice_get-more [] ys n x e = cc
slice_get-more (a ∷ xs) ys zero x e = e
slice_get-more (a ∷ xs) ys (suc n) x e = slice_get-more xs ys n x e

pub HasCells-grown : (old new : List BlockState) (cell : ℕ → BlockState) (s : Section) → OnlyGrows old new → HasCells old cell s → HasCells new cell s
HasCells-grown old new cell s g c = record {
  numbers = λ i p. rw g.grown (slice_get-more old g.more (number_at s i) (cell i) (c.numbers i p));
  pending = c.pending;
}

SlotFinds-grown : (old new : List BlockState) (y : ℤ) (found : Option (List NamedTag)) (o : Option Section) → OnlyGrows old new → SlotFinds old y found o → SlotFinds new y found o
SlotFinds-grown old new y found None g c = c
SlotFinds-grown old new y found (Some s) g c = HasCells-grown old new _ s g c

-- ---- the first section of a number

-- the section, if it has the number
abbrev if_numbered : ℤ → List NamedTag → Option (List NamedTag)
if_numbered y ms = if is_number y (section_number ms) then Some ms else None

or_if : {A : Type 0} (b : Bool) (x : A) (o p : Option A) → (if b then Some x else option_or o p) ≡ option_or (if b then Some x else o) p
or_if true x o p = refl
or_if false x o p = refl

or_none : {A : Type 0} (o : Option A) → option_or o None ≡ o
or_none None = refl
or_none (Some x) = refl

numbered-push : (y : ℤ) (rows : List (List NamedTag)) (ms : List NamedTag) → numbered y (rows ++ ms ∷ []) ≡ option_or (numbered y rows) (if_numbered y ms)
numbered-push y [] ms = refl
numbered-push y (r ∷ rows) ms = rw (numbered-push y rows ms) (or_if (is_number y (section_number r)) r (numbered y rows) (if_numbered y ms))

abbrev if_outside : ℤ → OutsideSection → Option (List NamedTag)
if_outside y o = if int_eq y o.y then Some (named_views o.tags.items) else None

found_outside-push : (y : ℤ) (os : List OutsideSection) (o : OutsideSection) → found_outside y (os ++ o ∷ []) ≡ option_or (found_outside y os) (if_outside y o)
found_outside-push y [] o = refl
found_outside-push y (p ∷ os) o = rw (found_outside-push y os o) (or_if (int_eq y p.y) (named_views p.tags.items) (found_outside y os) (if_outside y o))

-- a number that a section has not
numbered-other : (y z : ℤ) (rows : List (List NamedTag)) (ms : List NamedTag) → section_number ms ≡ Some z → int_eq y z ≡ false → numbered y (rows ++ ms ∷ []) ≡ numbered y rows
numbered-other y z rows ms e n = rw (numbered-push y rows ms, e, n) (or_none (numbered y rows))

-- one that no section before it has
numbered-new : (y z : ℤ) (rows : List (List NamedTag)) (ms : List NamedTag) → section_number ms ≡ Some z → int_eq y z ≡ true → numbered y rows ≡ None → numbered y (rows ++ ms ∷ []) ≡ Some ms
numbered-new y z rows ms e n none = rw (numbered-push y rows ms, none, e, n) refl

apart_numbers : (h : Height) (y z : ℤ) → is_section_of h y ≡ true → is_section_of h z ≡ false → (b : Bool) → Decides b (y ≡ z) → b ≡ false
apart_numbers h y z s t true d = let e : y ≡ z = d.0 refl in absurd (true≢false (sym s ∙ (ap (is_section_of h) e ∙ t)))
apart_numbers h y z s t false d = refl

-- ---- one more section

inside_cells : (h : Height) (old new : List BlockState) (rows : List (List NamedTag)) (ms : List NamedTag) (z : ℤ) (s : Section) (kept : SectionTags) (xs : List (Option Section))
    → OnlyGrows old new → IsInside h new ms z s kept → numbered z rows ≡ None → length xs ≡ h.sections → (y : ℤ) → is_section_of h y ≡ true
    → SlotFinds old y (numbered y rows) (get_or xs (section_index h y) None)
    → (b : Bool) → Decides b (y ≡ z) → int_eq y z ≡ b
    → SlotFinds new y (numbered y (rows ++ ms ∷ [])) (get_or (slice_set xs (section_index h z) (Some s)) (section_index h y) None)
inside_cells h old new rows ms z s kept xs g p none l y t c true d e =
    let same : y ≡ z = d.0 refl in
    let within : section_index h y < length xs = rw l (offset_below h y t) in
    rw (numbered-new y z rows ms p.number e (ap (λ v. numbered v rows) same ∙ none), ← same, get_or-set_same xs (section_index h y) (Some s) None within) p.cells
inside_cells h old new rows ms z s kept xs g p none l y t c false d e =
    let ne : section_index h y ≢ section_index h z = λ o. true≢false (sym (d.1 (offset_apart h y z t p.within o))) in
    rw (numbered-other y z rows ms p.number e, get_or-set_other xs (section_index h z) (section_index h y) (Some s) None ne) (SlotFinds-grown old new y _ _ g c)

inside_rests : (h : Height) (new : List BlockState) (rows : List (List NamedTag)) (ms : List NamedTag) (z : ℤ) (s : Section) (kept : SectionTags) (xs : List (Option SectionTags))
    → IsInside h new ms z s kept → numbered z rows ≡ None → length xs ≡ h.sections → (y : ℤ) → is_section_of h y ≡ true
    → section_or_missing y (get_or xs (section_index h y) None) ≡ section_rest (or_missing y (numbered y rows))
    → (b : Bool) → Decides b (y ≡ z) → int_eq y z ≡ b
    → section_or_missing y (get_or (slice_set xs (section_index h z) (Some kept)) (section_index h y) None) ≡ section_rest (or_missing y (numbered y (rows ++ ms ∷ [])))
inside_rests h new rows ms z s kept xs p none l y t c true d e =
    let same : y ≡ z = d.0 refl in
    let within : section_index h y < length xs = rw l (offset_below h y t) in
    rw (numbered-new y z rows ms p.number e (ap (λ v. numbered v rows) same ∙ none), ← same, get_or-set_same xs (section_index h y) (Some kept) None within) p.rest
inside_rests h new rows ms z s kept xs p none l y t c false d e =
    let ne : section_index h y ≢ section_index h z = λ o. true≢false (sym (d.1 (offset_apart h y z t p.within o))) in
    rw (numbered-other y z rows ms p.number e, get_or-set_other xs (section_index h z) (section_index h y) (Some kept) None ne) c

symmetric : (y z : ℤ) → int_eq z y ≡ false → int_eq y z ≡ false
symmetric y z e = sym_of (int_eq y z) (Decides-int_eq y z) (int_eq z y) (Decides-int_eq z y) e
  where
    sym_of : (a : Bool) → Decides a (y ≡ z) → (b : Bool) → Decides b (z ≡ y) → b ≡ false → a ≡ false
    sym_of true d b q e = absurd (true≢false (sym (q.1 (sym (d.0 refl))) ∙ e))
    sym_of false d b q e = refl

pub HoldSections-inside : (h : Height) (old new : List BlockState) (rows : List (List NamedTag)) (ms : List NamedTag) (z : ℤ) (s : Section) (kept : SectionTags) (r u : Sections)
    → OnlyGrows old new → IsInside h new ms z s kept → numbered z rows ≡ None → IsSplitAdded h (Inside z s kept) r u → HoldSections h old rows r → HoldSections h new (rows ++ ms ∷ []) u
HoldSections-inside h old new rows ms z s kept r u g p none added held = record {
  count = ap length added.0 ∙ (length-set r.sections.items (section_index h z) (Some s) ∙ held.count);
  count_kept = ap length added.1 ∙ (length-set r.kept.items (section_index h z) (Some kept) ∙ held.count_kept);
  found = λ y t. rw added.0 (inside_cells h old new rows ms z s kept r.sections.items g p none held.count y t (held.found y t) (int_eq y z) (Decides-int_eq y z) refl);
  rests = λ y t. rw added.1 (inside_rests h new rows ms z s kept r.kept.items p none held.count_kept y t (held.rests y t) (int_eq y z) (Decides-int_eq y z) refl);
  others = λ y t. rw (added.2, numbered-other y z rows ms p.number (symmetric y z (apart_numbers h z y p.within t (int_eq z y) (Decides-int_eq z y)))) (held.others y t);
}

outside_found : (y : ℤ) (rows : List (List NamedTag)) (ms : List NamedTag) (os : List OutsideSection) (o : OutsideSection) → section_number ms ≡ Some o.y → named_views o.tags.items ≡ ms
    → found_outside y os ≡ numbered y rows → found_outside y (os ++ o ∷ []) ≡ numbered y (rows ++ ms ∷ [])
outside_found y rows ms os o e t f = rw (found_outside-push y os o, numbered-push y rows ms, e, t, f) refl

pub HoldSections-outside : (h : Height) (old new : List BlockState) (rows : List (List NamedTag)) (ms : List NamedTag) (o : OutsideSection) (r u : Sections)
    → OnlyGrows old new → IsOutside h ms o → IsSplitAdded h (Outside o) r u → HoldSections h old rows r → HoldSections h new (rows ++ ms ∷ []) u
HoldSections-outside h old new rows ms o r u g p added held = record {
  count = ap length added.0 ∙ held.count;
  count_kept = ap length added.1 ∙ held.count_kept;
  found = λ y t. rw (added.0, numbered-other y o.y rows ms p.number (apart_numbers h y o.y t p.without (int_eq y o.y) (Decides-int_eq y o.y))) (SlotFinds-grown old new y _ _ g (held.found y t));
  rests = λ y t. rw (added.1, numbered-other y o.y rows ms p.number (apart_numbers h y o.y t p.without (int_eq y o.y) (Decides-int_eq y o.y))) (held.rests y t);
  others = λ y t. rw added.2 (outside_found y rows ms r.outside.items o p.number p.tags (held.others y t));
}

HoldSections-split : (h : Height) (old new : List BlockState) (rows : List (List NamedTag)) (ms : List NamedTag) (split : SplitSection) (r u : Sections)
    → OnlyGrows old new → IsSplitSection h new ms split → HasNewNumber rows ms → IsSplitAdded h split r u → HoldSections h old rows r → HoldSections h new (rows ++ ms ∷ []) u
HoldSections-split h old new rows ms (Inside y s kept) r u g p new_number added held = HoldSections-inside h old new rows ms y s kept r u g p (new_number y p.number) added held
HoldSections-split h old new rows ms (Outside o) r u g p new_number added held = HoldSections-outside h old new rows ms o r u g p added held

AreFound-split : (h : Height) (rows : List (List NamedTag)) (ms : List NamedTag) (start old new : List BlockState) (split : SplitSection) (r u : Sections)
    → OnlyGrows old new → IsSectionRead h ms old new split → HasNewNumber rows ms → IsSplitAdded h split r u → AreFound h rows start old r → AreFound h (rows ++ ms ∷ []) start new u
AreFound-split h rows ms start old new split r u g read new_number added before = record {
  no_fault = flat_map-append (section_faults h) rows (ms ∷ []) ∙ rw (before.no_fault, read.no_fault) refl;
  states = rw (flat_map-append (section_states h) rows (ms ∷ []), append-nil (section_states h ms), with_states-append start (flat_map (section_states h) rows) (section_states h ms), ← before.states) read.states;
  held = HoldSections-split h old new rows ms split r u g read.is_split new_number added before.held;
}

AreJudged-split : (takes : Bool) (h : Height) (rows : List (List NamedTag)) (ms : List NamedTag) (start old new : List BlockState) (split : SplitSection) (r u : Sections) (refused : Option Fault)
    → OnlyGrows old new → IsSectionRead h ms old new split → HasNewNumber rows ms → IsSplitAdded h split r u → AreJudged takes h rows start old r refused
    → AreJudged takes h (rows ++ ms ∷ []) start new u refused
AreJudged-split takes h rows ms start old new split r u None g read new_number added before = AreFound-split h rows ms start old new split r u g read new_number added before
AreJudged-split takes h rows ms start old new split r u (Some e) g read new_number added before =
    λ t ne. record { first = first_kept h rows ms start (fault_number e) (before t ne).first read.no_fault }

AreJudged-refused : (takes : Bool) (h : Height) (rows : List (List NamedTag)) (ms : List NamedTag) (start old new : List BlockState) (r u : Sections) (refused : Option Fault) (e f : Fault)
    → (takes ≡ true → IsSectionRefused h ms old e) → fault_number f ≡ lesser (fault_number e) (option_map fault_number refused) → AreJudged takes h rows start old r refused
    → AreJudged takes h (rows ++ ms ∷ []) start new u (Some f)
AreJudged-refused takes h rows ms start old new r u None e f bad n before =
    λ t nf. record { first = first_of h rows ms start (fault_number f) before.no_fault (rw (← before.states, n) ((bad t).first (memory_first e f None n nf))) }
AreJudged-refused takes h rows ms start old new r u (Some d) e f bad n before =
    λ t nf.
    let early = before t (memory_before e d f n nf) in
    let first = first_lesser h rows ms start old (fault_number d) (fault_number e) early.first ((bad t).first (memory_first e f (Some (fault_number d)) n nf)) in
    record { first = first ∙ ap Some (sym n) }

pub AreJudged-next : (takes : Bool) (h : Height) (rows : List (List NamedTag)) (ms : List NamedTag) (start old new : List BlockState) (read : Result SplitSection Fault) (r u : Sections)
    (refused now : Option Fault) → OnlyGrows old new → IfOk read (IsSectionRead h ms old new) → IfErr read (λ e. takes ≡ true → IsSectionRefused h ms old e) → HasNewNumber rows ms
    → IsJudged h read refused r u now → AreJudged takes h rows start old r refused → AreJudged takes h (rows ++ ms ∷ []) start new u now
AreJudged-next takes h rows ms start old new (Ok split) r u refused now g ok bad new_number judged before =
    rw judged.1 (AreJudged-split takes h rows ms start old new split r u refused g ok new_number judged.0 before)
AreJudged-next takes h rows ms start old new (Err e) r u refused None g ok bad new_number judged before = let n = judged.1 in cc
AreJudged-next takes h rows ms start old new (Err e) r u refused (Some f) g ok bad new_number judged before =
    AreJudged-refused takes h rows ms start old new r u refused e f bad (same_Some (fault_number f) _ judged.1) before

-- ---- none before the first, and air where there is none after the last

pub AreFound-missing : (h : Height) (table : List BlockState) (r : Sections) → AreMissing h r → AreFound h [] table table r
AreFound-missing h table r m = record {
  no_fault = refl;
  states = refl;
  held = record {
    count = m.count;
    count_kept = m.count_kept;
    found = λ y t. rw (m.empty_sections (section_index h y)) refl;
    rests = λ y t. rw (m.empty (section_index h y)) refl;
    others = λ y t. rw m.none refl;
  };
}

first_is_air : (table : List BlockState) → take 10 table ≡ first_states → slice_get table 0 ≡ Some air
first_is_air [] e = cc
first_is_air (s ∷ table) e = let h : s ≡ air = ap (λ (x : List BlockState). get_or x 0 air) e in ap Some h

slot_filled : (table : List BlockState) (y : ℤ) (found : Option (List NamedTag)) (old now : Option Section) → slice_get table 0 ≡ Some air → SlotFinds table y found old → SlotFilled old now
    → SlotHas table (block_cell (block_states_of (or_missing y found))) now
slot_filled table y found None None a f s = s
slot_filled table y found None (Some v) a f s = rw f (record { numbers = λ i p. rw (s.numbers i p) a; pending = s.pending })
slot_filled table y found (Some x) None a f s = cc
slot_filled table y found (Some x) (Some v) a f s = let e : v ≡ x = same_Some v x s in rw e f

pub AreSectionsRead-filled : (h : Height) (rows : List (List NamedTag)) (start table : List BlockState) (r u : Sections) → take 10 table ≡ first_states → AreFound h rows start table r
    → AreFilled r.sections.items u.sections.items → u.kept.items ≡ r.kept.items → u.outside.items ≡ r.outside.items → AreSectionsRead h rows start table u
AreSectionsRead-filled h rows start table r u b all filled kept outside = record {
  no_fault = all.no_fault;
  states = all.states;
  count = filled.count ∙ all.held.count;
  cells = λ y t.
      let low : section_index h y < length r.sections.items = rw all.held.count (offset_below h y t) in
      slot_filled table y (numbered y rows) (get_or r.sections.items (section_index h y) None) (get_or u.sections.items (section_index h y) None) (first_is_air table b) (all.held.found y t) (filled.slots (section_index h y) low);
  rests = λ y t. rw kept (all.held.rests y t);
  others = λ y t. rw outside (all.held.others y t);
}

-- one slot more was filled
pub FilledBelow-more : (old now : List (Option Section)) (n : ℕ) (new : Option Section) → length now ≡ length old → n < length old
    → SlotFilled (get_or now n None) new → FilledBelow n old now → FilledBelow (n + 1) old (slice_set now n new)
FilledBelow-more old now n new l low f before = record {
  filled = below_more (λ i. SlotFilled (get_or old i None) (get_or (slice_set now n new) i None)) n
      (λ i p. rw (get_or-set_other now n i new None (apart i (omega (arith, p)))) (before.filled i p))
      (rw (get_or-set_same now n new None within) here);
  same = λ i p. get_or-set_other now n i new None (apart_above i (omega (arith, p))) ∙ before.same i (omega (arith, p));
}
  where
    within : n < length now
    within = omega (arith, l, low)

    here : SlotFilled (get_or old n None) new
    here = rw (← before.same n (omega arith)) f

    apart : (i : ℕ) → i < n → i ≢ n
    apart i p e = omega (arith, p, e)

    apart_above : (i : ℕ) → n < i → i ≢ n
    apart_above i p e = omega (arith, p, e)

pub FilledBelow-all : (old now : List (Option Section)) (n : ℕ) → length now ≡ length old → length old ≤ n → FilledBelow n old now → AreFilled old now
FilledBelow-all old now n l past all = record { count = l; slots = λ i p. all.filled i (omega arith) }

section_counts : (h : Height) (split : SplitSection) (r u : Sections) → IsSplitAdded h split r u → length r.sections.items ≡ h.sections → length u.sections.items ≡ h.sections
section_counts h (Inside y s kept) r u p l = ap length p.0 ∙ (length-set r.sections.items (section_index h y) (Some s) ∙ l)
section_counts h (Outside o) r u p l = ap length p.0 ∙ l

kept_counts : (h : Height) (split : SplitSection) (r u : Sections) → IsSplitAdded h split r u → length r.kept.items ≡ h.sections → length u.kept.items ≡ h.sections
kept_counts h (Inside y s kept) r u p l = ap length p.1 ∙ (length-set r.kept.items (section_index h y) (Some kept) ∙ l)
kept_counts h (Outside o) r u p l = ap length p.1 ∙ l

pub judged_sections : (h : Height) (read : Result SplitSection Fault) (r u : Sections) (refused now : Option Fault) → IsJudged h read refused r u now
    → length r.sections.items ≡ h.sections → length u.sections.items ≡ h.sections
judged_sections h (Ok split) r u refused now judged l = section_counts h split r u judged.0 l
judged_sections h (Err e) r u refused now judged l = ap (λ (s : Sections). length s.sections.items) judged.0 ∙ l

pub judged_kept : (h : Height) (read : Result SplitSection Fault) (r u : Sections) (refused now : Option Fault) → IsJudged h read refused r u now
    → length r.kept.items ≡ h.sections → length u.kept.items ≡ h.sections
judged_kept h (Ok split) r u refused now judged l = kept_counts h split r u judged.0 l
judged_kept h (Err e) r u refused now judged l = ap (λ (s : Sections). length s.kept.items) judged.0 ∙ l

pub split_fits : (h : Height) (table : List BlockState) (ms : List NamedTag) (split : SplitSection) → IsSplitSection h table ms split → FitsHeight h split
split_fits h table ms (Inside y s kept) p = p.within
split_fits h table ms (Outside o) p = tt
