-- What the readers of sections answer. Working definitions: no public clause cites them.
use Rattle.std.specs.Prelude.{◌≡◌, ◌≢◌, ℕ, ◌<◌, ◌≤◌, ℤ, List, [], ◌∷◌, ◌++◌, Option, Some, None, Bool, true, false, nat_lt, length, slice_get, slice_index_or, slice_set, codes, option_map, Result, Ok, Err}
use Rattle.std.specs.List.{flat_map}
use Rattle.av_types.specs.Faults.{fault_number, least, lesser, IsRefusal}
use Rattle.av_types.specs.Positions.{is_section_of, section_index}
use Rattle.av_types.specs.declared.position.Height.{Height}
use Rattle.av_types.specs.declared.fault.Fault.{Fault}
use Rattle.av_types.specs.declared.fault.Fault.TheVariants.{OutOfMemory}
use Rattle.av_tags.specs.Nbt.{NamedTag, byte}
use Rattle.av_tags.specs.ByName.{without}
use Rattle.av_tags.specs.Shape.{or_else}
use Rattle.av_tags.specs.View.{named_views}
use Rattle.av_state.specs.BlockState.{BlockState}
use Rattle.av_state.specs.StateList.{with_states, most_states}
use Rattle.av_section.specs.BlockStates.{when}
use Rattle.av_section.specs.Section.{number_at, is_pending, IsFilled}
use Rattle.av_section.specs.declared.section.Section.{Section}
use Rattle.av_document.specs.Chunk.{section_number, numbered, section_faults, section_states, section_rest, block_states_of, block_faults, block_palette, block_cell}
use Rattle.av_codec.specs.declared.reading.sections.SplitSection.{SplitSection}
use Rattle.av_codec.specs.declared.reading.sections.SplitSection.TheVariants.{Inside, Outside}
use Rattle.av_codec.specs.declared.reading.sections.Sections.{Sections}
use Rattle.av_chunk.specs.declared.rest.SectionTags.{SectionTags}
use Rattle.av_chunk.specs.declared.rest.OutsideSection.{OutsideSection}
use Rattle.av_chunk.specs.Rest.{tags_of, section_or_missing, found_outside}

-- more states than a table has
abbrev pub are_too_many : List BlockState → List BlockState → Bool
are_too_many table more = nat_lt most_states (length (with_states table more))

-- the faults that hold, too many states among them
abbrev pub judged : List ℕ → List BlockState → List BlockState → Option ℕ
judged faults table more = least (faults ++ when (are_too_many table more) 18)

-- a section with these cells, by a table of states, and nothing pending
pub record HasCells (table : List BlockState) (cell : ℕ → BlockState) (s : Section) : Type 0 where
  pub numbers : (i : ℕ) → i < 4096 → slice_get table (number_at s i) ≡ Some (cell i)
  pub pending : (i : ℕ) → is_pending s i ≡ false

pub record AreStates (b : Option (List NamedTag)) (old new : List BlockState) (s : Section) (others : List NamedTag) : Type 0 where
  pub no_fault : block_faults b ≡ []
  pub states : new ≡ with_states old (block_palette b)
  pub cells : HasCells new (block_cell b) s
  pub others_are : others ≡ without (codes "data") (without (codes "palette") (or_else [] b))

abbrev pub AreStatesRefused : Option (List NamedTag) → List BlockState → Fault → Type 0
AreStatesRefused b old = IsRefusal (judged (block_faults b) old (block_palette b))

-- a section in the height, and one out of it
pub record IsInside (h : Height) (table : List BlockState) (ms : List NamedTag) (y : ℤ) (s : Section) (kept : SectionTags) : Type 0 where
  pub number : section_number ms ≡ Some y
  pub within : is_section_of h y ≡ true
  pub cells : HasCells table (block_cell (block_states_of ms)) s
  pub rest : tags_of kept ≡ section_rest ms

pub record IsOutside (h : Height) (ms : List NamedTag) (o : OutsideSection) : Type 0 where
  pub number : section_number ms ≡ Some o.y
  pub without : is_section_of h o.y ≡ false
  pub tags : named_views o.tags.items ≡ ms

abbrev pub IsSplitSection : Height → List BlockState → List NamedTag → SplitSection → Type 0
IsSplitSection h table ms (Inside y s kept) = IsInside h table ms y s kept
IsSplitSection h table ms (Outside o) = IsOutside h ms o

pub record IsSectionRead (h : Height) (ms : List NamedTag) (old new : List BlockState) (split : SplitSection) : Type 0 where
  pub is_split : IsSplitSection h new ms split
  pub no_fault : section_faults h ms ≡ []
  pub states : new ≡ with_states old (section_states h ms)

abbrev pub IsSectionRefused : Height → List NamedTag → List BlockState → Fault → Type 0
IsSectionRefused h ms old = IsRefusal (judged (section_faults h ms) old (section_states h ms))

-- ---- all sections

-- a section of a number before any was found
abbrev pub or_missing : ℤ → Option (List NamedTag) → List NamedTag
or_missing y found = or_else (record { name = codes "Y"; tag = byte y } ∷ []) found

abbrev pub SlotHas : List BlockState → (ℕ → BlockState) → Option Section → Type 0
SlotHas table cell None = ⊥
SlotHas table cell (Some s) = HasCells table cell s

-- the section of a number as it was found, or none where it was not
abbrev pub SlotFinds : List BlockState → ℤ → Option (List NamedTag) → Option Section → Type 0
SlotFinds table y found None = found ≡ None
SlotFinds table y found (Some s) = HasCells table (block_cell (block_states_of (or_missing y found))) s

-- Each section of the height as it was found among these, and the others.
pub record HoldSections (h : Height) (table : List BlockState) (rows : List (List NamedTag)) (r : Sections) : Type 0 where
  pub count : length r.sections.items ≡ h.sections
  pub count_kept : length r.kept.items ≡ h.sections
  pub found : (y : ℤ) → is_section_of h y ≡ true → SlotFinds table y (numbered y rows) (slice_index_or r.sections.items (section_index h y) None)
  pub rests : (y : ℤ) → is_section_of h y ≡ true → section_or_missing y (slice_index_or r.kept.items (section_index h y) None) ≡ section_rest (or_missing y (numbered y rows))
  pub others : (y : ℤ) → is_section_of h y ≡ false → found_outside y r.outside.items ≡ numbered y rows

-- all missing, before any was found
pub record AreMissing (h : Height) (r : Sections) : Type 0 where
  pub count : length r.sections.items ≡ h.sections
  pub count_kept : length r.kept.items ≡ h.sections
  pub empty_sections : (i : ℕ) → slice_index_or r.sections.items i None ≡ None
  pub empty : (i : ℕ) → slice_index_or r.kept.items i None ≡ None
  pub none : r.outside.items ≡ []

-- one more section
abbrev pub IsSplitAdded : Height → SplitSection → Sections → Sections → Type 0
IsSplitAdded h (Inside y s kept) old new =
    (new.sections.items ≡ slice_set old.sections.items (section_index h y) (Some s)) × (new.kept.items ≡ slice_set old.kept.items (section_index h y) (Some kept)) × (new.outside.items ≡ old.outside.items)
IsSplitAdded h (Outside o) old new =
    (new.sections.items ≡ old.sections.items) × (new.kept.items ≡ old.kept.items) × (new.outside.items ≡ old.outside.items ++ o ∷ [])

abbrev pub FitsHeight : Height → SplitSection → Type 0
FitsHeight h (Inside y s kept) = is_section_of h y ≡ true
FitsHeight h (Outside o) = Unit {0}

-- one more section, or its fault: of several faults the first
abbrev pub IsJudged : Height → Result SplitSection Fault → Option Fault → Sections → Sections → Option Fault → Type 0
IsJudged h (Ok split) refused old new now = IsSplitAdded h split old new × (now ≡ refused)
IsJudged h (Err e) refused old new now = (new ≡ old) × (option_map fault_number now ≡ Some (lesser (fault_number e) (option_map fault_number refused)))

-- what all sections so far are read as
pub record AreFound (h : Height) (rows : List (List NamedTag)) (old new : List BlockState) (r : Sections) : Type 0 where
  pub no_fault : flat_map (section_faults h) rows ≡ []
  pub states : new ≡ with_states old (flat_map (section_states h) rows)
  pub held : HoldSections h new rows r

-- air where there was no section, and all others as they were
abbrev pub SlotFilled : Option Section → Option Section → Type 0
SlotFilled None (Some s) = IsFilled s 0
SlotFilled (Some x) now = now ≡ Some x
SlotFilled None None = ⊥

pub record AreFilled (old new : List (Option Section)) : Type 0 where
  pub count : length new ≡ length old
  pub slots : (i : ℕ) → i < length old → SlotFilled (slice_index_or old i None) (slice_index_or new i None)

-- the first slots filled
pub record FilledBelow (n : ℕ) (old now : List (Option Section)) : Type 0 where
  pub filled : (i : ℕ) → i < n → SlotFilled (slice_index_or old i None) (slice_index_or now i None)
  pub same : (i : ℕ) → n ≤ i → slice_index_or now i None ≡ slice_index_or old i None

-- what all sections are read as
pub record AreSectionsRead (h : Height) (rows : List (List NamedTag)) (old new : List BlockState) (r : Sections) : Type 0 where
  pub no_fault : flat_map (section_faults h) rows ≡ []
  pub states : new ≡ with_states old (flat_map (section_states h) rows)
  pub count : length r.sections.items ≡ h.sections
  pub cells : (y : ℤ) → is_section_of h y ≡ true → SlotHas new (block_cell (block_states_of (or_missing y (numbered y rows)))) (slice_index_or r.sections.items (section_index h y) None)
  pub rests : (y : ℤ) → is_section_of h y ≡ true → section_or_missing y (slice_index_or r.kept.items (section_index h y) None) ≡ section_rest (or_missing y (numbered y rows))
  pub others : (y : ℤ) → is_section_of h y ≡ false → found_outside y r.outside.items ≡ numbered y rows

pub record AreRefusedBy (h : Height) (rows : List (List NamedTag)) (old : List BlockState) (e : Fault) : Type 0 where
  pub first : judged (flat_map (section_faults h) rows) old (flat_map (section_states h) rows) ≡ Some (fault_number e)

-- after some sections: read, or the first fault of them so far, where new states are taken
abbrev pub AreJudged : Bool → Height → List (List NamedTag) → List BlockState → List BlockState → Sections → Option Fault → Type 0
AreJudged takes h rows old new r None = AreFound h rows old new r
AreJudged takes h rows old new r (Some e) = takes ≡ true → e ≢ OutOfMemory → AreRefusedBy h rows old e
