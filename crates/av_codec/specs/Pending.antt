-- Places that are made pending. Working definitions: no public clause cites them.
use Rattle.std.specs.Prelude.{◌≡◌, ℕ, List, length, slice_index_or, Option, Some, None, Bool, true, ◌||◌}
use Rattle.std.specs.List.{list_any}
use Rattle.av_types.specs.Positions.{is_block_of}
use Rattle.av_types.specs.declared.position.Height.{Height}
use Rattle.av_types.specs.declared.tick.Entry.{Entry}
use Rattle.av_section.specs.Section.{number_at, is_pending, SetsPending}
use Rattle.av_section.specs.declared.section.Section.{Section}
use Rattle.av_chunk.specs.Views.{is_entry_at}

abbrev pub is_in_height : Height → Entry → Bool
is_in_height h e = is_block_of h e.pos.y

abbrev pub SlotPending : Option Section → Option Section → ℕ → Type 0
SlotPending None None place = Unit {0}
SlotPending (Some old) (Some new) place = SetsPending old new place true
SlotPending _ _ place = ⊥

-- the same numbers, and pending besides where the test holds
pub record AddsPending (old new : Section) (test : ℕ → Bool) : Type 0 where
  pub numbers : (i : ℕ) → number_at new i ≡ number_at old i
  pub pending : (i : ℕ) → is_pending new i ≡ is_pending old i || test i

abbrev pub SlotAddsAll : Option Section → Option Section → (ℕ → Bool) → Type 0
SlotAddsAll None None test = Unit {0}
SlotAddsAll (Some old) (Some new) test = AddsPending old new test
SlotAddsAll _ _ test = ⊥

pub record MarksPending (h : Height) (entries : List Entry) (old new : List (Option Section)) : Type 0 where
  pub count : length new ≡ length old
  pub slots : (offset : ℕ) → SlotAddsAll (slice_index_or old offset None) (slice_index_or new offset None) (λ i. list_any (is_entry_at h offset i) entries)
