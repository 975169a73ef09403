-- What calls leave of a folder.
use Rattle.std.specs.Prelude.{◌≡◌, ◌⊎◌, ℕ, List, [], ◌∷◌, Bool, true, false, Option, None, length, map, option_map, string_bytes}
use Rattle.std.specs.List.{AllByRecursion}
use Rattle.av_exchange.specs.Exchange.{AreStaged, AreTaken, IsJournaled, IsStepBeside, closing, is_listed, recording, renamed, committing, repairing, sweeping, withdrawing}
use Rattle.av_exchange.specs.Marks.{AreMarksOf, Marking}
use Rattle.av_exchange.specs.Names.{IsBeside, journal_name, journal_of, new_journal_name, part_of}
use Rattle.av_exchange.specs.Steps.{AreSomeOf, History, Holdings, IfTold, IsCutOff, MayHaveTaken, Moved, Removed, Spoiled, Step, Synced, after_all, all_of, with_steps}
use Rattle.av_exchange.specs.declared.moves.Move.{Move}
use Rattle.av_sink.specs.declared.sink.Repair.{Repair}

-- a new file was not written: memory ran out for its name, or something may be left of it
pub data IsUnstaged (name : List ℕ) (old new : Option History) : Type 0 where
  untried : new ≡ old → IsUnstaged name old new
  spoiled : (left : Option (List ℕ)) → new ≡ with_steps old (Spoiled (part_of name) left ∷ []) → IsUnstaged name old new

-- a new file did not take its name, or that is not on the device
abbrev pub IsRenamedInPart : List ℕ → Option History → Option History → Type 0
IsRenamedInPart name = MayHaveTaken (renamed name)

-- steps were stopped, and left what a crash may leave of them
pub record HasStopped (phases : List (List Step)) (old new : Option History) : Type 0 where
  pub left : List Step
  pub cut_off : IsCutOff phases left
  pub steps : new ≡ with_steps old left

-- all that was done is beside
pub record IsBesideAlone (old new : Option History) : Type 0 where
  pub left : List Step
  pub beside : AllByRecursion IsStepBeside left
  pub steps : new ≡ with_steps old left

-- files that waited took their names, each when its turn came, by a journal that marks what had their names
pub record AreCommitted (mark_of : Marking) (names : List (List ℕ)) (old new : Option History) : Type 0 where
  pub staged : IfTold old (AreStaged names)
  pub marks : List (List ℕ)
  pub marked : AreMarksOf mark_of old names marks
  pub taken : IfTold old (λ h. AreTaken names (after_all h (all_of (recording (journal_of names marks)))))
  pub steps : new ≡ with_steps old (all_of (committing names marks))

-- the same, but it was cut off, or given up
pub record AreCommittedInPart (mark_of : Marking) (names : List (List ℕ)) (old new : Option History) : Type 0 where
  pub staged : IfTold old (AreStaged names)
  pub marks : List (List ℕ)
  pub marked : AreMarksOf mark_of old names marks
  pub stopped : HasStopped (committing names marks) old new ⊎ HasStopped (withdrawing names marks) old new

-- no file has moved and no journal stands: it never had its name, or it was taken away again
pub data IsGivenUp (mark_of : Marking) (names : List (List ℕ)) (old new : Option History) : Type 0 where
  unnamed : IsBesideAlone old new → IsGivenUp mark_of names old new
  withdrawn : (marks : List (List ℕ)) → AreMarksOf mark_of old names marks → new ≡ with_steps old (all_of (withdrawing names marks)) → IsGivenUp mark_of names old new

-- Files did not take their names: it was given up; or the journal may have its name, and what was done then was cut off.
abbrev pub IsNotCommitted : Marking → List (List ℕ) → Option History → Option History → Bool → Type 0
IsNotCommitted mark_of names old new false = IsGivenUp mark_of names old new
IsNotCommitted mark_of names old new true = AreCommittedInPart mark_of names old new

-- the journal is gone, and that is on the device or not
abbrev pub IsClosed : Option History → Option History → Bool → Type 0
IsClosed old new true = new ≡ with_steps old (all_of closing)
IsClosed old new false = new ≡ with_steps old (Removed journal_name ∷ [])

-- a repair, by what the journal lists and which files belonged to none
pub record IsRepaired (old new : Option History) (r : Repair) : Type 0 where
  pub journal : Option (List (List ℕ))
  pub gone : List (List ℕ)
  pub journaled : IfTold old (λ h. IsJournaled h journal)
  pub beside : AllByRecursion IsBeside gone
  pub steps : new ≡ with_steps old (all_of (repairing journal gone))
  pub finished : r.finished ≡ option_map length journal
  pub removed : r.removed ≡ length gone

-- no file of an exchange is left, other than the journal
abbrev pub HoldsNoneBeside : Holdings → Type 0
HoldsNoneBeside h = (name : List ℕ) → IsBeside name → h name ≡ None

-- one that was stopped, or not begun
pub data IsUnrepaired (old new : Option History) : Type 0 where
  untouched : new ≡ old → IsUnrepaired old new
  stopped : (journal : Option (List (List ℕ))) (gone : List (List ℕ)) → IfTold old (λ h. IsJournaled h journal) → AllByRecursion IsBeside gone
      → HasStopped (repairing journal gone) old new → IsUnrepaired old new

-- ---- working definitions

-- some of the new files took their names
pub record IsMovedInPart (names : List (List ℕ)) (old new : Option History) : Type 0 where
  pub left : List Step
  pub some : AreSomeOf left (map renamed names)
  pub steps : new ≡ with_steps old left

-- the journal did not get its name, or that is not known; where it can't have it, none is there
pub record IsUnnamed (old new : Option History) (begun : Bool) : Type 0 where
  pub tried : MayHaveTaken (Moved new_journal_name journal_name) old new
  pub unbegun : begun ≡ false → IfTold new (λ h. h journal_name ≡ None)

-- it was not written, or it may have its name
abbrev pub IsUnrecorded : List ℕ → Option History → Option History → Bool → Type 0
IsUnrecorded text old new false = IsBesideAlone old new
IsUnrecorded text old new true = HasStopped (recording text) old new

-- a journal was taken away again, or may still be there
abbrev pub IsWithdrawn : Option History → Option History → Bool → Type 0
IsWithdrawn old new false = new ≡ with_steps old (all_of closing)
IsWithdrawn old new true = HasStopped closing old new

-- behind a journal files did not take their names, and it was taken away again or not
pub data IsUnsettled (names : List (List ℕ)) (old new : Option History) (begun : Bool) : Type 0 where
  withdrawn_again : IsWithdrawn old new begun → IsUnsettled names old new begun
  moved_in_part : begun ≡ true → IsMovedInPart names old new → IsUnsettled names old new begun

-- the same behind the journal's name, which may not be on the device
pub data IsSettledInPart (names : List (List ℕ)) (old new : Option History) : Type 0 where
  unsynced : new ≡ old → IsSettledInPart names old new
  in_part : (left : List Step) → AreSomeOf left (map renamed names) → new ≡ with_steps old (Synced ∷ left) → IsSettledInPart names old new

-- each of the names that is beside is among these
abbrev pub AreAllBeside : List (List ℕ) → List (List ℕ) → Type 0
AreAllBeside names beside = AllByRecursion (λ name. IsBeside name → is_listed beside name ≡ true) names

-- what the journal says is done
pub record IsFinished (old new : Option History) (finished : Option ℕ) : Type 0 where
  pub journal : Option (List (List ℕ))
  pub journaled : IfTold old (λ h. IsJournaled h journal)
  pub steps : new ≡ with_steps old (all_of (repairing journal []))
  pub count : finished ≡ option_map length journal

-- files that belong to no exchange are gone
pub record IsSwept (old new : Option History) (removed : ℕ) : Type 0 where
  pub gone : List (List ℕ)
  pub beside : AllByRecursion IsBeside gone
  pub steps : new ≡ with_steps old (all_of (sweeping gone))
  pub count : removed ≡ length gone

-- or some of them
pub record IsSweepStopped (old new : Option History) : Type 0 where
  pub gone : List (List ℕ)
  pub beside : AllByRecursion IsBeside gone
  pub stopped : HasStopped (sweeping gone) old new

abbrev pub name_of : Move → List ℕ
name_of m = string_bytes m.name
