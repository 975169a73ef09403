-- What becomes of files that are to take their names.
use Rattle.std.proofs.Common.{◌≡◌, ◌∙◌, ap, sym, subst, refl, ℕ, List, [], ◌∷◌, ◌++◌, map, Option, Bool, true, false, Result, Ok, Err, IfErr}
use Rattle.std.specs.Prelude.{IsErrAnd}
use Rattle.std.proofs.lemmas.Bool.{true≢false}
use mathlib.Core.Logic.{inl, inr}
use Rattle.av_exchange.specs.Names.{journal_of}
use Rattle.av_exchange.specs.Steps.{History, IfTold, Step, after_all, all_of, with_steps}
use Rattle.av_exchange.specs.Exchange.{AreStaged, AreTaken, closing, committing, recording, renamed, withdrawing}
use Rattle.av_exchange.specs.Marks.{AreMarksOf, Marking}
use Rattle.av_exchange.specs.Outcomes.{AreCommitted, HasStopped, IsBesideAlone, IsMovedInPart, IsNotCommitted, IsUnrecorded, IsUnsettled, IsWithdrawn, moved_in_part, unnamed, withdrawn, withdrawn_again}
use Rattle.av_exchange.proofs.History.{no_steps}
use Rattle.av_exchange.proofs.Phases.{all_then, stopped_behind, stopped_in}
use Rattle.av_exchange.proofs.Stepwise.{moved_stopped}
use Rattle.av_exchange.proofs.Taken.{told_behind}

pub err_by : {T E : Type 0} (r : Result T E) (P Q : E → Type 0) → IsErrAnd r P → ((e : E) → P e → Q e) → IfErr r Q
err_by (Ok v) P Q h f = tt
err_by (Err e) P Q h f = f e h

-- before anything was done
pub never_begun : (k : Marking) (names : List (List ℕ)) (t : Option History) (begun : Bool) → begun ≡ false → IsNotCommitted k names t t begun
never_begun k names t true is = absurd (true≢false is)
never_begun k names t false is = unnamed (record { left = []; beside = tt; steps = no_steps t })

pub looked_away : (names : List (List ℕ)) (old mid new : Option History) (begun : Bool) → mid ≡ old → IsWithdrawn mid new begun → IsUnsettled names old new begun
looked_away names old mid new begun same is = withdrawn_again (subst (λ (t : Option History). IsWithdrawn t new begun) same is)

pub looked_at : (names : List (List ℕ)) (old mid new : Option History) → mid ≡ old → IsMovedInPart names mid new → IsUnsettled names old new true
looked_at names old mid new same part = moved_in_part refl (subst (λ (t : Option History). IsMovedInPart names t new) same part)

module _ (k : Marking) (names marks : List (List ℕ)) (old : Option History) (staged : IfTold old (AreStaged names)) (marked : AreMarksOf k old names marks) where
  not_recorded_by : (new : Option History) (begun : Bool) → IsUnrecorded (journal_of names marks) old new begun → IsNotCommitted k names old new begun
  not_recorded_by new false beside = unnamed beside
  not_recorded_by new true part = record {
    staged = staged;
    marks = marks;
    marked = marked;
    stopped = inl (stopped_in (recording (journal_of names marks)) (map renamed names ∷ []) old new part);
  }

  pub not_recorded : (new : Option History) (text : List ℕ) (begun : Bool) → text ≡ journal_of names marks → IsUnrecorded text old new begun
      → IsNotCommitted k names old new begun
  not_recorded new text begun is part = not_recorded_by new begun (subst (λ (t : List ℕ). IsUnrecorded t old new begun) is part)

  not_moved : (mid new : Option History) (begun : Bool) → mid ≡ with_steps old (all_of (recording (journal_of names marks))) → begun ≡ true
      → IsMovedInPart names mid new → IsNotCommitted k names old new begun
  not_moved mid new false first is part = absurd (true≢false (sym is))
  not_moved mid new true first is part = record {
    staged = staged;
    marks = marks;
    marked = marked;
    stopped = inl (stopped_behind (recording (journal_of names marks)) (map renamed names ∷ []) old mid new first (moved_stopped names mid new part));
  }

  taken_back : (mid new : Option History) (begun : Bool) → mid ≡ with_steps old (all_of (recording (journal_of names marks))) → IsWithdrawn mid new begun
      → IsNotCommitted k names old new begun
  taken_back mid new false first is = withdrawn marks marked (all_then (recording (journal_of names marks)) closing old mid new first is)
  taken_back mid new true first is = record {
    staged = staged;
    marks = marks;
    marked = marked;
    stopped = inr (stopped_behind (recording (journal_of names marks)) closing old mid new first is);
  }

  not_settled_by : (mid new : Option History) (begun : Bool) → mid ≡ with_steps old (all_of (recording (journal_of names marks))) → IsUnsettled names mid new begun
      → IsNotCommitted k names old new begun
  not_settled_by mid new begun first (withdrawn_again is) = taken_back mid new begun first is
  not_settled_by mid new begun first (moved_in_part is part) = not_moved mid new begun first is part

  pub not_settled : (mid new : Option History) (text : List ℕ) (moved : List (List ℕ)) (begun : Bool) → text ≡ journal_of names marks → moved ≡ names
      → mid ≡ with_steps old (all_of (recording text)) → IsUnsettled moved mid new begun → IsNotCommitted k names old new begun
  not_settled mid new text moved begun is same first part =
      not_settled_by mid new begun (first ∙ ap (λ (t : List ℕ). with_steps old (all_of (recording t))) is)
      (subst (λ (ns : List (List ℕ)). IsUnsettled ns mid new begun) same part)

  pub settled : (mid new : Option History) (text : List ℕ) (moved : List (List ℕ)) → text ≡ journal_of names marks → moved ≡ names
      → mid ≡ with_steps old (all_of (recording text)) → IfTold mid (AreTaken moved)
      → new ≡ with_steps mid (all_of (map renamed moved ∷ [])) → AreCommitted k names old new
  settled mid new text moved is same first taken next =
      let begun = first ∙ ap (λ (t : List ℕ). with_steps old (all_of (recording t))) is in
      record {
        staged = staged;
        marks = marks;
        marked = marked;
        taken = told_behind old mid (all_of (recording (journal_of names marks))) (AreTaken names) begun
            (subst (λ (ns : List (List ℕ)). IfTold mid (AreTaken ns)) same taken);
        steps = all_then (recording (journal_of names marks)) (map renamed names ∷ []) old mid new begun
            (next ∙ ap (λ (ns : List (List ℕ)). with_steps mid (all_of (map renamed ns ∷ []))) same);
      }
