-- Steps beside change nothing of what a folder without a journal stands for.
use Rattle.std.proofs.Common.{◌≡◌, ◌∙◌, sym, refl, ℕ, List, [], ◌∷◌, false, bytes_eq, Option, Some, None}
use Rattle.std.specs.List.{AllByRecursion}
use Rattle.std.proofs.lemmas.Bool.{cond-false}
use Rattle.std.proofs.lemmas.Option.{none-some}
use Rattle.av_exchange.specs.Names.{IsBeside, is_own, journal_name}
use Rattle.av_exchange.specs.Steps.{Holdings, Step, Written, Spoiled, Moved, Removed, Synced, after, after_all}
use Rattle.av_exchange.specs.Exchange.{IsStepBeside, IsJournaled, StandsFor, counted, BesideKeeps}
use Rattle.av_exchange.proofs.Own.{apart, beside_own, beside_no_journal}

-- no file beside has this name
abbrev pub IsOther : List ℕ → Type 0
IsOther m = (name : List ℕ) → IsBeside name → bytes_eq m name ≡ false

quiet_step : (h : Holdings) (s : Step) (m : List ℕ) → IsStepBeside s → IsOther m → after h s m ≡ h m
quiet_step h (Written name bytes) m b other = cond-false (bytes_eq m name) (Some bytes) (h m) (other name b)
quiet_step h (Spoiled name left) m b other = cond-false (bytes_eq m name) left (h m) (other name b)
quiet_step h (Moved from to) m b other = absurd b
quiet_step h (Removed name) m b other = cond-false (bytes_eq m name) None (h m) (other name b)
quiet_step h Synced m b other = refl

pub quiet : (h : Holdings) (steps : List Step) (m : List ℕ) → AllByRecursion IsStepBeside steps → IsOther m → after_all h steps m ≡ h m
quiet h [] m b other = refl
quiet h (s ∷ steps) m b other = quiet (after h s) steps m b.1 other ∙ quiet_step h s m b.0 other

pub other_name : (m : List ℕ) → is_own m ≡ false → IsOther m
other_name m foreign name b = apart m name foreign (beside_own name b)

pub other_journal : IsOther journal_name
other_journal = beside_no_journal

-- what counts in a folder without a journal
pub plain : (h : Holdings) (j : Option (List (List ℕ))) (m : List ℕ) (file : Option (List ℕ)) → h journal_name ≡ None → IsJournaled h j → file ≡ counted j h m → file ≡ h m
plain h None m file free is counts = counts
plain h (Some names) m file free is counts = absurd (none-some _ (sym free ∙ is.text))

-- what it stands for is what it holds
pub plain_stands : (h k : Holdings) → h journal_name ≡ None → StandsFor h k → (m : List ℕ) → is_own m ≡ false → k m ≡ h m
plain_stands h k free s m own = plain h s.journal m (k m) free s.journaled (s.counts m own)

pub stands_plain : (h k : Holdings) → h journal_name ≡ None → ((m : List ℕ) → is_own m ≡ false → k m ≡ h m) → StandsFor h k
stands_plain h k free is = record { journal = None; journaled = free; counts = is }

pub beside_keeps : BesideKeeps
beside_keeps h k steps free b s =
    stands_plain (after_all h steps) k (quiet h steps journal_name b other_journal ∙ free)
    (λ m own. plain_stands h k free s m own ∙ sym (quiet h steps m b (other_name m own)))
