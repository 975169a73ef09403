-- A repair keeps what a folder stands for, and at its end the folder holds it.
use Rattle.std.proofs.Common.{◌≡◌, ◌∙◌, ap, sym, subst, refl, ℕ, List, [], ◌∷◌, ◌++◌, false, bytes_eq, Option, Some, None, map}
use Rattle.std.specs.List.{AllByRecursion}
use Rattle.std.specs.Option.{option_or}
use Rattle.std.proofs.lemmas.Bool.{cases_Bool, cond-true, cond-false}
use mathlib.Core.Logic.{inl, inr}
use Rattle.av_exchange.specs.Names.{IsBeside, is_own, journal_name}
use Rattle.av_exchange.specs.Steps.{Holdings, Step, Removed, Synced, after_all, with_name, AreSomeOf, none, IsCutOff, ended, during, later, all_of}
use Rattle.av_exchange.specs.Exchange.{IsStepBeside, IsJournaled, StandsFor, counted, is_listed, renamed, sweeping, RepairKeeps, RepairHolds}
use Rattle.av_exchange.proofs.Own.{apart}
use Rattle.av_exchange.proofs.Listing.{one_journal}
use Rattle.av_exchange.proofs.Crash.{after_phase, all_some, one_or_none, some_all}
use Rattle.av_exchange.proofs.Beside.{beside_keeps, plain_stands, quiet, other_name, other_journal, stands_plain}
use Rattle.av_exchange.proofs.Renamed.{all_go, renaming_keeps_counts, renaming_keeps_journal, some_renaming}

-- what a folder stands for is what counts by its journal
pub by_journal : (h k : Holdings) (j : Option (List (List ℕ))) → IsJournaled h j → StandsFor h k → (m : List ℕ) → is_own m ≡ false → k m ≡ counted j h m
by_journal h k j is s m own = subst (λ (i : Option (List (List ℕ))). k m ≡ counted i h m) (one_journal h s.journal j s.journaled is) (s.counts m own)

-- ---- files that belong to none go

removed_beside : (gone : List (List ℕ)) → AllByRecursion IsBeside gone → AllByRecursion IsStepBeside (map Removed gone)
removed_beside [] are = tt
removed_beside (n ∷ gone) are = (are.0, removed_beside gone are.1)

pub swept_beside : (gone : List (List ℕ)) (left : List Step) → AllByRecursion IsBeside gone → IsCutOff (sweeping gone) left → AllByRecursion IsStepBeside left
swept_beside [] _ are ended = tt
swept_beside (n ∷ gone) _ are (during _ _ left some) = some_all IsStepBeside left _ some (are.0, removed_beside gone are.1)
swept_beside (n ∷ gone) _ are (later phase _ _ ended) = behind (map Removed (n ∷ gone)) (removed_beside (n ∷ gone) are)
  where
    behind : (steps : List Step) → AllByRecursion IsStepBeside steps → AllByRecursion IsStepBeside (steps ++ (Synced ∷ []))
    behind [] are = (tt, tt)
    behind (s ∷ steps) are = (are.0, behind steps are.1)

all_swept : (gone : List (List ℕ)) → IsCutOff (sweeping gone) (all_of (sweeping gone))
all_swept [] = ended
all_swept (n ∷ gone) = later _ [] [] ended

pub swept_keeps : (h k : Holdings) (gone : List (List ℕ)) (left : List Step) → h journal_name ≡ None → AllByRecursion IsBeside gone → StandsFor h k
    → IsCutOff (sweeping gone) left → StandsFor (after_all h left) k
swept_keeps h k gone left free are s cut = beside_keeps h k left free (swept_beside gone left are cut) s

-- ---- a journal is done with

module _ (h k : Holdings) (names : List (List ℕ)) (is : IsJournaled h (Some names)) (counts : (m : List ℕ) → is_own m ≡ false → k m ≡ counted (Some names) h m) where
  -- while files take their names
  pub renaming_stands : (left : List Step) → AreSomeOf left (map renamed names) → StandsFor (after_all h left) k
  renaming_stands left some =
      let are = some_renaming names left is.regions some in
      record {
        journal = Some names;
        journaled = record { marks = is.marks; text = renaming_keeps_journal names h left are ∙ is.text; regions = is.regions };
        counts = λ m own. counts m own ∙ sym (renaming_keeps_counts names h left m are own);
      }

  -- when all have theirs, what counts is what is held
  all_renamed : (m : List ℕ) → is_own m ≡ false → k m ≡ after_all h (map renamed names) m
  all_renamed m own =
      let now = after_all h (map renamed names) in
      let are = some_renaming names (map renamed names) is.regions (all_some (map renamed names)) in
      counts m own ∙ (sym (renaming_keeps_counts names h (map renamed names) m are own) ∙ held m)
    where
      now : Holdings
      now = after_all h (map renamed names)

      held : (m : List ℕ) → counted (Some names) now m ≡ now m
      held m = elim (cases_Bool (is_listed names m)) [
        | inl listed ↦
            cond-true (is_listed names m) _ _ listed ∙ ap (λ (o : Option (List ℕ)). option_or o (now m)) (all_go h names m is.regions listed)
        | inr other ↦ cond-false (is_listed names m) _ _ other
      ]

  -- the folder once the journal is gone
  pub forgotten : Holdings
  forgotten = with_name (after_all h (map renamed names)) journal_name None

  pub forgotten_journal : forgotten journal_name ≡ None
  unfolding forgotten
  forgotten_journal = refl

  pub forgotten_holds : (m : List ℕ) → is_own m ≡ false → k m ≡ forgotten m
  unfolding forgotten
  forgotten_holds m own =
      all_renamed m own ∙ sym (cond-false (bytes_eq m journal_name) None (after_all h (map renamed names) m) (apart m journal_name own refl))

  pub forgotten_stands : StandsFor forgotten k
  forgotten_stands = stands_plain forgotten k forgotten_journal forgotten_holds

  pub after_finishing : (rest : List Step) → after_all h (map renamed names ++ (Synced ∷ (Removed journal_name ∷ (Synced ∷ rest)))) ≡ after_all forgotten rest
  unfolding forgotten
  after_finishing rest = after_phase h (map renamed names) (Removed journal_name ∷ (Synced ∷ rest))

  -- whatever follows, a crash until the journal is gone keeps what the folder stands for
  pub finishing_keeps : (rest : List (List Step)) (left : List Step) → ((more : List Step) → IsCutOff rest more → StandsFor (after_all forgotten more) k)
      → IsCutOff (map renamed names ∷ (Removed journal_name ∷ []) ∷ rest) left → StandsFor (after_all h left) k
  unfolding forgotten
  finishing_keeps rest _ then (during _ _ left some) = renaming_stands left some
  finishing_keeps rest _ then (later _ _ _ (during _ _ left some)) =
      subst (λ (f : Holdings). StandsFor f k) (sym (after_phase h (map renamed names) left))
      (one_or_none (Removed journal_name) left (λ (l : List Step). StandsFor (after_all (after_all h (map renamed names)) l) k) some
      (renaming_stands (map renamed names) (all_some (map renamed names))) forgotten_stands)
  finishing_keeps rest _ then (later _ _ _ (later _ _ left cut)) =
      subst (λ (f : Holdings). StandsFor f k) (sym (after_finishing left)) (then left cut)

-- ---- the laws

pub repair_keeps : RepairKeeps
repair_keeps h k None gone left is are s cut = swept_keeps h k gone left is are s cut
repair_keeps h k (Some names) gone _ is are s (during _ _ _ none) = s
repair_keeps h k (Some names) gone _ is are s (later _ _ left cut) =
    let counts = by_journal h k (Some names) is s in
    finishing_keeps h k names is counts (sweeping gone) left
    (λ more swept. swept_keeps (forgotten h k names is counts) k gone more (forgotten_journal h k names is counts) are (forgotten_stands h k names is counts) swept) cut

swept_holds : (h k : Holdings) (gone : List (List ℕ)) → h journal_name ≡ None → AllByRecursion IsBeside gone → ((m : List ℕ) → is_own m ≡ false → k m ≡ h m)
    → (after_all h (all_of (sweeping gone)) journal_name ≡ None) × ((m : List ℕ) → is_own m ≡ false → after_all h (all_of (sweeping gone)) m ≡ k m)
swept_holds h k gone free are is =
    let beside = swept_beside gone (all_of (sweeping gone)) are (all_swept gone) in (
      quiet h (all_of (sweeping gone)) journal_name beside other_journal ∙ free,
      λ m own. quiet h (all_of (sweeping gone)) m beside (other_name m own) ∙ sym (is m own),
    )

pub repair_holds : RepairHolds
repair_holds h k None gone is are s = swept_holds h k gone is are (plain_stands h k is s)
repair_holds h k (Some names) gone is are s =
    let counts = by_journal h k (Some names) is s in
    subst (λ (f : Holdings). (f journal_name ≡ None) × ((m : List ℕ) → is_own m ≡ false → f m ≡ k m)) (sym (after_finishing h k names is counts (all_of (sweeping gone))))
    (swept_holds (forgotten h k names is counts) k gone (forgotten_journal h k names is counts) are (forgotten_holds h k names is counts))
