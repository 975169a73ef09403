-- New files of a folder that take their names all or none, and what the folder stands for meanwhile.
use Rattle.std.specs.Prelude.{◌≡◌, ◌⊎◌, ℕ, List, [], ◌∷◌, ◌++◌, Bool, true, false, cond, Option, Some, None, is_some, map}
use Rattle.std.specs.Str.{bytes_eq}
use Rattle.std.specs.List.{list_any, AllByRecursion}
use Rattle.std.specs.Option.{option_or}
use Rattle.av_sink.specs.Account.{NamedFile}
use Rattle.av_exchange.specs.Names.{IsBeside, IsRegionName, journal_name, journal_of, new_journal_name, part_of, is_own}
use Rattle.av_exchange.specs.Steps.{Holdings, Step, Written, Spoiled, Moved, Removed, Synced, IsCutOff, all_of, after, after_all}

-- ---- the steps

-- a new file is written beside the one that it is to replace
abbrev pub staged : NamedFile → Step
staged file = Written (part_of file.name) file.bytes

-- the new files of these names wait
abbrev pub AreStaged : List (List ℕ) → Holdings → Type 0
AreStaged names h = AllByRecursion (λ name. is_some (h (part_of name)) ≡ true) names

-- it takes its name
abbrev pub renamed : List ℕ → Step
renamed name = Moved (part_of name) name

-- each of these new files is there when its turn comes
abbrev pub AreTaken : List (List ℕ) → Holdings → Type 0
AreTaken [] h = Unit {0}
AreTaken (name ∷ names) h = (is_some (h (part_of name)) ≡ true) × AreTaken names (after h (renamed name))

-- a journal is done with: its files take their names, and then it goes
abbrev pub finishing : List (List ℕ) → List (List Step)
finishing names = map renamed names ∷ (Removed journal_name ∷ []) ∷ []

-- a journal is written, and gets its name
abbrev pub recording : List ℕ → List (List Step)
recording text = (Written new_journal_name text ∷ []) ∷ (Moved new_journal_name journal_name ∷ []) ∷ []

-- new files that were written take their names: once the journal has its name, they are to do so. Until the journal goes, which is the last
-- of the exchange, a call that is cut off is known by it
abbrev pub committing : (names marks : List (List ℕ)) → List (List Step)
committing names marks = recording (journal_of names marks) ++ map renamed names ∷ []

abbrev pub closing : List (List Step)
closing = (Removed journal_name ∷ []) ∷ []

-- the journal is taken away again, and no file has moved
abbrev pub withdrawing : (names marks : List (List ℕ)) → List (List Step)
withdrawing names marks = recording (journal_of names marks) ++ closing

-- the whole exchange: new files are written, take their names, and it is closed
abbrev pub exchanging : List NamedFile → (marks : List (List ℕ)) → List (List Step)
exchanging files marks = (map staged files ++ (Written new_journal_name (journal_of (map (λ f. f.name) files) marks) ∷ []))
    ∷ (Moved new_journal_name journal_name ∷ []) ∷ finishing (map (λ f. f.name) files)

-- one that is given up when its journal has its name: that goes again, and the new files stay beside the old ones
abbrev pub giving_up : List NamedFile → (marks : List (List ℕ)) → List (List Step)
giving_up files marks = (map staged files ++ (Written new_journal_name (journal_of (map (λ f. f.name) files) marks) ∷ []))
    ∷ (Moved new_journal_name journal_name ∷ []) ∷ closing

-- files that belong to none go
abbrev pub sweeping : List (List ℕ) → List (List Step)
sweeping [] = []
sweeping (name ∷ names) = (Removed name ∷ map Removed names) ∷ []

-- What is done to a folder where an exchange may have been cut off: by its journal, where there is one, and then these files go. A process that was
-- killed may have left names that are not on the device yet, that of the journal among them, so these are waited for before the first file moves:
-- a crash until then is one of that exchange.
abbrev pub repairing : Option (List (List ℕ)) → List (List ℕ) → List (List Step)
repairing None gone = sweeping gone
repairing (Some names) gone = [] ∷ map renamed names ∷ (Removed journal_name ∷ []) ∷ sweeping gone

-- ---- what a folder stands for

-- its journal lists these names
pub record Lists (h : Holdings) (names : List (List ℕ)) : Type 0 where
  pub marks : List (List ℕ)
  pub text : h journal_name ≡ Some (journal_of names marks)
  pub regions : AllByRecursion IsRegionName names

-- the same, or there is none
abbrev pub IsJournaled : Holdings → Option (List (List ℕ)) → Type 0
IsJournaled h None = h journal_name ≡ None
IsJournaled h (Some names) = Lists h names

abbrev pub is_listed : List (List ℕ) → List ℕ → Bool
is_listed names name = list_any (λ other. bytes_eq name other) names

-- what counts under each name: the new file, where the journal lists the name and the new file has not taken its name
abbrev pub counted : Option (List (List ℕ)) → Holdings → Holdings
counted None h = h
counted (Some names) h = λ m. cond (is_listed names m) (option_or (h (part_of m)) (h m)) (h m)

-- What a folder stands for, by names that are not an exchange's own.
pub record StandsFor (h k : Holdings) : Type 0 where
  pub journal : Option (List (List ℕ))
  pub journaled : IsJournaled h journal
  pub counts : (name : List ℕ) → is_own name ≡ false → k name ≡ counted journal h name

-- the bytes that files have under a name
abbrev pub bytes_under : List NamedFile → Holdings
bytes_under [] name = None
bytes_under (f ∷ files) name = option_or (bytes_under files name) (cond (bytes_eq name f.name) (Some f.bytes) None)

-- the same folder with these files instead of those of their names
abbrev pub with_all : Holdings → List NamedFile → Holdings
with_all k files = λ name. option_or (bytes_under files name) (k name)

-- a step on files that are not the journal's, nor of a region
abbrev pub IsStepBeside : Step → Type 0
IsStepBeside (Written name bytes) = IsBeside name
IsStepBeside (Spoiled name left) = IsBeside name
IsStepBeside (Moved from to) = ⊥
IsStepBeside (Removed name) = IsBeside name
IsStepBeside Synced = Unit {0}

-- ---- laws

-- steps beside change nothing of what a folder without a journal stands for, so that new files that are only written, or given up, don't count
abbrev pub BesideKeeps : Type 0
BesideKeeps = (h k : Holdings) (steps : List Step) → h journal_name ≡ None → AllByRecursion IsStepBeside steps
    → StandsFor h k → StandsFor (after_all h steps) k

-- a crash during an exchange leaves the old files, or all new ones
abbrev pub LeavesOldOrNew : Type 0
LeavesOldOrNew = (h k : Holdings) (files : List NamedFile) (marks : List (List ℕ)) (left : List Step) → h journal_name ≡ None → AllByRecursion (λ f. IsRegionName f.name) files
    → StandsFor h k → IsCutOff (exchanging files marks) left → StandsFor (after_all h left) k ⊎ StandsFor (after_all h left) (with_all k files)

-- at its end it is the new ones
abbrev pub LeavesNew : Type 0
LeavesNew = (h k : Holdings) (files : List NamedFile) (marks : List (List ℕ)) → h journal_name ≡ None → AllByRecursion (λ f. IsRegionName f.name) files
    → StandsFor h k → StandsFor (after_all h (all_of (exchanging files marks))) (with_all k files)

-- A crash while one is given up leaves the old files, or all new ones; at its end it is the old ones.
abbrev pub GivenUpLeavesOldOrNew : Type 0
GivenUpLeavesOldOrNew = (h k : Holdings) (files : List NamedFile) (marks : List (List ℕ)) (left : List Step) → h journal_name ≡ None → AllByRecursion (λ f. IsRegionName f.name) files
    → StandsFor h k → IsCutOff (giving_up files marks) left → StandsFor (after_all h left) k ⊎ StandsFor (after_all h left) (with_all k files)

abbrev pub GivenUpLeavesOld : Type 0
GivenUpLeavesOld = (h k : Holdings) (files : List NamedFile) (marks : List (List ℕ)) → h journal_name ≡ None → AllByRecursion (λ f. IsRegionName f.name) files
    → StandsFor h k → StandsFor (after_all h (all_of (giving_up files marks))) k

-- a crash during a repair changes nothing of what the folder stands for
abbrev pub RepairKeeps : Type 0
RepairKeeps = (h k : Holdings) (journal : Option (List (List ℕ))) (gone : List (List ℕ)) (left : List Step) → IsJournaled h journal
    → AllByRecursion IsBeside gone → StandsFor h k → IsCutOff (repairing journal gone) left → StandsFor (after_all h left) k

-- at its end the folder has no journal, and holds what it stood for
abbrev pub RepairHolds : Type 0
RepairHolds = (h k : Holdings) (journal : Option (List (List ℕ))) (gone : List (List ℕ)) → IsJournaled h journal
    → AllByRecursion IsBeside gone → StandsFor h k → (after_all h (all_of (repairing journal gone)) journal_name ≡ None)
    × ((name : List ℕ) → is_own name ≡ false → after_all h (all_of (repairing journal gone)) name ≡ k name)
