-- New files that take their names change nothing of what a folder stands for whose journal lists them.
use Rattle.std.proofs.Common.{◌≡◌, ◌∙◌, ap, ap₂, sym, subst, refl, ℕ, List, [], ◌∷◌, Bool, true, false, ◌||◌, cond, bytes_eq, Option, Some, None, map}
use Rattle.std.specs.List.{AllByRecursion}
use Rattle.std.specs.Option.{option_or}
use Rattle.std.proofs.lemmas.Bool.{cases_Bool, cond-true, cond-false, true≢false, or_right}
use Rattle.std.proofs.lemmas.Slice.Eq.{bytes_eq-Decides}
use mathlib.Core.Logic.{inl, inr}
use Rattle.av_exchange.specs.Names.{IsRegionName, is_own, journal_name, part_of}
use Rattle.av_exchange.specs.Steps.{Holdings, Step, after, after_all, moved, AreSomeOf}
use Rattle.av_exchange.specs.Exchange.{counted, is_listed, renamed}
use Rattle.av_exchange.proofs.Own.{apart, apart_too, journal_no_part, own_part, region_not_own}
use Rattle.av_exchange.proofs.Crash.{some_all}

-- the new file of a name that is listed takes its name
pub data IsRenaming (names : List (List ℕ)) (s : Step) : Type 0 where
  committing : (name : List ℕ) → IsRegionName name → is_listed names name ≡ true → s ≡ renamed name → IsRenaming names s

-- ---- one step, by what stands under the new file's name

module _ (h : Holdings) (n : List ℕ) (r : IsRegionName n) where
  foreign : is_own n ≡ false
  foreign = region_not_own n r

  -- the journal stays
  journal_stays : (o : Option (List ℕ)) → moved h (part_of n) n o journal_name ≡ h journal_name
  journal_stays None = refl
  journal_stays (Some b) =
      cond-false (bytes_eq journal_name n) (Some b) _ (apart_too journal_name n refl foreign)
      ∙ cond-false (bytes_eq journal_name (part_of n)) None _ (journal_no_part n r)

  -- what is under the name of a new file is what was, or nothing
  pub part_stays : (o : Option (List ℕ)) (m : List ℕ) → bytes_eq m n ≡ false → moved h (part_of n) n o (part_of m) ≡ h (part_of m)
  part_stays None m other = refl
  part_stays (Some b) m other =
      cond-false (bytes_eq (part_of m) n) (Some b) _ (apart_too (part_of m) n (own_part m) foreign)
      ∙ cond-false (bytes_eq (part_of m) (part_of n)) None _ other

  pub part_goes : (o : Option (List ℕ)) → o ≡ h (part_of n) → moved h (part_of n) n o (part_of n) ≡ None
  part_goes None is = sym is
  part_goes (Some b) is =
      cond-false (bytes_eq (part_of n) n) (Some b) _ (apart_too (part_of n) n (own_part n) foreign)
      ∙ cond-true (bytes_eq (part_of n) (part_of n)) None _ ((bytes_eq-Decides n n).1 refl)

  pub file_stays : (o : Option (List ℕ)) (m : List ℕ) → is_own m ≡ false → bytes_eq m n ≡ false → moved h (part_of n) n o m ≡ h m
  file_stays None m own other = refl
  file_stays (Some b) m own other =
      cond-false (bytes_eq m n) (Some b) _ other ∙ cond-false (bytes_eq m (part_of n)) None _ (apart m (part_of n) own (own_part n))

  -- under its own name what counts is the new file
  file_counts : (o : Option (List ℕ)) → o ≡ h (part_of n)
      → option_or (moved h (part_of n) n o (part_of n)) (moved h (part_of n) n o n) ≡ option_or (h (part_of n)) (h n)
  file_counts None is = refl
  file_counts (Some b) is =
      ap₂ option_or (part_goes (Some b) is) (cond-true (bytes_eq n n) (Some b) _ ((bytes_eq-Decides n n).1 refl))
      ∙ ap (λ (o : Option (List ℕ)). option_or o (h n)) is

  counts_on : (names : List (List ℕ)) (o : Option (List ℕ)) (m : List ℕ) → o ≡ h (part_of n) → is_listed names n ≡ true → is_own m ≡ false
      → counted (Some names) (moved h (part_of n) n o) m ≡ counted (Some names) h m
  counts_on names o m is listed own = elim (cases_Bool (bytes_eq m n)) [
    | inl same ↦
        let at = (bytes_eq-Decides m n).0 same in
        subst (λ (x : List ℕ). counted (Some names) (moved h (part_of n) n o) x ≡ counted (Some names) h x) (sym at)
        (cond-true (is_listed names n) _ _ listed ∙ (file_counts o is ∙ sym (cond-true (is_listed names n) _ _ listed)))
    | inr other ↦
        ap₂ (λ (p f : Option (List ℕ)). cond (is_listed names m) (option_or p f) f) (part_stays o m other) (file_stays o m own other)
  ]

-- ---- some of the steps

pub renaming_keeps_journal : (names : List (List ℕ)) (h : Holdings) (steps : List Step) → AllByRecursion (IsRenaming names) steps
    → after_all h steps journal_name ≡ h journal_name
renaming_keeps_journal names h [] are = refl
renaming_keeps_journal names h (s ∷ steps) are = renaming_keeps_journal names (after h s) steps are.1 ∙ one are.0
  where
    one : IsRenaming names s → after h s journal_name ≡ h journal_name
    one (committing n r listed is) = subst (λ (t : Step). after h t journal_name ≡ h journal_name) (sym is) (journal_stays h n r (h (part_of n)))

pub renaming_keeps_counts : (names : List (List ℕ)) (h : Holdings) (steps : List Step) (m : List ℕ) → AllByRecursion (IsRenaming names) steps → is_own m ≡ false
    → counted (Some names) (after_all h steps) m ≡ counted (Some names) h m
renaming_keeps_counts names h [] m are own = refl
renaming_keeps_counts names h (s ∷ steps) m are own = renaming_keeps_counts names (after h s) steps m are.1 own ∙ one are.0
  where
    one : IsRenaming names s → counted (Some names) (after h s) m ≡ counted (Some names) h m
    one (committing n r listed is) = subst (λ (t : Step). counted (Some names) (after h t) m ≡ counted (Some names) h m) (sym is)
        (counts_on h n r names (h (part_of n)) m refl listed own)

-- what was gone stays gone
part_stays_gone : (h : Holdings) (n m : List ℕ) → IsRegionName n → h (part_of m) ≡ None → after h (renamed n) (part_of m) ≡ None
part_stays_gone h n m r gone = elim (cases_Bool (bytes_eq m n)) [
  | inl same ↦ subst (λ (x : List ℕ). after h (renamed n) (part_of x) ≡ None) (sym ((bytes_eq-Decides m n).0 same)) (part_goes h n r (h (part_of n)) refl)
  | inr other ↦ part_stays h n r (h (part_of n)) m other ∙ gone
]

all_stay_gone : (h : Holdings) (names : List (List ℕ)) (m : List ℕ) → AllByRecursion IsRegionName names → h (part_of m) ≡ None
    → after_all h (map renamed names) (part_of m) ≡ None
all_stay_gone h [] m are gone = gone
all_stay_gone h (n ∷ names) m are gone = all_stay_gone (after h (renamed n)) names m are.1 (part_stays_gone h n m are.0 gone)

-- at the end nothing is under the names of the new files
pub all_go : (h : Holdings) (names : List (List ℕ)) (m : List ℕ) → AllByRecursion IsRegionName names → is_listed names m ≡ true
    → after_all h (map renamed names) (part_of m) ≡ None
all_go h [] m are listed = absurd (true≢false (sym listed))
all_go h (n ∷ names) m are listed = elim (cases_Bool (bytes_eq m n)) [
  | inl same ↦
      all_stay_gone (after h (renamed n)) names m are.1
      (subst (λ (x : List ℕ). after h (renamed n) (part_of x) ≡ None) (sym ((bytes_eq-Decides m n).0 same)) (part_goes h n are.0 (h (part_of n)) refl))
  | inr other ↦ all_go (after h (renamed n)) names m are.1 (subst (λ (b : Bool). (b || is_listed names m) ≡ true) other listed)
]

-- ---- a journal's own

each_renaming : (all names : List (List ℕ)) → ((m : List ℕ) → is_listed names m ≡ true → is_listed all m ≡ true) → AllByRecursion IsRegionName names
    → AllByRecursion (IsRenaming all) (map renamed names)
each_renaming all [] among are = tt
each_renaming all (n ∷ names) among are = (
  committing n are.0 (among n (ap (λ (b : Bool). b || is_listed names n) ((bytes_eq-Decides n n).1 refl))) refl,
  each_renaming all names (λ m listed. among m (or_right (bytes_eq m n) _ listed)) are.1,
)

pub some_renaming : (names : List (List ℕ)) (left : List Step) → AllByRecursion IsRegionName names → AreSomeOf left (map renamed names)
    → AllByRecursion (IsRenaming names) left
some_renaming names left are some = some_all (IsRenaming names) left (map renamed names) some (each_renaming names names (λ m listed. listed) are)
