-- An exchange leaves the old files or all new ones.
use Rattle.std.proofs.Common.{◌≡◌, ◌∙◌, ap, sym, subst, refl, ℕ, List, [], ◌∷◌, ◌++◌, Bool, true, false, ◌||◌, cond, bytes_eq, Option, Some, None, map}
use Rattle.std.specs.List.{AllByRecursion}
use Rattle.std.specs.Option.{option_or}
use Rattle.std.proofs.lemmas.Bool.{cases_Bool, cond-true, cond-false, true≢false}
use Rattle.std.proofs.lemmas.Option.{none-some}
use Rattle.std.proofs.lemmas.Slice.Eq.{bytes_eq-Decides}
use mathlib.Core.Logic.{◌⊎◌, inl, inr}
use Rattle.av_sink.specs.Account.{NamedFile}
use Rattle.av_exchange.specs.Names.{part, new_journal, IsRegionName, is_own, journal_name, journal_of, new_journal_name, part_of}
use Rattle.av_exchange.specs.Steps.{Holdings, Step, Written, Moved, Synced, after, after_all, with_name, IsCutOff, ended, during, later, all_of}
use Rattle.av_exchange.specs.Exchange.{IsStepBeside, IsJournaled, StandsFor, bytes_under, counted, finishing, is_listed, staged, with_all, LeavesNew, LeavesOldOrNew}
use Rattle.av_exchange.proofs.Own.{apart}
use Rattle.av_exchange.proofs.Crash.{after_both, after_phase, one_or_none, some_all}
use Rattle.av_exchange.proofs.Beside.{beside_keeps, plain_stands, quiet, other_name}
use Rattle.av_exchange.proofs.Repaired.{finishing_keeps, forgotten, forgotten_stands, after_finishing}

unfoldable pub AreRegions : List NamedFile → Type 0
AreRegions files = AllByRecursion (λ f. IsRegionName f.name) files

names_of : List NamedFile → List (List ℕ)
names_of files = map (λ f. f.name) files

-- ---- what stands under the names of new files

first_wins : (a : Option (List ℕ)) (c : Bool) (b : List ℕ) (x : Option (List ℕ)) → option_or a (cond c (Some b) x) ≡ option_or (option_or a (cond c (Some b) None)) x
first_wins (Some y) c b x = refl
first_wins None true b x = refl
first_wins None false b x = refl

staged_part : (h : Holdings) (files : List NamedFile) (m : List ℕ) → after_all h (map staged files) (part_of m) ≡ option_or (bytes_under files m) (h (part_of m))
staged_part h [] m = refl
staged_part h (f ∷ files) m =
    staged_part (after h (staged f)) files m ∙ first_wins (bytes_under files m) (bytes_eq m f.name) f.bytes (h (part_of m))

none_more : (a : Option (List ℕ)) (b : List ℕ) (c rest : Bool) → (c || rest) ≡ false → (rest ≡ false → a ≡ None) → option_or a (cond c (Some b) None) ≡ None
none_more a b true rest is next = absurd (true≢false is)
none_more a b false rest is next = ap (λ (o : Option (List ℕ)). option_or o None) (next is)

unlisted_none : (files : List NamedFile) (m : List ℕ) → is_listed (map (λ f. f.name) files) m ≡ false → bytes_under files m ≡ None
unlisted_none [] m other = refl
unlisted_none (f ∷ files) m other = none_more (bytes_under files m) f.bytes (bytes_eq m f.name) _ other (unlisted_none files m)

pub or_some : (a o : Option (List ℕ)) (b : List ℕ) → a ≡ Some b → (option_or a o) ≡ Some b
or_some a o b is = ap (λ (x : Option (List ℕ)). option_or x o) is

some_more : (a : Option (List ℕ)) (b : List ℕ) (c rest : Bool) → (c || rest) ≡ true → (rest ≡ true → (d : List ℕ) × (a ≡ Some d))
    → (d : List ℕ) × (option_or a (cond c (Some b) None) ≡ Some d)
some_more (Some d) b c rest is next = (d, refl)
some_more None b true rest is next = (b, refl)
some_more None b false rest is next = absurd (none-some _ (next is).1)

pub listed_some : (files : List NamedFile) (m : List ℕ) → is_listed (map (λ f. f.name) files) m ≡ true → (b : List ℕ) × (bytes_under files m ≡ Some b)
listed_some [] m listed = absurd (true≢false (sym listed))
listed_some (f ∷ files) m listed = some_more (bytes_under files m) f.bytes (bytes_eq m f.name) _ listed (listed_some files m)

listed_region : (files : List NamedFile) (m : List ℕ) → AreRegions files → is_listed (map (λ f. f.name) files) m ≡ true → IsRegionName m
unfolding AreRegions
listed_region [] m are listed = absurd (true≢false (sym listed))
listed_region (f ∷ files) m are listed = elim (cases_Bool (bytes_eq m f.name)) [
  | inl same ↦ subst IsRegionName (sym ((bytes_eq-Decides m f.name).0 same)) are.0
  | inr other ↦ listed_region files m are.1 (subst (λ (b : Bool). (b || is_listed (map (λ f. f.name) files) m) ≡ true) other listed)
]

-- ---- the new files are written

module _ (h : Holdings) (files : List NamedFile) (are : AreRegions files) (marks : List (List ℕ)) where
  text : List ℕ
  text = journal_of (map (λ f. f.name) files) marks

  unfoldable pub writing : List Step
  writing = map staged files ++ (Written new_journal_name (journal_of (map (λ f. f.name) files) marks) ∷ [])

  staged_beside : (fs : List NamedFile) → AreRegions fs → (more : List Step) → AllByRecursion IsStepBeside more → AllByRecursion IsStepBeside (map staged fs ++ more)
  unfolding AreRegions
  staged_beside [] rs more all = all
  staged_beside (f ∷ fs) rs more all = (part f.name rs.0 refl, staged_beside fs rs.1 more all)

  pub writing_beside : AllByRecursion IsStepBeside writing
  unfolding writing
  writing_beside = staged_beside files are _ (new_journal refl, tt)

  -- when all are, the journal has its name
  unfoldable pub begun : Holdings
  begun = after (after_all h (map staged files ++ (Written new_journal_name (journal_of (map (λ f. f.name) files) marks) ∷ []))) (Moved new_journal_name journal_name)

  beside_is : Holdings
  beside_is = after_all h (map staged files)

  unfoldable pub as_named : Holdings
  as_named = with_name (with_name (with_name (after_all h (map staged files)) new_journal_name (Some (journal_of (map (λ f. f.name) files) marks))) new_journal_name None)
      journal_name (Some (journal_of (map (λ f. f.name) files) marks))

  pub begun_is : begun ≡ as_named
  unfolding begun as_named
  begun_is = ap (λ (f : Holdings). after f (Moved new_journal_name journal_name)) (after_both h (map staged files) (Written new_journal_name (journal_of (map (λ f. f.name) files) marks) ∷ []))

  pub all_region : (fs : List NamedFile) → AreRegions fs → AllByRecursion IsRegionName (map (λ f. f.name) fs)
  unfolding AreRegions
  all_region [] rs = tt
  all_region (f ∷ fs) rs = (rs.0, all_region fs rs.1)

  named_journaled : IsJournaled as_named (Some (map (λ f. f.name) files))
  unfolding as_named
  named_journaled = record { marks = marks; text = refl; regions = all_region files are }

  staged_only : (fs : List NamedFile) → AreRegions fs → AllByRecursion IsStepBeside (map staged fs)
  unfolding AreRegions
  staged_only [] rs = tt
  staged_only (f ∷ fs) rs = (part f.name rs.0 refl, staged_only fs rs.1)

  -- a name that is not its own is as it was
  pub named_file : (m : List ℕ) → is_own m ≡ false → as_named m ≡ h m
  unfolding as_named
  named_file m own =
      cond-false (bytes_eq m journal_name) _ _ (apart m journal_name own refl)
      ∙ (cond-false (bytes_eq m new_journal_name) None _ (apart m new_journal_name own refl)
      ∙ (cond-false (bytes_eq m new_journal_name) _ _ (apart m new_journal_name own refl)
      ∙ quiet h (map staged files) m (staged_only files are) (other_name m own)))

  -- under the name of a new file it is that
  pub named_part : (m : List ℕ) → IsRegionName m → as_named (part_of m) ≡ option_or (bytes_under files m) (h (part_of m))
  unfolding as_named
  named_part m r =
      cond-false (bytes_eq (part_of m) journal_name) _ _ (ap (λ (n : List ℕ). bytes_eq (part_of n) journal_name) r.named ∙ refl)
      ∙ (cond-false (bytes_eq (part_of m) new_journal_name) None _ new_apart
      ∙ (cond-false (bytes_eq (part_of m) new_journal_name) _ _ new_apart
      ∙ staged_part h files m))
    where
      new_apart : bytes_eq (part_of m) new_journal_name ≡ false
      new_apart = ap (λ (n : List ℕ). bytes_eq (part_of n) new_journal_name) r.named ∙ refl

  -- what counts then are the new files
  named_counts : (k : Holdings) → ((m : List ℕ) → is_own m ≡ false → k m ≡ h m) → (m : List ℕ) → is_own m ≡ false
      → with_all k files m ≡ counted (Some (map (λ f. f.name) files)) as_named m
  named_counts k is m own = elim (cases_Bool (is_listed (map (λ f. f.name) files) m)) [
    | inl listed ↦
        let some = listed_some files m listed in
        let r = listed_region files m are listed in
        or_some (bytes_under files m) (k m) some.0 some.1
        ∙ sym (cond-true (is_listed (map (λ f. f.name) files) m) _ _ listed
        ∙ or_some (as_named (part_of m)) (as_named m) some.0 (named_part m r ∙ or_some (bytes_under files m) (h (part_of m)) some.0 some.1))
    | inr other ↦
        ap (λ (o : Option (List ℕ)). option_or o (k m)) (unlisted_none files m other)
        ∙ (is m own ∙ sym (cond-false (is_listed (map (λ f. f.name) files) m) _ _ other ∙ named_file m own))
  ]

  begun_journaled : IsJournaled begun (Some (map (λ f. f.name) files))
  begun_journaled = subst (λ (f : Holdings). IsJournaled f (Some (map (λ f. f.name) files))) (sym begun_is) named_journaled

  begun_counts : (k : Holdings) → ((m : List ℕ) → is_own m ≡ false → k m ≡ h m) → (m : List ℕ) → is_own m ≡ false
      → with_all k files m ≡ counted (Some (map (λ f. f.name) files)) begun m
  begun_counts k is m own = named_counts k is m own ∙ ap (λ (f : Holdings). counted (Some (map (λ f. f.name) files)) f m) (sym begun_is)

  pub begun_stands : (k : Holdings) → ((m : List ℕ) → is_own m ≡ false → k m ≡ h m) → StandsFor begun (with_all k files)
  begun_stands k is = record { journal = Some (map (λ f. f.name) files); journaled = begun_journaled; counts = begun_counts k is }

  pub after_begun : (rest : List Step)
      → after_all h ((map staged files ++ (Written new_journal_name (journal_of (map (λ f. f.name) files) marks) ∷ [])) ++ (Synced ∷ ((Moved new_journal_name journal_name ∷ []) ++ (Synced ∷ rest))))
      ≡ after_all begun rest
  unfolding begun
  after_begun rest = after_phase h (map staged files ++ (Written new_journal_name (journal_of (map (λ f. f.name) files) marks) ∷ [])) (Moved new_journal_name journal_name ∷ (Synced ∷ rest))

-- ---- the laws

pub leaves_old_or_new : LeavesOldOrNew
unfolding AreRegions begun writing
leaves_old_or_new h k files marks _ free are s (during _ _ left some) =
    inl (beside_keeps h k left free (some_all IsStepBeside left _ some (writing_beside h files are marks)) s)
leaves_old_or_new h k files marks _ free are s (later _ _ _ (during _ _ left some)) =
    let is = plain_stands h k free s in
    subst (λ (f : Holdings). StandsFor f k ⊎ StandsFor f (with_all k files)) (sym (after_phase h (writing h files are marks) left))
    (one_or_none (Moved new_journal_name journal_name) left
    (λ (l : List Step). StandsFor (after_all (after_all h (writing h files are marks)) l) k ⊎ StandsFor (after_all (after_all h (writing h files are marks)) l) (with_all k files)) some
    (inl (beside_keeps h k (writing h files are marks) free (writing_beside h files are marks) s))
    (inr (begun_stands h files are marks k is)))
leaves_old_or_new h k files marks _ free are s (later _ _ _ (later _ _ left cut)) =
    let is = plain_stands h k free s in
    let now = begun h files are marks in
    let counts = begun_counts h files are marks k is in
    let journaled = begun_journaled h files are marks in
    inr (subst (λ (f : Holdings). StandsFor f (with_all k files)) (sym (after_begun h files are marks left))
    (finishing_keeps now (with_all k files) (map (λ f. f.name) files) journaled counts [] left
    (λ more rest. ended_stands now k files journaled counts more rest) cut))
  where
    ended_stands : (now k : Holdings) (files : List NamedFile) (journaled : IsJournaled now (Some (map (λ f. f.name) files)))
        (counts : (m : List ℕ) → is_own m ≡ false → with_all k files m ≡ counted (Some (map (λ f. f.name) files)) now m) (more : List Step) → IsCutOff [] more
        → StandsFor (after_all (forgotten now (with_all k files) (map (λ f. f.name) files) journaled counts) more) (with_all k files)
    ended_stands now k files journaled counts _ ended = forgotten_stands now (with_all k files) (map (λ f. f.name) files) journaled counts

pub leaves_new : LeavesNew
unfolding AreRegions begun
leaves_new h k files marks free are s =
    let is = plain_stands h k free s in
    let now = begun h files are marks in
    let counts = begun_counts h files are marks k is in
    let journaled = begun_journaled h files are marks in
    subst (λ (f : Holdings). StandsFor f (with_all k files))
    (sym (after_begun h files are marks (all_of (finishing (map (λ f. f.name) files)))
    ∙ after_finishing now (with_all k files) (map (λ f. f.name) files) journaled counts []))
    (forgotten_stands now (with_all k files) (map (λ f. f.name) files) journaled counts)
