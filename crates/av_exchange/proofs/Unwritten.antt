-- What a crash leaves is as it was marked.
use Rattle.std.proofs.Common.{◌≡◌, ◌∙◌, ◌<◌, ap, sym, subst, refl, ℕ, zero, suc, List, [], ◌∷◌, Bool, true, false, cond, bytes_eq, Option, Some, None, is_some, length, map, option_map, slice_get}
use Rattle.std.specs.List.{AllByRecursion}
use Rattle.std.specs.Option.{option_or}
use Rattle.std.proofs.lemmas.Bool.{cases_Bool, cond-true, or_left, or_right, true≢false}
use Rattle.std.proofs.lemmas.Option.{none-some, same_Some, slice_get-map}
use Rattle.std.proofs.lemmas.Slice.Eq.{bytes_eq-Decides}
use mathlib.Core.Logic.{◌⊎◌, inl, inr}
use Rattle.av_sink.specs.Account.{NamedFile}
use Rattle.av_exchange.specs.Names.{IsBeside, IsRegionName, journal_name, journal_of, new_journal_name, part_of}
use Rattle.av_exchange.specs.Steps.{AreSomeOf, none, Holdings, IsCutOff, Moved, Removed, Step, Synced, after, after_all, during, ended, later, moved, with_name}
use Rattle.av_exchange.specs.Exchange.{IsStepBeside, bytes_under, is_listed, renamed, sweeping}
use Rattle.av_exchange.specs.Marks.{AreMarkedAnew, IsAsMarked, IsUnwritten, LeavesUnwritten, Marking, RepairLeavesUnwritten, as_marked, line_at, mark_line, unjournaled}
use Rattle.av_exchange.proofs.Own.{region_not_own}
use Rattle.av_exchange.proofs.Crash.{after_phase, all_some, one_or_none, some_all}
use Rattle.av_exchange.proofs.Beside.{other_journal, quiet}
use Rattle.av_exchange.proofs.Renamed.{IsRenaming, file_stays, part_goes, part_stays, committing, renaming_keeps_journal, some_renaming}
use Rattle.av_exchange.proofs.Repaired.{swept_beside}
use Rattle.av_exchange.proofs.Exchanged.{AreRegions, after_begun, all_region, as_named, begun, begun_is, listed_some, named_file, named_part, or_some, writing, writing_beside}

-- what has a name is as marked, and its new file, where it waits, has another mark
pub record IsSound (k : Marking) (g : Holdings) (name : List ℕ) (mark : Option (List ℕ)) : Type 0 where
  pub marked : IsAsMarked k g name mark
  pub anew : (bytes : List ℕ) → g (part_of name) ≡ Some bytes → ¬ (mark ≡ Some (k bytes))

-- ---- files take their names

-- where nothing is another under the two names
same_sound : (k : Marking) (g f : Holdings) (m : List ℕ) (mark : Option (List ℕ)) → f (part_of m) ≡ g (part_of m) → f m ≡ g m → IsSound k g m mark → IsSound k f m mark
same_sound k g f m mark parts files s = record {
  marked = (
    (λ waits. s.marked.0 (sym (ap is_some parts) ∙ waits) ∙ ap (λ (o : Option (List ℕ)). Some (mark_line (option_map k o))) (sym files)),
    (λ is. ap is_some parts ∙ s.marked.1 (is ∙ ap (λ (o : Option (List ℕ)). Some (mark_line (option_map k o))) files)),
  );
  anew = λ bytes is. s.anew bytes (sym parts ∙ is);
}

-- the new file of the name itself
own_sound : (k : Marking) (g : Holdings) (n : List ℕ) (mark : Option (List ℕ)) → IsRegionName n → IsSound k g n mark → (o : Option (List ℕ)) → o ≡ g (part_of n)
    → IsSound k (moved g (part_of n) n o) n mark
own_sound k g n mark r s None is = s
own_sound k g n mark r s (Some b) is =
    let gone = part_goes g n r (Some b) is in
    let there : moved g (part_of n) n (Some b) n ≡ Some b = cond-true (bytes_eq n n) (Some b) _ ((bytes_eq-Decides n n).1 refl) in
    record {
      marked = (
        (λ waits. absurd (true≢false (sym waits ∙ ap is_some gone))),
        (λ m. absurd (s.anew b (sym is) (m ∙ ap (λ (o : Option (List ℕ)). Some (mark_line (option_map k o))) there))),
      );
      anew = λ bytes held. absurd (none-some bytes (sym gone ∙ held));
    }

one_sound : (k : Marking) (g : Holdings) (m n : List ℕ) (mark : Option (List ℕ)) → IsRegionName m → IsRegionName n → IsSound k g m mark → IsSound k (after g (renamed n)) m mark
one_sound k g m n mark rm rn s = elim (cases_Bool (bytes_eq m n)) [
  | inl same ↦
      let is = (bytes_eq-Decides m n).0 same in
      subst (λ (x : List ℕ). IsSound k (after g (renamed n)) x mark) (sym is)
      (own_sound k g n mark rn (subst (λ (x : List ℕ). IsSound k g x mark) is s) (g (part_of n)) refl)
  | inr other ↦
      same_sound k g (after g (renamed n)) m mark (part_stays g n rn (g (part_of n)) m other)
      (file_stays g n rn (g (part_of n)) m (region_not_own m rm) other) s
]

all_sound : (k : Marking) (names : List (List ℕ)) (g : Holdings) (steps : List Step) (m : List ℕ) (mark : Option (List ℕ)) → IsRegionName m
    → AllByRecursion (IsRenaming names) steps → IsSound k g m mark → IsSound k (after_all g steps) m mark
all_sound k names g [] m mark r are s = s
all_sound k names g (step ∷ steps) m mark r are s = all_sound k names (after g step) steps m mark r are.1 (one are.0)
  where
    one : IsRenaming names step → IsSound k (after g step) m mark
    one (committing n rn listed is) = subst (λ (t : Step). IsSound k (after g t) m mark) (sym is) (one_sound k g m n mark r rn s)

region_at : (names : List (List ℕ)) (i : ℕ) (name : List ℕ) → AllByRecursion IsRegionName names → slice_get names i ≡ Some name → IsRegionName name
region_at [] i name are at = absurd (none-some name at)
region_at (n ∷ names) zero name are at = subst IsRegionName (same_Some _ _ at) are.0
region_at (n ∷ names) (suc i) name are at = region_at names i name are.1 at

-- ---- a journal that stands

module _ (k : Marking) (g : Holdings) (names marks : List (List ℕ)) (text : g journal_name ≡ Some (journal_of names marks)) (regions : AllByRecursion IsRegionName names)
    (sound : (i : ℕ) (name : List ℕ) → i < length names → slice_get names i ≡ Some name → IsSound k g name (slice_get marks i)) where
  renaming_unwritten : (left : List Step) → AreSomeOf left (map renamed names) → IsUnwritten k (after_all g left)
  renaming_unwritten left some =
      let are = some_renaming names left regions some in
      as_marked names marks (renaming_keeps_journal names g left are ∙ text) regions
      (λ i lt name at. (all_sound k names g left name (slice_get marks i) (region_at names i name regions at) are (sound i name lt at)).marked)

  forgotten : Holdings
  forgotten = with_name (after_all g (map renamed names)) journal_name None

  finishing_unwritten : (rest : List (List Step)) (left : List Step) → ((more : List Step) → IsCutOff rest more → IsUnwritten k (after_all forgotten more))
      → IsCutOff (map renamed names ∷ (Removed journal_name ∷ []) ∷ rest) left → IsUnwritten k (after_all g left)
  unfolding forgotten
  finishing_unwritten rest _ then (during _ _ left some) = renaming_unwritten left some
  finishing_unwritten rest _ then (later _ _ _ (during _ _ left some)) =
      subst (IsUnwritten k) (sym (after_phase g (map renamed names) left))
      (one_or_none (Removed journal_name) left (λ (l : List Step). IsUnwritten k (after_all (after_all g (map renamed names)) l)) some
      (renaming_unwritten (map renamed names) (all_some (map renamed names))) (unjournaled refl))
  finishing_unwritten rest _ then (later _ _ _ (later _ _ left cut)) =
      subst (IsUnwritten k) (sym (after_phase g (map renamed names) (Removed journal_name ∷ (Synced ∷ left)))) (then left cut)

  nothing_more : (more : List Step) → IsCutOff [] more → IsUnwritten k (after_all forgotten more)
  unfolding forgotten
  nothing_more _ ended = unjournaled refl

  nothing_swept : (gone : List (List ℕ)) → AllByRecursion IsBeside gone → (more : List Step) → IsCutOff (sweeping gone) more → IsUnwritten k (after_all forgotten more)
  unfolding forgotten
  nothing_swept gone are more cut = unjournaled (quiet forgotten more journal_name (swept_beside gone more are cut) other_journal)

pub repair_leaves_unwritten : RepairLeavesUnwritten
repair_leaves_unwritten k h names marks gone _ text regions are anew beside (during _ _ _ none) = as_marked names marks text regions are
repair_leaves_unwritten k h names marks gone _ text regions are anew beside (later _ _ left cut) =
    let sound : (i : ℕ) (name : List ℕ) → i < length names → slice_get names i ≡ Some name → IsSound k h name (slice_get marks i) =
    λ i name lt at. record { marked = are i lt name at; anew = λ bytes held. anew i name bytes at held } in
    finishing_unwritten k h names marks text regions sound (sweeping gone) left (nothing_swept k h names marks text regions sound gone beside) cut

-- ---- an exchange

under_more : (a : Option (List ℕ)) (c : Bool) (b d : List ℕ) → option_or a (cond c (Some b) None) ≡ Some d → (a ≡ Some d) ⊎ ((c ≡ true) × (b ≡ d))
under_more (Some x) c b d is = inl is
under_more None true b d is = inr (refl, same_Some _ _ is)
under_more None false b d is = absurd (none-some d is)

-- the bytes of a new file have another mark
under_anew : (k : Marking) (h : Holdings) (files : List NamedFile) (name d : List ℕ) → AreMarkedAnew k h files → bytes_under files name ≡ Some d
    → ¬ (k d ≡ line_at k h name)
under_anew k h [] name d anew is = absurd (none-some d is)
under_anew k h (f ∷ files) name d anew is = elim (under_more (bytes_under files name) (bytes_eq name f.name) f.bytes d is) [
  | inl before ↦ under_anew k h files name d anew.1 before
  | inr this ↦ λ same. anew.0 (ap k this.1 ∙ (same ∙ ap (line_at k h) ((bytes_eq-Decides name f.name).0 this.0)))
]

listed_at : (names : List (List ℕ)) (i : ℕ) (name : List ℕ) → slice_get names i ≡ Some name → is_listed names name ≡ true
listed_at [] i name at = absurd (none-some name at)
listed_at (n ∷ names) zero name at = or_left (bytes_eq name n) (is_listed names name) ((bytes_eq-Decides name n).1 (sym (same_Some _ _ at)))
listed_at (n ∷ names) (suc i) name at = or_right (bytes_eq name n) (is_listed names name) (listed_at names i name at)

abbrev names_in : List NamedFile → List (List ℕ)
names_in files = map (λ f. f.name) files

abbrev marks_in : Marking → Holdings → List NamedFile → List (List ℕ)
marks_in k h files = map (line_at k h) (map (λ f. f.name) files)

module _ (k : Marking) (h : Holdings) (files : List NamedFile) (are : AreRegions files) (anew : AreMarkedAnew k h files) where
  mark_at : (i : ℕ) (name : List ℕ) → slice_get (names_in files) i ≡ Some name → slice_get (marks_in k h files) i ≡ Some (line_at k h name)
  mark_at i name at = slice_get-map (line_at k h) (names_in files) i ∙ ap (option_map (line_at k h)) at

  named_sound : (i : ℕ) (name : List ℕ) → slice_get (names_in files) i ≡ Some name
      → IsSound k (as_named h files are (marks_in k h files)) name (slice_get (marks_in k h files) i)
  named_sound i name at =
      let r = region_at (names_in files) i name (all_region h files are (marks_in k h files) files are) at in
      let new = listed_some files name (listed_at (names_in files) i name at) in
      let waits = named_part h files are (marks_in k h files) name r ∙ or_some (bytes_under files name) (h (part_of name)) new.0 new.1 in
      let stays = named_file h files are (marks_in k h files) name (region_not_own name r) in
      record {
        marked = (
          (λ _. mark_at i name at ∙ ap (λ (o : Option (List ℕ)). Some (mark_line (option_map k o))) (sym stays)),
          (λ _. ap is_some waits),
        );
        anew = λ bytes held same. under_anew k h files name new.0 anew new.1
            (ap k (same_Some _ _ (sym waits ∙ held)) ∙ same_Some _ _ (sym same ∙ mark_at i name at));
      }

  begun_sound : (i : ℕ) (name : List ℕ) → i < length (names_in files) → slice_get (names_in files) i ≡ Some name
      → IsSound k (begun h files are (marks_in k h files)) name (slice_get (marks_in k h files) i)
  begun_sound i name lt at =
      subst (λ (f : Holdings). IsSound k f name (slice_get (marks_in k h files) i)) (sym (begun_is h files are (marks_in k h files))) (named_sound i name at)

  begun_text : begun h files are (marks_in k h files) journal_name ≡ Some (journal_of (names_in files) (marks_in k h files))
  unfolding as_named
  begun_text = ap (λ (f : Holdings). f journal_name) (begun_is h files are (marks_in k h files)) ∙ refl

  begun_regions : AllByRecursion IsRegionName (names_in files)
  begun_regions = all_region h files are (marks_in k h files) files are

pub leaves_unwritten : LeavesUnwritten
unfolding AreRegions begun writing
leaves_unwritten k h files _ free are anew (during _ _ left some) =
    unjournaled (quiet h left journal_name (some_all IsStepBeside left _ some (writing_beside h files are (marks_in k h files))) other_journal ∙ free)
leaves_unwritten k h files _ free are anew (later _ _ _ (during _ _ left some)) =
    let text = begun_text k h files are anew in
    let regions = begun_regions k h files are anew in
    let sound = begun_sound k h files are anew in
    subst (IsUnwritten k) (sym (after_phase h (writing h files are (marks_in k h files)) left))
    (one_or_none (Moved new_journal_name journal_name) left
    (λ (l : List Step). IsUnwritten k (after_all (after_all h (writing h files are (marks_in k h files))) l)) some
    (unjournaled (quiet h (writing h files are (marks_in k h files)) journal_name (writing_beside h files are (marks_in k h files)) other_journal ∙ free))
    (as_marked (names_in files) (marks_in k h files) text regions (λ i lt name at. (sound i name lt at).marked)))
leaves_unwritten k h files _ free are anew (later _ _ _ (later _ _ left cut)) =
    let now = begun h files are (marks_in k h files) in
    let text = begun_text k h files are anew in
    let regions = begun_regions k h files are anew in
    let sound = begun_sound k h files are anew in
    subst (IsUnwritten k) (sym (after_begun h files are (marks_in k h files) left))
    (finishing_unwritten k now (names_in files) (marks_in k h files) text regions sound [] left
    (nothing_more k now (names_in files) (marks_in k h files) text regions sound) cut)
