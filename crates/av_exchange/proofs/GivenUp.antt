-- An exchange that is given up leaves the old files.
use Rattle.std.proofs.Common.{◌≡◌, ◌∙◌, ap, sym, subst, refl, ℕ, List, [], ◌∷◌, ◌++◌, false, bytes_eq, Option, Some, None, map}
use Rattle.std.specs.List.{AllByRecursion}
use Rattle.std.proofs.lemmas.Bool.{cond-false}
use mathlib.Core.Logic.{◌⊎◌, inl, inr}
use Rattle.av_sink.specs.Account.{NamedFile}
use Rattle.av_exchange.specs.Names.{is_own, journal_name, new_journal_name}
use Rattle.av_exchange.specs.Steps.{Holdings, Moved, Removed, Step, Synced, after_all, during, ended, later, with_name}
use Rattle.av_exchange.specs.Exchange.{GivenUpLeavesOld, GivenUpLeavesOldOrNew, IsStepBeside, StandsFor, with_all}
use Rattle.av_exchange.proofs.Own.{apart}
use Rattle.av_exchange.proofs.Crash.{after_phase, one_or_none, some_all}
use Rattle.av_exchange.proofs.Beside.{beside_keeps, plain_stands, stands_plain}
use Rattle.av_exchange.proofs.Exchanged.{AreRegions, after_begun, begun, begun_is, begun_stands, named_file, writing, writing_beside}

-- once the journal is gone again
taken_back : (h k : Holdings) (files : List NamedFile) (are : AreRegions files) (marks : List (List ℕ)) → ((m : List ℕ) → is_own m ≡ false → k m ≡ h m)
    → StandsFor (with_name (begun h files are marks) journal_name None) k
taken_back h k files are marks is =
    stands_plain (with_name (begun h files are marks) journal_name None) k refl
    (λ m own. is m own ∙ sym (cond-false (bytes_eq m journal_name) None (begun h files are marks m) (apart m journal_name own refl)
    ∙ (ap (λ (f : Holdings). f m) (begun_is h files are marks) ∙ named_file h files are marks m own)))

pub given_up_leaves_old_or_new : GivenUpLeavesOldOrNew
unfolding AreRegions begun writing
given_up_leaves_old_or_new h k files marks _ free are s (during _ _ left some) =
    inl (beside_keeps h k left free (some_all IsStepBeside left _ some (writing_beside h files are marks)) s)
given_up_leaves_old_or_new h k files marks _ free are s (later _ _ _ (during _ _ left some)) =
    let is = plain_stands h k free s in
    subst (λ (f : Holdings). StandsFor f k ⊎ StandsFor f (with_all k files)) (sym (after_phase h (writing h files are marks) left))
    (one_or_none (Moved new_journal_name journal_name) left
    (λ (l : List Step). StandsFor (after_all (after_all h (writing h files are marks)) l) k ⊎ StandsFor (after_all (after_all h (writing h files are marks)) l) (with_all k files)) some
    (inl (beside_keeps h k (writing h files are marks) free (writing_beside h files are marks) s))
    (inr (begun_stands h files are marks k is)))
given_up_leaves_old_or_new h k files marks _ free are s (later _ _ _ (later _ _ _ (during _ _ left some))) =
    let is = plain_stands h k free s in
    subst (λ (f : Holdings). StandsFor f k ⊎ StandsFor f (with_all k files)) (sym (after_begun h files are marks left))
    (one_or_none (Removed journal_name) left
    (λ (l : List Step). StandsFor (after_all (begun h files are marks) l) k ⊎ StandsFor (after_all (begun h files are marks) l) (with_all k files)) some
    (inr (begun_stands h files are marks k is)) (inl (taken_back h k files are marks is)))
given_up_leaves_old_or_new h k files marks _ free are s (later _ _ _ (later _ _ _ (later _ _ _ ended))) =
    inl (subst (λ (f : Holdings). StandsFor f k) (sym (after_begun h files are marks (Removed journal_name ∷ (Synced ∷ []))))
    (taken_back h k files are marks (plain_stands h k free s)))

pub given_up_leaves_old : GivenUpLeavesOld
unfolding AreRegions begun
given_up_leaves_old h k files marks free are s =
    subst (λ (f : Holdings). StandsFor f k) (sym (after_begun h files are marks (Removed journal_name ∷ (Synced ∷ []))))
    (taken_back h k files are marks (plain_stands h k free s))
