-- Loops over files that take their names, and over names.
use Rattle.std.proofs.Common.{◌≡◌, ◌∙◌, ◌<◌, ◌+◌, ap, ap₂, sym, subst, refl, ℕ, zero, suc, List, [], ◌∷◌, ◌++◌, append_assoc, length, map, take, get_or, add-one, Option, Some, None, String, Global, Bool, true, false, option_map, string_bytes}
use Rattle.std.proofs.lemmas.Option.{none-some}
use mathlib.Core.Logic.{inl, inr}
use Rattle.std.proofs.Math.Seq.{take-suc}
use Rattle.std.proofs.lemmas.List.{map-append}
use Rattle.std.specs.List.{AllByRecursion}
use Rattle.av_sink.specs.declared.sink.Repair.{Repair}
use Rattle.av_exchange.specs.Steps.{AreSomeOf, none, kept, History, Holdings, IfTold, after_all, IsCutOff, ended, during, later, Moved, Removed, Synced, Written, Step, all_of, with_steps}
use Rattle.av_exchange.specs.Exchange.{IsJournaled, closing, recording, renamed, repairing, sweeping}
use Rattle.av_exchange.specs.Names.{IsRegionName, journal_name, journal_of, lines_of, new_journal, new_journal_name}
use Rattle.av_exchange.specs.Outcomes.{HasStopped, IsBesideAlone, IsFinished, IsMovedInPart, IsRenamedInPart, IsUnnamed, IsUnrecorded, IsRepaired, IsSettledInPart, IsSwept, IsSweepStopped, IsUnrepaired, in_part, name_of, stopped, unsynced}
use Rattle.av_exchange.specs.declared.moves.Move.{Move}
use Rattle.av_exchange.proofs.Crash.{after_both, all_some, none_some}
use Rattle.av_exchange.proofs.History.{no_steps, then_steps}

-- what a function makes of one element more
pub one_more : {X Y : Type 0} (f : X → Y) (xs : List X) (i : ℕ) (x : X) → i < length xs → x ≡ get_or xs i x → map f (take (i + 1) xs) ≡ map f (take i xs) ++ f x ∷ []
one_more f xs i x lt is =
    ap (λ (n : ℕ). map f (take n xs)) (add-one i)
    ∙ (ap (map f) (take-suc xs i x lt)
    ∙ (map-append f (take i xs) (get_or xs i x ∷ []) ∙ ap (λ (y : _). map f (take i xs) ++ f y ∷ []) (sym is)))

pub one_more_renamed : (moves : List Move) (i : ℕ) (m : Move) → i < length moves → m ≡ get_or moves i m
    → map renamed (map name_of (take (i + 1) moves)) ≡ map renamed (map name_of (take i moves)) ++ renamed (name_of m) ∷ []
one_more_renamed moves i m lt is =
    ap (map renamed) (one_more name_of moves i m lt is) ∙ map-append renamed (map name_of (take i moves)) (name_of m ∷ [])

pub first_renamed : (n : ℕ) (moves : List Move) → AreSomeOf (map renamed (map name_of (take n moves))) (map renamed (map name_of moves))
first_renamed zero moves = none_some _
first_renamed (suc n) [] = none
first_renamed (suc n) (m ∷ moves) = kept (renamed (name_of m)) _ _ (first_renamed n moves)

-- a new file's own step, by the names that were passed
pub renamed_by : (m : Move) (part name : List ℕ) → part ≡ string_bytes m.part → name ≡ string_bytes m.name → Moved part name ≡ renamed (name_of m)
renamed_by m part name parts names = ap₂ Moved (parts ∙ m.beside) names

-- ---- what was stopped

pub stopped_moving : (names : List (List ℕ)) (old new : Option History) → IsSettledInPart names old new → HasStopped (repairing (Some names) []) old new
stopped_moving names old new (unsynced same) = record { left = []; cut_off = during [] _ [] none; steps = same ∙ no_steps old }
stopped_moving names old new (in_part left some is) = record { left = Synced ∷ left; cut_off = later [] _ left (during _ _ left some); steps = is }

pub stopped_closing : (names : List (List ℕ)) (old mid new : Option History) → mid ≡ with_steps old (Synced ∷ all_of (map renamed names ∷ [])) → HasStopped closing mid new
    → HasStopped (repairing (Some names) []) old new
stopped_closing names old mid new first part = record {
  left = Synced ∷ (map renamed names ++ (Synced ∷ part.left));
  cut_off = later [] _ _ (later _ _ _ part.cut_off);
  steps = then_steps old mid new (Synced ∷ (map renamed names ++ (Synced ∷ []))) part.left first part.steps
      ∙ ap (λ (l : List Step). with_steps old (Synced ∷ l)) (append_assoc (map renamed names) (Synced ∷ []) part.left);
}

pub all_finished : (names : List (List ℕ)) (old mid new : Option History) → mid ≡ with_steps old (Synced ∷ all_of (map renamed names ∷ []))
    → new ≡ with_steps mid (all_of closing) → new ≡ with_steps old (all_of (repairing (Some names) []))
all_finished names old mid new first next =
    then_steps old mid new (Synced ∷ (map renamed names ++ (Synced ∷ []))) (all_of closing) first next
    ∙ ap (λ (l : List Step). with_steps old (Synced ∷ l)) (append_assoc (map renamed names) (Synced ∷ []) (all_of closing))

-- one more of the files took its name, or not
pub one_in_part : (old mid new : Option History) (moves : List Move) (i : ℕ) (m : Move) → i < length moves → m ≡ get_or moves i m
    → mid ≡ with_steps old (map renamed (map name_of (take i moves))) → IsRenamedInPart (name_of m) mid new → IsMovedInPart (map name_of moves) old new
one_in_part old mid new moves i m lt is before last = elim last [
  | inl same ↦ record { left = map renamed (map name_of (take i moves)); some = first_renamed i moves; steps = same ∙ before }
  | inr moved ↦ record {
    left = map renamed (map name_of (take (i + 1) moves));
    some = first_renamed (i + 1) moves;
    steps = subst (λ (steps : List Step). new ≡ with_steps old steps) (sym (one_more_renamed moves i m lt is))
        (then_steps old mid new (map renamed (map name_of (take i moves))) (renamed (name_of m) ∷ []) before moved);
  }
]

-- ---- an exchange and its journal

-- the journal did not get its name
unnamed_beside : (old mid new : Option History) (text : List ℕ) → mid ≡ with_steps old (Written new_journal_name text ∷ Synced ∷ []) → IsUnnamed mid new false
    → IsBesideAlone old new
unnamed_beside None mid new text wrote not = record {
  left = [];
  beside = tt;
  steps = elim not.tried [
    | inl same ↦ same ∙ wrote
    | inr moved ↦ moved ∙ ap (λ (t : Option History). with_steps t (Moved new_journal_name journal_name ∷ [])) wrote
  ];
}
unnamed_beside (Some t) mid new text wrote not = elim not.tried [
  | inl same ↦ record { left = Written new_journal_name text ∷ Synced ∷ []; beside = (new_journal refl, (tt, tt)); steps = same ∙ wrote }
  | inr moved ↦
      let all = then_steps (Some t) mid new (Written new_journal_name text ∷ Synced ∷ []) (Moved new_journal_name journal_name ∷ []) wrote moved in
      let free : after_all t.first (t.steps ++ Written new_journal_name text ∷ Synced ∷ Moved new_journal_name journal_name ∷ []) journal_name ≡ None =
      subst (λ (o : Option History). IfTold o (λ h. h journal_name ≡ None)) all (not.unbegun refl) in
      let there = ap (λ (h : Holdings). h journal_name) (after_both t.first t.steps (Written new_journal_name text ∷ Synced ∷ Moved new_journal_name journal_name ∷ [])) in
      absurd (none-some text (sym free ∙ there))
]

named_stopped : (old mid new : Option History) (text : List ℕ) → mid ≡ with_steps old (Written new_journal_name text ∷ Synced ∷ [])
    → new ≡ with_steps mid (Moved new_journal_name journal_name ∷ []) → HasStopped (recording text) old new
named_stopped old mid new text wrote moved = record {
  left = Written new_journal_name text ∷ Synced ∷ Moved new_journal_name journal_name ∷ [];
  cut_off = later _ _ _ (during _ _ _ (all_some _));
  steps = then_steps old mid new (Written new_journal_name text ∷ Synced ∷ []) (Moved new_journal_name journal_name ∷ []) wrote moved;
}

-- it may have it
unnamed_stopped : (old mid new : Option History) (text : List ℕ) → mid ≡ with_steps old (Written new_journal_name text ∷ Synced ∷ []) → IsUnnamed mid new true
    → HasStopped (recording text) old new
unnamed_stopped old mid new text wrote not = elim not.tried [
  | inl same ↦ record { left = Written new_journal_name text ∷ Synced ∷ []; cut_off = later _ _ _ (during _ _ _ (none_some _)); steps = same ∙ wrote }
  | inr moved ↦ named_stopped old mid new text wrote moved
]

pub unrecorded : (old mid new : Option History) (text : List ℕ) (begun : Bool) → mid ≡ with_steps old (Written new_journal_name text ∷ Synced ∷ [])
    → IsUnnamed mid new begun → IsUnrecorded text old new begun
unrecorded old mid new text false wrote not = unnamed_beside old mid new text wrote not
unrecorded old mid new text true wrote not = unnamed_stopped old mid new text wrote not

-- files behind it were moved in part
pub moved_stopped : (names : List (List ℕ)) (old new : Option History) → IsMovedInPart names old new → HasStopped (map renamed names ∷ []) old new
moved_stopped names old new part = record { left = part.left; cut_off = during _ _ part.left part.some; steps = part.steps }

pub sweep_part : (names : List (List ℕ)) (left : List Step) → AreSomeOf left (map Removed names) → IsCutOff (sweeping names) left
sweep_part [] _ none = ended
sweep_part (n ∷ names) left some = during _ [] left some

pub first_removed : (n : ℕ) (names : List (String Global)) → AreSomeOf (map Removed (map string_bytes (take n names))) (map Removed (map string_bytes names))
first_removed zero names = none_some _
first_removed (suc n) [] = none
first_removed (suc n) (m ∷ names) = kept (Removed (string_bytes m)) _ _ (first_removed n names)

pub one_more_removed : (names : List (String Global)) (i : ℕ) (m : String Global) → i < length names → m ≡ get_or names i m
    → map Removed (map string_bytes (take (i + 1) names)) ≡ map Removed (map string_bytes (take i names)) ++ Removed (string_bytes m) ∷ []
one_more_removed names i m lt is =
    ap (map Removed) (one_more string_bytes names i m lt is) ∙ map-append Removed (map string_bytes (take i names)) (string_bytes m ∷ [])

behind : (journal : Option (List (List ℕ))) (gone : List (List ℕ)) (left : List Step) → IsCutOff (sweeping gone) left
    → IsCutOff (repairing journal gone) (all_of (repairing journal []) ++ left)
behind None gone left cut = cut
behind (Some names) gone left cut =
    later [] _ _ (subst (IsCutOff (map renamed names ∷ (Removed journal_name ∷ []) ∷ sweeping gone))
    (sym (append_assoc (map renamed names) (Synced ∷ Removed journal_name ∷ Synced ∷ []) left)) (later _ _ _ (later _ _ left cut)))

pub stopped_sweeping : (old mid new : Option History) (finished : Option ℕ) → IsFinished old mid finished → IsSweepStopped mid new → IsUnrepaired old new
stopped_sweeping old mid new finished done part =
    stopped done.journal part.gone done.journaled part.beside (record {
      left = all_of (repairing done.journal []) ++ part.stopped.left;
      cut_off = behind done.journal part.gone part.stopped.left part.stopped.cut_off;
      steps = then_steps old mid new (all_of (repairing done.journal [])) part.stopped.left done.steps part.stopped.steps;
    })

all_behind : (journal : Option (List (List ℕ))) (gone : List (List ℕ)) → all_of (repairing journal []) ++ all_of (sweeping gone) ≡ all_of (repairing journal gone)
all_behind None gone = refl
all_behind (Some names) gone =
    ap (λ (l : List Step). Synced ∷ l) (append_assoc (map renamed names) (Synced ∷ Removed journal_name ∷ Synced ∷ []) (all_of (sweeping gone)))

pub repaired_all : (old mid new : Option History) (finished : Option ℕ) (removed : ℕ) (r : Repair) → r.finished ≡ finished → r.removed ≡ removed
    → IsFinished old mid finished → IsSwept mid new removed → IsRepaired old new r
repaired_all old mid new finished removed r fin rem done swept = record {
  journal = done.journal;
  gone = swept.gone;
  journaled = done.journaled;
  beside = swept.beside;
  steps = then_steps old mid new (all_of (repairing done.journal [])) (all_of (sweeping swept.gone)) done.steps swept.steps
      ∙ ap (with_steps old) (all_behind done.journal swept.gone);
  finished = fin ∙ done.count;
  removed = rem ∙ swept.count;
}

lines_more : (texts : List (List ℕ)) (text : List ℕ) → lines_of (texts ++ text ∷ []) ≡ lines_of texts ++ (text ++ (10 ∷ []))
lines_more [] text = refl
lines_more (t ∷ texts) text =
    ap (λ (l : List ℕ). t ++ (10 ∷ l)) (lines_more texts text) ∙ sym (append_assoc t (10 ∷ lines_of texts) (text ++ (10 ∷ [])))

-- ---- what a folder has under the journal's name

pub told_none : (t : Option History) (text : Option (String Global)) → text ≡ None → IfTold t (λ h. h journal_name ≡ option_map string_bytes text)
    → IfTold t (λ h. IsJournaled h None)
told_none None text is told = tt
told_none (Some t) text is told = told ∙ ap (option_map string_bytes) is

pub told_journal : (t : Option History) (text : Option (String Global)) (s : String Global) (bytes : List ℕ) (names marks : List (List ℕ)) → text ≡ Some s
    → bytes ≡ string_bytes s → bytes ≡ journal_of names marks → AllByRecursion IsRegionName names → IfTold t (λ h. h journal_name ≡ option_map string_bytes text)
    → IfTold t (λ h. IsJournaled h (Some names))
told_journal None text s bytes names marks is same journal all told = tt
told_journal (Some t) text s bytes names marks is same journal all told = record {
  marks = marks;
  text = told ∙ (ap (option_map string_bytes) is ∙ ap Some (sym same ∙ journal));
  regions = all;
}

-- one line more behind a text
pub text_more : (text : List ℕ) (lines : List (String Global)) (i : ℕ) (m : String Global) (old mid new : List ℕ) → i < length lines → m ≡ get_or lines i m
    → old ≡ text ++ lines_of (map string_bytes (take i lines)) → mid ≡ old ++ string_bytes m → new ≡ mid ++ (10 ∷ [])
    → new ≡ text ++ lines_of (map string_bytes (take (i + 1) lines))
text_more text lines i m old mid new lt is before put closed =
    let first = lines_of (map string_bytes (take i lines)) in
    closed ∙ (ap (λ (t : List ℕ). t ++ (10 ∷ [])) (put ∙ ap (λ (t : List ℕ). t ++ string_bytes m) before)
    ∙ (append_assoc (text ++ first) (string_bytes m) (10 ∷ [])
    ∙ (append_assoc text first (string_bytes m ++ (10 ∷ []))
    ∙ ap (λ (l : List ℕ). text ++ l)
    (sym (lines_more (map string_bytes (take i lines)) (string_bytes m)) ∙ ap lines_of (sym (one_more string_bytes lines i m lt is))))))

-- one more behind others, which is as they are
pub one_behind : (P : List ℕ → Type 0) (names : List (List ℕ)) (name : List ℕ) → AllByRecursion P names → P name → AllByRecursion P (names ++ name ∷ [])
one_behind P [] name all p = (p, tt)
one_behind P (n ∷ names) name all p = (all.0, one_behind P names name all.1 p)

pub all_more : (P : List ℕ → Type 0) (names : List (String Global)) (m : String Global) (new : List (String Global)) → new ≡ names ++ m ∷ []
    → AllByRecursion P (map string_bytes names) → P (string_bytes m) → AllByRecursion P (map string_bytes new)
all_more P names m new is all p =
    subst (AllByRecursion P) (sym (ap (map string_bytes) is ∙ map-append string_bytes names (m ∷ []))) (one_behind P (map string_bytes names) (string_bytes m) all p)
