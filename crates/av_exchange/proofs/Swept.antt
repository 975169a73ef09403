-- A sweep leaves no file beside.
use Rattle.std.proofs.Common.{◌≡◌, ◌∙◌, ap, sym, subst, refl, arith, ℕ, List, [], ◌∷◌, ◌++◌, append-nil, append_assoc, Bool, true, false, ◌||◌, bytes_eq, nat_eq, length, Option, Some, None, map, string_bytes, String, Global}
use Rattle.std.specs.List.{AllByRecursion, Contains}
use Rattle.std.proofs.lemmas.Bool.{cases_Bool, cond-true, cond-false, eqb-true, or_left, or_right, true≢false}
use Rattle.std.proofs.lemmas.Slice.Eq.{bytes_eq-Decides}
use Rattle.std.proofs.lemmas.List.{map-append}
use Rattle.std.proofs.lemmas.List.Elements.{All-contains, All-from_recursion}
use Rattle.av_types.proofs.Each.{each_then}
use mathlib.Core.Logic.{inl, inr}
use Rattle.av_exchange.specs.Exchange.{is_listed}
use Rattle.av_exchange.specs.Names.{IsBeside}
use Rattle.av_exchange.specs.Outcomes.{AreAllBeside, HoldsNoneBeside}
use Rattle.av_exchange.specs.Steps.{History, Holdings, IfTold, Step, Removed, Synced, after, after_all, held, with_steps}
use Rattle.av_exchange.proofs.Crash.{after_both}
use Rattle.av_exchange.proofs.History.{no_steps, then_steps}

-- ---- names that a loop has seen, and those that are left

all_themselves : (names : List (List ℕ)) → AreAllBeside names names
all_themselves [] = tt
all_themselves (n ∷ names) = (
  (λ b. or_left (bytes_eq n n) (is_listed names n) ((bytes_eq-Decides n n).1 refl)),
  each_then (λ x. IsBeside x → is_listed names x ≡ true) (λ x. IsBeside x → is_listed (n ∷ names) x ≡ true) (λ x is b. or_right (bytes_eq x n) (is_listed names x) (is b)) names (all_themselves names),
)

without : (a b : List (List ℕ)) (n x : List ℕ) → bytes_eq x n ≡ false → is_listed (a ++ n ∷ b) x ≡ is_listed (a ++ b) x
without [] b n x other = ap (λ (t : Bool). t || is_listed b x) other
without (y ∷ a) b n x other = ap (λ (t : Bool). bytes_eq x y || t) (without a b n x other)

-- one that is not beside may be left out
all_without : (names a b : List (List ℕ)) (n : List ℕ) → (IsBeside n → ⊥) → AreAllBeside names (a ++ n ∷ b) → AreAllBeside names (a ++ b)
all_without names a b n never all =
    each_then (λ x. IsBeside x → is_listed (a ++ n ∷ b) x ≡ true) (λ x. IsBeside x → is_listed (a ++ b) x ≡ true) (λ x is beside. elim (cases_Bool (bytes_eq x n)) [
      | inl same ↦ absurd (never (subst IsBeside ((bytes_eq-Decides x n).0 same) beside))
      | inr other ↦ sym (without a b n x other) ∙ is beside
    ]) names all

all_in_front : (names a b : List (List ℕ)) (n : List ℕ) → AreAllBeside names (a ++ n ∷ b) → AreAllBeside names ((a ++ n ∷ []) ++ b)
all_in_front names a b n all = subst (AreAllBeside names) (sym (append_assoc a (n ∷ []) b)) all

pub all_seen : (names a : List (List ℕ)) → AreAllBeside names (a ++ []) → AreAllBeside names a
all_seen names a all = subst (AreAllBeside names) (append-nil a) all

pub all_first : (names rest beside : List (String Global)) → beside ≡ [] → rest ≡ names
    → AllByRecursion IsBeside (map string_bytes beside) × AreAllBeside (map string_bytes names) (map string_bytes beside ++ map string_bytes rest)
all_first names rest beside none same = (
  subst (λ (xs : List (String Global)). AllByRecursion IsBeside (map string_bytes xs)) (sym none) tt,
  subst (λ (xs : List (String Global)). AreAllBeside (map string_bytes names) (map string_bytes xs ++ map string_bytes rest)) (sym none)
      (subst (λ (xs : List (String Global)). AreAllBeside (map string_bytes names) (map string_bytes xs)) (sym same) (all_themselves (map string_bytes names))),
)

pub one_kept : (names beside more rest later : List (String Global)) (m : String Global) → rest ≡ m ∷ later → more ≡ beside ++ m ∷ []
    → AreAllBeside (map string_bytes names) (map string_bytes beside ++ map string_bytes rest)
    → AreAllBeside (map string_bytes names) (map string_bytes more ++ map string_bytes later)
one_kept names beside more rest later m is pushed all =
    subst (λ (xs : List (List ℕ)). AreAllBeside (map string_bytes names) (xs ++ map string_bytes later))
    (sym (ap (map string_bytes) pushed ∙ map-append string_bytes beside (m ∷ [])))
    (all_in_front (map string_bytes names) (map string_bytes beside) (map string_bytes later) (string_bytes m)
    (subst (λ (xs : List (String Global)). AreAllBeside (map string_bytes names) (map string_bytes beside ++ map string_bytes xs)) is all))

pub one_passed : (names beside rest later : List (String Global)) (m : String Global) → rest ≡ m ∷ later → (IsBeside (string_bytes m) → ⊥)
    → AreAllBeside (map string_bytes names) (map string_bytes beside ++ map string_bytes rest)
    → AreAllBeside (map string_bytes names) (map string_bytes beside ++ map string_bytes later)
one_passed names beside rest later m is never all =
    all_without (map string_bytes names) (map string_bytes beside) (map string_bytes later) (string_bytes m) never
    (subst (λ (xs : List (String Global)). AreAllBeside (map string_bytes names) (map string_bytes beside ++ map string_bytes xs)) is all)

-- ---- what is removed is gone

gone_stays : (names : List (List ℕ)) (h : Holdings) (n : List ℕ) → h n ≡ None → after_all h (map Removed names) n ≡ None
gone_stays [] h n free = free
gone_stays (m ∷ names) h n free = gone_stays names (after h (Removed m)) n (elim (cases_Bool (bytes_eq n m)) [
  | inl same ↦ cond-true (bytes_eq n m) None (h n) same
  | inr other ↦ cond-false (bytes_eq n m) None (h n) other ∙ free
])

listed_goes : (names : List (List ℕ)) (h : Holdings) (n : List ℕ) → is_listed names n ≡ true → after_all h (map Removed names) n ≡ None
listed_goes [] h n listed = absurd (true≢false (sym listed))
listed_goes (m ∷ names) h n listed = elim (cases_Bool (bytes_eq n m)) [
  | inl same ↦ gone_stays names (after h (Removed m)) n (cond-true (bytes_eq n m) None (h n) same)
  | inr other ↦ listed_goes names (after h (Removed m)) n (sym (ap (λ (t : Bool). t || is_listed names n) other) ∙ listed)
]

none_left : (h : Holdings) (names gone : List (List ℕ)) → ((n bytes : List ℕ) → h n ≡ Some bytes → Contains names n) → AreAllBeside names gone
    → (n : List ℕ) → IsBeside n → (file : Option (List ℕ)) → h n ≡ file → after_all h (map Removed gone) n ≡ None
none_left h names gone told all n beside None is = gone_stays gone h n is
none_left h names gone told all n beside (Some bytes) is =
    listed_goes gone h n (All-contains (λ x. IsBeside x → is_listed gone x ≡ true) names n (All-from_recursion (λ x. IsBeside x → is_listed gone x ≡ true) names all) (told n bytes is) beside)

pub none_beside : (old new : Option History) (names gone : List (List ℕ)) (left : List Step)
    → IfTold old (λ h. (n bytes : List ℕ) → h n ≡ Some bytes → Contains names n) → AreAllBeside names gone
    → new ≡ with_steps old left → ((h : Holdings) → after_all h left ≡ after_all h (map Removed gone)) → IfTold new HoldsNoneBeside
none_beside None new names gone left told all is same = subst (λ (t : Option History). IfTold t HoldsNoneBeside) (sym is) tt
none_beside (Some t) new names gone left told all is same =
    subst (λ (t : Option History). IfTold t HoldsNoneBeside) (sym is)
    (λ n beside. ap (λ (h : Holdings). h n) (after_both t.first t.steps left ∙ same (held t))
    ∙ none_left (held t) names gone told all n beside (held t n) refl)

-- the names were removed, and then the folder was synced
pub none_behind : (old mid new : Option History) (names gone removed : List (List ℕ))
    → IfTold old (λ h. (n bytes : List ℕ) → h n ≡ Some bytes → Contains names n) → AreAllBeside names gone
    → removed ≡ gone → mid ≡ with_steps old (map Removed removed) → new ≡ with_steps mid (Synced ∷ []) → IfTold new HoldsNoneBeside
none_behind old mid new names gone removed told all same first next =
    none_beside old new names gone (map Removed gone ++ Synced ∷ []) told all
    (then_steps old mid new (map Removed gone) (Synced ∷ []) (first ∙ ap (λ (ns : List (List ℕ)). with_steps old (map Removed ns)) same) next)
    (λ h. after_both h (map Removed gone) (Synced ∷ []))

-- there were none
pub none_at_all : (old : Option History) (names : List (List ℕ)) (beside : List (String Global)) (n : ℕ)
    → IfTold old (λ h. (n bytes : List ℕ) → h n ≡ Some bytes → Contains names n) → AreAllBeside names (map string_bytes beside)
    → n ≡ length beside → nat_eq n 0 ≡ true → IfTold old HoldsNoneBeside
none_at_all old names [] n told all len empty = none_beside old old names [] [] told all (no_steps old) (λ h. refl)
none_at_all old names (b ∷ beside) n told all len empty = let zero_is : n ≡ 0 = eqb-true n 0 empty in absurd (omega arith)
