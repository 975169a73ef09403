-- The least of the faults that hold.
use Rattle.std.proofs.Common.{◌≡◌, ◌≢◌, ℕ, ◌<◌, ◌≤◌, Bool, true, false, true≢false, Option, Some, None, List, [], ◌∷◌, ◌++◌, length, nat_lt, refl, sym, ap, ◌∙◌, arith, min, if◌then◌else◌, lit≤, length-append}
use Rattle.std.proofs.lemmas.List.{append-nil}
use Rattle.std.proofs.lemmas.Bool.Decides.{nat_tests}
use Rattle.av_types.specs.Faults.{fault_number, least, lesser}
use Rattle.av_types.specs.declared.fault.Fault.{Fault}
use Rattle.av_types.specs.declared.fault.Fault.TheVariants.{OutOfMemory, TooManyStates}
use Rattle.std.specs.List.{flat_map, list_any}
use Rattle.std.proofs.lemmas.Grind.{flat_map-append}
use Rattle.av_types.specs.declared.position.Height.{Height}
use Rattle.av_tags.specs.Nbt.{Nbt, NamedTag}
use Rattle.av_document.specs.Chunk.{section_number, is_in_height, section_faults, section_states, block_states_of, block_faults}
use Rattle.av_state.specs.BlockState.{BlockState}
use Rattle.av_state.specs.StateList.{with_state, with_states, most_states, same_state}
use Rattle.av_section.specs.BlockStates.{when, states_faults, read_states}
use Rattle.av_section.specs.Reading.{IsStatesRefusal}
use Rattle.av_codec.specs.SectionsRead.{are_too_many, judged}

-- the least of some of these stays the least beside a greater one
capped : (a b c t : Bool) (n : ℕ) → least (when a 14 ++ when b 15 ++ when c 17) ≡ Some n → least ((when a 14 ++ when b 15 ++ when c 17) ++ when t 18) ≡ Some n
capped true true true true n e = e
capped true true true false n e = e
capped true true false true n e = e
capped true true false false n e = e
capped true false true true n e = e
capped true false true false n e = e
capped true false false true n e = e
capped true false false false n e = e
capped false true true true n e = e
capped false true true false n e = e
capped false true false true n e = e
capped false true false false n e = e
capped false false true true n e = e
capped false false true false n e = e
capped false false false true n e = cc
capped false false false false n e = cc

too_many_is : (table more : List BlockState) → most_states < length (with_states table more) → are_too_many table more ≡ true
too_many_is table more h = grind (arith, nat_tests)

-- what a section's reader answers is the least of the faults that hold, too many states among them
pub judged_of : (palette longs : Option Nbt) (old : List BlockState) (e : Fault) → IsStatesRefusal palette longs old e → e ≢ OutOfMemory
    → judged (states_faults palette longs) old (read_states palette) ≡ Some (fault_number e)
judged_of palette longs old OutOfMemory r ne = absurd (ne refl)
judged_of palette longs old TooManyStates r ne = rw (r.0, too_many_is old (read_states palette) r.1) refl
judged_of palette longs old e r ne = capped _ _ _ (are_too_many old (read_states palette)) _ r

-- ---- of several sections

abbrev meet : Option ℕ → Option ℕ → Option ℕ
meet None o = o
meet (Some a) o = Some (lesser a o)

meet_assoc : (a : ℕ) (m o : Option ℕ) → Some (lesser a (meet m o)) ≡ meet (Some (lesser a m)) o
meet_assoc a None o = refl
meet_assoc a (Some b) None = refl
meet_assoc a (Some b) (Some d) = ap Some (omega arith)

least-append : (xs ys : List ℕ) → least (xs ++ ys) ≡ meet (least xs) (least ys)
least-append [] ys = refl
least-append (x ∷ xs) ys = rw (least-append xs ys) (meet_assoc x (least xs) (least ys))

abbrev cap : Bool → Option ℕ
cap true = Some 18
cap false = None

cap_is : (t : Bool) → least (when t 18) ≡ cap t
cap_is true = refl
cap_is false = refl

judged_is : (faults : List ℕ) (table more : List BlockState) → judged faults table more ≡ meet (least faults) (cap (are_too_many table more))
judged_is faults table more = least-append faults (when (are_too_many table more) 18) ∙ ap (meet (least faults)) (cap_is (are_too_many table more))

-- no fault of a section comes after 17
abbrev IsEarly : Option ℕ → Type 0
IsEarly None = Unit {0}
IsEarly (Some n) = n ≤ 18

early_meet : (m o : Option ℕ) → IsEarly m → IsEarly o → IsEarly (meet m o)
early_meet None o p q = q
early_meet (Some a) None p q = p
early_meet (Some a) (Some b) p q = omega arith

early_states : (a b c : Bool) → IsEarly (least (when a 14 ++ when b 15 ++ when c 17))
early_states true true true = lit≤ tt
early_states true true false = lit≤ tt
early_states true false true = lit≤ tt
early_states true false false = lit≤ tt
early_states false true true = lit≤ tt
early_states false true false = lit≤ tt
early_states false false true = lit≤ tt
early_states false false false = tt

early_block : (b : Option (List NamedTag)) → IsEarly (least (block_faults b))
early_block None = tt
early_block (Some states) = early_states _ _ _

early_if : (t : Bool) (xs : List ℕ) → IsEarly (least xs) → IsEarly (least (if t then xs else []))
early_if true xs p = p
early_if false xs p = tt

early_section : (h : Height) (ms : List NamedTag) → IsEarly (least (section_faults h ms))
early_section h ms = early_if (is_in_height h (section_number ms)) _ (early_block (block_states_of ms))

early_rows : (h : Height) (rows : List (List NamedTag)) → IsEarly (least (flat_map (section_faults h) rows))
early_rows h [] = tt
early_rows h (ms ∷ rows) = rw (least-append (section_faults h ms) (flat_map (section_faults h) rows)) (early_meet _ _ (early_section h ms) (early_rows h rows))

-- the table only grows
length-with_state : (b : Bool) (t : List BlockState) (s : BlockState) → length t ≤ length (if b then t else t ++ s ∷ [])
length-with_state true t s = omega arith
length-with_state false t s = simp length-append (omega arith)

length-with_states : (t more : List BlockState) → length t ≤ length (with_states t more)
length-with_states t [] = omega arith
length-with_states t (s ∷ more) =
    let a = length-with_state (list_any (same_state s) t) t s in
    let b = length-with_states (with_state t s) more in
    omega arith

pub with_states-append : (t a b : List BlockState) → with_states t (a ++ b) ≡ with_states (with_states t a) b
with_states-append t [] b = refl
with_states-append t (s ∷ a) b = with_states-append (with_state t s) a b

still : (n m : ℕ) → n ≤ m → nat_lt most_states n ≡ true → nat_lt most_states m ≡ true
still n m h e = grind (arith, nat_tests)

more_too_many : (t a b : List BlockState) → are_too_many t a ≡ true → are_too_many t (a ++ b) ≡ true
more_too_many t a b e = rw (with_states-append t a b) (still _ _ (length-with_states (with_states t a) b) e)

-- one more section without a fault leaves the first fault
kept_first : (m : Option ℕ) (t u : Bool) (n : ℕ) → IsEarly m → (t ≡ true → u ≡ true) → meet m (cap t) ≡ Some n → meet m (cap u) ≡ Some n
kept_first m true true n p f e = e
kept_first m true false n p f e = absurd (true≢false (sym (f refl)))
kept_first m false false n p f e = e
kept_first None false true n p f e = cc
kept_first (Some a) false true n p f e = let i : a ≡ n = cc in ap Some (omega arith)

meet_none : (m : Option ℕ) → meet m None ≡ m
meet_none None = refl
meet_none (Some a) = refl

pub first_kept : (h : Height) (rows : List (List NamedTag)) (ms : List NamedTag) (old : List BlockState) (n : ℕ)
    → judged (flat_map (section_faults h) rows) old (flat_map (section_states h) rows) ≡ Some n → section_faults h ms ≡ []
    → judged (flat_map (section_faults h) (rows ++ ms ∷ [])) old (flat_map (section_states h) (rows ++ ms ∷ [])) ≡ Some n
first_kept h rows ms old n e f =
    let a = flat_map (section_faults h) rows in
    let s = flat_map (section_states h) rows in
    let u = flat_map (section_states h) (rows ++ ms ∷ []) in
    let states : u ≡ s ++ flat_map (section_states h) (ms ∷ []) = flat_map-append (section_states h) rows (ms ∷ []) in
    let grows : are_too_many old s ≡ true → are_too_many old u ≡ true = λ t. rw states (more_too_many old s _ t) in
    let same : least (flat_map (section_faults h) (rows ++ ms ∷ [])) ≡ least a =
    ap least (flat_map-append (section_faults h) rows (ms ∷ [])) ∙ (least-append a _ ∙ (ap (λ x. meet (least a) (least (x ++ []))) f ∙ meet_none (least a))) in
    judged_is _ old u ∙ rw same (kept_first (least a) (are_too_many old s) (are_too_many old u) n (early_rows h rows) grows (sym (judged_is a old s) ∙ e))

-- one more section with a fault: the lesser of both
lesser_of : (a b : Option ℕ) (t u x : Bool) (n m : ℕ) → IsEarly a → IsEarly b → (t ≡ true → u ≡ true) → meet a (cap t) ≡ Some n → meet b (cap x) ≡ Some m
    → meet (meet a b) (cap u) ≡ Some (min m n)
lesser_of None None true true true n m p q f d e = let i : 18 ≡ n = cc in let j : 18 ≡ m = cc in ap Some (omega arith)
lesser_of None None true true false n m p q f d e = cc
lesser_of None b true false x n m p q f d e = absurd (true≢false (sym (f refl)))
lesser_of None b false u x n m p q f d e = cc
lesser_of None (Some b) true true true n m p q f d e = let i : 18 ≡ n = cc in let j : min b 18 ≡ m = cc in ap Some (omega arith)
lesser_of None (Some b) true true false n m p q f d e = let i : 18 ≡ n = cc in let j : b ≡ m = cc in ap Some (omega arith)
lesser_of (Some a) None true true true n m p q f d e = let i : min a 18 ≡ n = cc in let j : 18 ≡ m = cc in ap Some (omega arith)
lesser_of (Some a) None false true true n m p q f d e = let i : a ≡ n = cc in let j : 18 ≡ m = cc in ap Some (omega arith)
lesser_of (Some a) None false false true n m p q f d e = let i : a ≡ n = cc in let j : 18 ≡ m = cc in ap Some (omega arith)
lesser_of (Some a) None t u false n m p q f d e = cc
lesser_of (Some a) b true false x n m p q f d e = absurd (true≢false (sym (f refl)))
lesser_of (Some a) (Some b) true true true n m p q f d e = let i : min a 18 ≡ n = cc in let j : min b 18 ≡ m = cc in ap Some (omega arith)
lesser_of (Some a) (Some b) true true false n m p q f d e = let i : min a 18 ≡ n = cc in let j : b ≡ m = cc in ap Some (omega arith)
lesser_of (Some a) (Some b) false true true n m p q f d e = let i : a ≡ n = cc in let j : min b 18 ≡ m = cc in ap Some (omega arith)
lesser_of (Some a) (Some b) false true false n m p q f d e = let i : a ≡ n = cc in let j : b ≡ m = cc in ap Some (omega arith)
lesser_of (Some a) (Some b) false false true n m p q f d e = let i : a ≡ n = cc in let j : min b 18 ≡ m = cc in ap Some (omega arith)
lesser_of (Some a) (Some b) false false false n m p q f d e = let i : a ≡ n = cc in let j : b ≡ m = cc in ap Some (omega arith)

pub first_lesser : (h : Height) (rows : List (List NamedTag)) (ms : List NamedTag) (old table : List BlockState) (n m : ℕ)
    → judged (flat_map (section_faults h) rows) old (flat_map (section_states h) rows) ≡ Some n → judged (section_faults h ms) table (section_states h ms) ≡ Some m
    → judged (flat_map (section_faults h) (rows ++ ms ∷ [])) old (flat_map (section_states h) (rows ++ ms ∷ [])) ≡ Some (min m n)
first_lesser h rows ms old table n m d e =
    let a = flat_map (section_faults h) rows in
    let s = flat_map (section_states h) rows in
    let u = flat_map (section_states h) (rows ++ ms ∷ []) in
    let states : u ≡ s ++ flat_map (section_states h) (ms ∷ []) = flat_map-append (section_states h) rows (ms ∷ []) in
    let grows : are_too_many old s ≡ true → are_too_many old u ≡ true = λ t. rw states (more_too_many old s _ t) in
    let both : least (flat_map (section_faults h) (rows ++ ms ∷ [])) ≡ meet (least a) (least (section_faults h ms)) =
    ap least (flat_map-append (section_faults h) rows (ms ∷ [])) ∙ (least-append a _ ∙ ap (λ x. meet (least a) (least x)) (append-nil (section_faults h ms))) in
    judged_is _ old u ∙ rw both (lesser_of (least a) (least (section_faults h ms)) (are_too_many old s) (are_too_many old u) (are_too_many table (section_states h ms)) n m
    (early_rows h rows) (early_section h ms) grows (sym (judged_is a old s) ∙ d) (sym (judged_is (section_faults h ms) table (section_states h ms)) ∙ e))

-- the first section that is refused, after others without a fault
pub first_of : (h : Height) (rows : List (List NamedTag)) (ms : List NamedTag) (old : List BlockState) (m : ℕ) → flat_map (section_faults h) rows ≡ []
    → judged (section_faults h ms) (with_states old (flat_map (section_states h) rows)) (section_states h ms) ≡ Some m
    → judged (flat_map (section_faults h) (rows ++ ms ∷ [])) old (flat_map (section_states h) (rows ++ ms ∷ [])) ≡ Some m
first_of h rows ms old m f e =
    let faults : flat_map (section_faults h) (rows ++ ms ∷ []) ≡ section_faults h ms =
    flat_map-append (section_faults h) rows (ms ∷ []) ∙ (ap (λ x. x ++ (section_faults h ms ++ [])) f ∙ append-nil (section_faults h ms)) in
    let states : flat_map (section_states h) (rows ++ ms ∷ []) ≡ flat_map (section_states h) rows ++ section_states h ms =
    flat_map-append (section_states h) rows (ms ∷ []) ∙ ap (λ x. flat_map (section_states h) rows ++ x) (append-nil (section_states h ms)) in
    let after = with_states-append old (flat_map (section_states h) rows) (section_states h ms) in
    rw (faults, states, after) e

-- the number 1 is that of memory alone
pub is_memory : (e : Fault) → fault_number e ≤ 1 → e ≡ OutOfMemory
is_memory OutOfMemory p = refl
is_memory e p = absurd (omega arith)

pub memory_first : (e f : Fault) (o : Option ℕ) → fault_number f ≡ lesser (fault_number e) o → f ≢ OutOfMemory → e ≢ OutOfMemory
memory_first e f None n nf m = let one : fault_number e ≡ 1 = ap fault_number m in nf (is_memory f (omega arith))
memory_first e f (Some k) n nf m = let one : fault_number e ≡ 1 = ap fault_number m in nf (is_memory f (omega arith))

pub memory_before : (e d f : Fault) → fault_number f ≡ lesser (fault_number e) (Some (fault_number d)) → f ≢ OutOfMemory → d ≢ OutOfMemory
memory_before e d f n nf m = let one : fault_number d ≡ 1 = ap fault_number m in nf (is_memory f (omega arith))
