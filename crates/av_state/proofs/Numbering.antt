-- Numbering states one after the other.
use Rattle.std.proofs.Common.{◌≡◌, ℕ, zero, suc, ◌+◌, ◌-◌, ◌<◌, ◌≤◌, List, [], ◌∷◌, ◌++◌, length, take, drop, map, Bool, true, false, ◌||◌, Option, Some, None, option_map, option_and_then, IfSome, Result, Ok, Err, OnOk, OnErr, cond, refl, ap, ◌∙◌, sym, arith, subst, length-append}
use Rattle.std.specs.List.{list_any, slice_get}
use Rattle.std.specs.Str.{bytes_eq}
use Rattle.std.specs.Cmp.Lexicographic.{pointwise}
use Rattle.std.proofs.lemmas.Slice.Eq.{bytes_eq-Decides, slice_eq-Decides}
use Rattle.std.proofs.lemmas.Bool.{and_parts, false≢true, and_from}
use Rattle.std.specs.Bool.{Decides}
use Rattle.std.proofs.lemmas.Option.{none-some, same_Some, slice_get_within}
use Rattle.std.proofs.lemmas.List.{take-append-drop, take-append-le, length-take, map-append}
use Rattle.av_state.specs.BlockState.{Property, BlockState, air, water, meant}
use Rattle.av_state.specs.StateList.{same_property, same_state, first_states, most_states, number_in, with_state, with_states, IsStateList, Numbers, IsOneTooMany}

property-Decides : (p q : Property) → Decides (same_property p q) (p ≡ q)
property-Decides p q = (
  (λ h. let (k, v) = and_parts (bytes_eq p.key q.key) (bytes_eq p.value q.value) h in
      let e : p.key ≡ q.key = (bytes_eq-Decides p.key q.key).0 k in
      let f : p.value ≡ q.value = (bytes_eq-Decides p.value q.value).0 v in
      λ i. record { key = e i; value = f i }),
  (λ e. and_from _ _ ((bytes_eq-Decides p.key q.key).1 (ap (λ (x : Property). x.key) e)) ((bytes_eq-Decides p.value q.value).1 (ap (λ (x : Property). x.value) e))),
)

pub state-Decides : (s t : BlockState) → Decides (same_state s t) (s ≡ t)
state-Decides s t =
    let lists = slice_eq-Decides property-Decides s.properties t.properties (pointwise same_property s.properties t.properties) refl in (
      (λ h. let (k, v) = and_parts (bytes_eq s.name t.name) (pointwise same_property s.properties t.properties) h in
          let e : s.name ≡ t.name = (bytes_eq-Decides s.name t.name).0 k in
          let f : s.properties ≡ t.properties = lists.0 v in
          λ i. record { name = e i; properties = f i }),
      (λ e. and_from _ _ ((bytes_eq-Decides s.name t.name).1 (ap (λ (x : BlockState). x.name) e)) (lists.1 (ap (λ (x : BlockState). x.properties) e))),
    )

pub same_state-refl : (s : BlockState) → same_state s s ≡ true
same_state-refl s = (state-Decides s s).1 refl

there_step : (x s : BlockState) (xs : List BlockState) (n : ℕ) (b : Bool) (o : Option ℕ) → same_state s x ≡ b → number_in xs s ≡ o → ((m : ℕ) → number_in xs s ≡ Some m → slice_get xs m ≡ Some s) → cond b (Some 0) (option_map suc o) ≡ Some n → slice_get (x ∷ xs) n ≡ Some s
there_step x s xs n true o eb eo more h =
    let e : s ≡ x = (state-Decides s x).0 eb in
    let P : ℕ → Type 0 = λ k. slice_get (x ∷ xs) k ≡ Some s in
    subst P (same_Some 0 n h) (ap Some (sym e))
there_step x s xs n false None eb eo more h = absurd (none-some n h)
there_step x s xs n false (Some m) eb eo more h =
    let P : ℕ → Type 0 = λ k. slice_get (x ∷ xs) k ≡ Some s in
    subst P (same_Some (suc m) n h) (more m eo)

-- the state stands at a number
pub number_in-there : (xs : List BlockState) (s : BlockState) (n : ℕ) → number_in xs s ≡ Some n → slice_get xs n ≡ Some s
number_in-there [] s n h = absurd (none-some n h)
number_in-there (x ∷ xs) s n h = there_step x s xs n (same_state s x) (number_in xs s) refl refl (number_in-there xs s) h

any_step : (n : ℕ) (b a : Bool) (o : Option ℕ) → ((m : ℕ) → o ≡ Some m → a ≡ true) → cond b (Some 0) (option_map suc o) ≡ Some n → (b || a) ≡ true
any_step n true a o more h = refl
any_step n false a None more h = absurd (none-some n h)
any_step n false a (Some m) more h = more m refl

-- a state that has a number is in the list
pub number_in-any : (xs : List BlockState) (s : BlockState) (n : ℕ) → number_in xs s ≡ Some n → list_any (same_state s) xs ≡ true
number_in-any [] s n h = absurd (none-some n h)
number_in-any (x ∷ xs) s n h = any_step n (same_state s x) (list_any (same_state s) xs) (number_in xs s) (number_in-any xs s) h

none_step : (b a : Bool) (o : Option ℕ) → (o ≡ None → a ≡ false) → cond b (Some 0) (option_map suc o) ≡ None → (b || a) ≡ false
none_step true a o more h = absurd (none-some 0 (sym h))
none_step false a None more h = more refl
none_step false a (Some m) more h = absurd (none-some (suc m) (sym h))

-- a state without a number is not
pub number_in-none : (xs : List BlockState) (s : BlockState) → number_in xs s ≡ None → list_any (same_state s) xs ≡ false
number_in-none [] s h = refl
number_in-none (x ∷ xs) s h = none_step (same_state s x) (list_any (same_state s) xs) (number_in xs s) (number_in-none xs s) h

end_step : (b : Bool) (o o' : Option ℕ) (k : ℕ) → (o ≡ None → o' ≡ Some k) → cond b (Some 0) (option_map suc o) ≡ None → cond b (Some 0) (option_map suc o') ≡ Some (suc k)
end_step true o o' k more h = absurd (none-some 0 (sym h))
end_step false None o' k more h = ap (option_map suc) (more refl)
end_step false (Some m) o' k more h = absurd (none-some (suc m) (sym h))

-- the state at the end has the length as its number, where it was not there
pub number_in-end : (xs : List BlockState) (s : BlockState) → number_in xs s ≡ None → number_in (xs ++ s ∷ []) s ≡ Some (length xs)
number_in-end [] s h = ap (λ b. cond b (Some 0) None) (same_state-refl s)
number_in-end (x ∷ xs) s h = end_step (same_state s x) (number_in xs s) (number_in (xs ++ s ∷ []) s) (length xs) (number_in-end xs s) h

append_step : (n : ℕ) (b : Bool) (o o' : Option ℕ) → ((m : ℕ) → o ≡ Some m → o' ≡ Some m) → cond b (Some 0) (option_map suc o) ≡ Some n → cond b (Some 0) (option_map suc o') ≡ Some n
append_step n true o o' more h = h
append_step n false None o' more h = absurd (none-some n h)
append_step n false (Some m) o' more h = ap (option_map suc) (more m refl) ∙ h

-- more states at the end change no number
pub number_in-append : (xs ys : List BlockState) (s : BlockState) (n : ℕ) → number_in xs s ≡ Some n → number_in (xs ++ ys) s ≡ Some n
number_in-append [] ys s n h = absurd (none-some n h)
number_in-append (x ∷ xs) ys s n h = append_step n (same_state s x) (number_in xs s) (number_in (xs ++ ys) s) (number_in-append xs ys s) h

-- nor a state of a number
pub slice_get-append : (xs ys : List BlockState) (n : ℕ) (x : BlockState) → slice_get xs n ≡ Some x → slice_get (xs ++ ys) n ≡ Some x
slice_get-append [] ys n x h = absurd (none-some x h)
slice_get-append (y ∷ xs) ys zero x h = h
slice_get-append (y ∷ xs) ys (suc n) x h = slice_get-append xs ys n x h

-- the first ten states and their numbers
pub record IsFirst (n : ℕ) : Type 0 where
  pub state : BlockState
  pub is_there : slice_get first_states n ≡ Some state
  pub has_number : number_in first_states state ≡ Some n

pub first_state : (n : ℕ) → n < 10 → IsFirst n
first_state zero h = record { state = air; is_there = refl; has_number = refl }
first_state (suc zero) h = record { state = water 0; is_there = refl; has_number = refl }
first_state (suc (suc zero)) h = record { state = water 1; is_there = refl; has_number = refl }
first_state (suc (suc (suc zero))) h = record { state = water 2; is_there = refl; has_number = refl }
first_state (suc (suc (suc (suc zero)))) h = record { state = water 3; is_there = refl; has_number = refl }
first_state (suc (suc (suc (suc (suc zero))))) h = record { state = water 4; is_there = refl; has_number = refl }
first_state (suc (suc (suc (suc (suc (suc zero)))))) h = record { state = water 5; is_there = refl; has_number = refl }
first_state (suc (suc (suc (suc (suc (suc (suc zero))))))) h = record { state = water 6; is_there = refl; has_number = refl }
first_state (suc (suc (suc (suc (suc (suc (suc (suc zero)))))))) h = record { state = water 7; is_there = refl; has_number = refl }
first_state (suc (suc (suc (suc (suc (suc (suc (suc (suc zero))))))))) h = record { state = water 8; is_there = refl; has_number = refl }
first_state (suc (suc (suc (suc (suc (suc (suc (suc (suc (suc n)))))))))) h = absurd (omega arith)

pub first_states-water : (n : ℕ) → 0 < n → n < 10 → slice_get first_states n ≡ Some (water (n - 1))
first_states-water zero z h = absurd (omega arith)
first_states-water (suc zero) z h = refl
first_states-water (suc (suc zero)) z h = refl
first_states-water (suc (suc (suc zero))) z h = refl
first_states-water (suc (suc (suc (suc zero)))) z h = refl
first_states-water (suc (suc (suc (suc (suc zero))))) z h = refl
first_states-water (suc (suc (suc (suc (suc (suc zero)))))) z h = refl
first_states-water (suc (suc (suc (suc (suc (suc (suc zero))))))) z h = refl
first_states-water (suc (suc (suc (suc (suc (suc (suc (suc zero)))))))) z h = refl
first_states-water (suc (suc (suc (suc (suc (suc (suc (suc (suc zero))))))))) z h = refl
first_states-water (suc (suc (suc (suc (suc (suc (suc (suc (suc (suc n)))))))))) z h = absurd (omega arith)

-- a list of states begins with the first ten
pub list-begins : (xs : List BlockState) → IsStateList xs → xs ≡ first_states ++ drop 10 xs
list-begins xs l = sym (take-append-drop 10 xs) ∙ ap (λ zs. zs ++ drop 10 xs) l.begins

pub number_in-first : (xs : List BlockState) → IsStateList xs → (n : ℕ) → n < 10 → (x : BlockState) → slice_get first_states n ≡ Some x → number_in xs x ≡ Some n
number_in-first xs l n h x there =
    let f = first_state n h in
    let e : f.state ≡ x = same_Some f.state x (sym f.is_there ∙ there) in
    let known : number_in first_states x ≡ Some n = ap (number_in first_states) (sym e) ∙ f.has_number in
    ap (λ zs. number_in zs x) (list-begins xs l) ∙ number_in-append first_states (drop 10 xs) x n known

-- the number of one of the first ten, in any list
pub first_number_of : (xs : List BlockState) → IsStateList xs → (n : ℕ) → n < 10 → option_and_then (number_in xs) (slice_get first_states n) ≡ Some n
first_number_of xs l n h =
    let f = first_state n h in
    ap (option_and_then (number_in xs)) f.is_there ∙ number_in-first xs l n h f.state f.is_there

-- a state that is there
pub Numbers-old : (xs : List BlockState) (s x : BlockState) (n : ℕ) → meant s ≡ Some x → number_in xs x ≡ Some n → Numbers xs s xs n
Numbers-old xs s x n m e = record {
  form = x;
  is_meant = m;
  after = ap (λ b. cond b xs (xs ++ x ∷ [])) (sym (number_in-any xs x n e));
  has_number = e;
  is_there = number_in-there xs x n e;
}

pub Numbers-first : (xs : List BlockState) (s : BlockState) (n : ℕ) → IsStateList xs → n < 10 → meant s ≡ slice_get first_states n → Numbers xs s xs n
Numbers-first xs s n l h m =
    let f = first_state n h in
    Numbers-old xs s f.state n (m ∙ f.is_there) (number_in-first xs l n h f.state f.is_there)

-- a state that is new
pub Numbers-new : (xs : List BlockState) (s : BlockState) → meant s ≡ Some s → number_in xs s ≡ None → Numbers xs s (xs ++ s ∷ []) (length xs)
Numbers-new xs s m e = record {
  form = s;
  is_meant = m;
  after = ap (λ b. cond b xs (xs ++ s ∷ [])) (sym (number_in-none xs s e));
  has_number = number_in-end xs s e;
  is_there = number_in-there (xs ++ s ∷ []) s (length xs) (number_in-end xs s e);
}

all_meant-more : (xs : List BlockState) (s : BlockState) → map meant xs ≡ map Some xs → meant s ≡ Some s → map meant (xs ++ s ∷ []) ≡ map Some (xs ++ s ∷ [])
all_meant-more xs s h m = map-append meant xs (s ∷ []) ∙ ap (λ zs. zs ++ meant s ∷ []) h ∙ ap (λ z. map Some xs ++ z ∷ []) m ∙ sym (map-append Some xs (s ∷ []))

-- the indices of a longer list are those of the list, and the end
data BeforeOrLast (xs : List BlockState) (s : BlockState) (i : ℕ) : Type 0 where
  before : i < length xs → slice_get (xs ++ s ∷ []) i ≡ slice_get xs i → BeforeOrLast xs s i
  last : i ≡ length xs → slice_get (xs ++ s ∷ []) i ≡ Some s → BeforeOrLast xs s i

before_or_last_more : (y : BlockState) (xs : List BlockState) (s : BlockState) (i : ℕ) → BeforeOrLast xs s i → BeforeOrLast (y ∷ xs) s (suc i)
before_or_last_more y xs s i (before h e) = before (omega arith) e
before_or_last_more y xs s i (last h e) = last (ap suc h) e

before_or_last : (xs : List BlockState) (s : BlockState) (i : ℕ) → i < length (xs ++ s ∷ []) → BeforeOrLast xs s i
before_or_last [] s zero h = last refl refl
before_or_last [] s (suc i) h = absurd (omega arith)
before_or_last (y ∷ xs) s zero h = before (omega arith) refl
before_or_last (y ∷ xs) s (suc i) h = before_or_last_more y xs s i (before_or_last xs s i (omega arith))

-- a state without a number stands nowhere
pub absent : (xs : List BlockState) (s : BlockState) → number_in xs s ≡ None → (i : ℕ) → slice_get xs i ≡ Some s → ⊥
absent [] s h i e = none-some s e
absent (x ∷ xs) s h i e = absent_step x s xs i (same_state s x) (number_in xs s) refl refl (absent xs s) h e
  where
    absent_step : (x s : BlockState) (xs : List BlockState) (i : ℕ) (b : Bool) (o : Option ℕ) → same_state s x ≡ b → number_in xs s ≡ o → (number_in xs s ≡ None → (j : ℕ) → slice_get xs j ≡ Some s → ⊥) → cond b (Some 0) (option_map suc o) ≡ None → slice_get (x ∷ xs) i ≡ Some s → ⊥
    absent_step x s xs i true o eb eo more h e = none-some 0 (sym h)
    absent_step x s xs i false (Some m) eb eo more h e = none-some (suc m) (sym h)
    absent_step x s xs zero false None eb eo more h e =
        let same : s ≡ x = sym (same_Some x s e) in
        false≢true (sym eb ∙ (state-Decides s x).1 same)
    absent_step x s xs (suc i) false None eb eo more h e = more eo i e

distinct_cases : (xs : List BlockState) (s : BlockState) (i j : ℕ) → IsStateList xs → number_in xs s ≡ None → BeforeOrLast xs s i → BeforeOrLast xs s j → slice_get (xs ++ s ∷ []) i ≡ slice_get (xs ++ s ∷ []) j → i ≡ j
distinct_cases xs s i j l new (before h e) (before k f) p = l.distinct i j h k (sym e ∙ p ∙ f)
distinct_cases xs s i j l new (before h e) (last k f) p = absurd (absent xs s new i (sym e ∙ p ∙ f))
distinct_cases xs s i j l new (last h e) (before k f) p = absurd (absent xs s new j (sym f ∙ sym p ∙ e))
distinct_cases xs s i j l new (last h e) (last k f) p = h ∙ sym k

-- a table with one more state
pub IsStateList-more : (xs : List BlockState) (s : BlockState) → IsStateList xs → meant s ≡ Some s → number_in xs s ≡ None → length xs < most_states → IsStateList (xs ++ s ∷ [])
IsStateList-more xs s l m new room =
    let ten : length (take 10 xs) ≡ 10 = ap length l.begins in
    let long : 10 ≤ length xs = omega (arith, length-take 10 xs) in
    record {
      distinct = λ i j h k p. distinct_cases xs s i j l new (before_or_last xs s i h) (before_or_last xs s j k) p;
      begins = take-append-le 10 xs (s ∷ []) long ∙ l.begins;
      bounded = omega (arith, length-append xs (s ∷ []));
      each_meant = all_meant-more xs s l.each_meant m;
    }

-- A state keeps its number when others are numbered after it.
pub with_state-keeps : (xs : List BlockState) (s : BlockState) (n : ℕ) (x : BlockState) → slice_get xs n ≡ Some x → slice_get (with_state xs s) n ≡ Some x
with_state-keeps xs s n x h = elim (list_any (same_state s) xs) as (λ b. slice_get (cond b xs (xs ++ s ∷ [])) n ≡ Some x) [ true ↦ h | false ↦ slice_get-append xs (s ∷ []) n x h ]

pub with_states-keeps : (xs ss : List BlockState) (n : ℕ) (x : BlockState) → slice_get xs n ≡ Some x → slice_get (with_states xs ss) n ≡ Some x
with_states-keeps xs [] n x h = h
with_states-keeps xs (s ∷ ss) n x h = with_states-keeps (with_state xs s) ss n x (with_state-keeps xs s n x h)

pub with_state-number : (xs : List BlockState) (s t : BlockState) (n : ℕ) → number_in xs t ≡ Some n → number_in (with_state xs s) t ≡ Some n
with_state-number xs s t n h = elim (list_any (same_state s) xs) as (λ b. number_in (cond b xs (xs ++ s ∷ [])) t ≡ Some n) [ true ↦ h | false ↦ number_in-append xs (s ∷ []) t n h ]

pub with_states-number : (xs ss : List BlockState) (t : BlockState) (n : ℕ) → number_in xs t ≡ Some n → number_in (with_states xs ss) t ≡ Some n
with_states-number xs [] t n h = h
with_states-number xs (s ∷ ss) t n h = with_states-number (with_state xs s) ss t n (with_state-number xs s t n h)

same_first : (i j : ℕ) → IsFirst i → IsFirst j → slice_get first_states i ≡ slice_get first_states j → i ≡ j
same_first i j f g h =
    let e : f.state ≡ g.state = same_Some f.state g.state (sym f.is_there ∙ h ∙ g.is_there) in
    same_Some i j (sym f.has_number ∙ ap (number_in first_states) e ∙ g.has_number)

-- the first ten are a table
pub IsStateList-first : IsStateList first_states
IsStateList-first = record {
  distinct = λ i j h k e. same_first i j (first_state i h) (first_state j k) e;
  begins = refl;
  bounded = omega arith;
  each_meant = refl;
}

pub with_state-water : (n : ℕ) → n < 9 → with_state (take (n + 1) first_states) (water n) ≡ take (n + 1 + 1) first_states
with_state-water zero h = refl
with_state-water (suc zero) h = refl
with_state-water (suc (suc zero)) h = refl
with_state-water (suc (suc (suc zero))) h = refl
with_state-water (suc (suc (suc (suc zero)))) h = refl
with_state-water (suc (suc (suc (suc (suc zero))))) h = refl
with_state-water (suc (suc (suc (suc (suc (suc zero)))))) h = refl
with_state-water (suc (suc (suc (suc (suc (suc (suc zero))))))) h = refl
with_state-water (suc (suc (suc (suc (suc (suc (suc (suc zero)))))))) h = refl
with_state-water (suc (suc (suc (suc (suc (suc (suc (suc (suc n))))))))) h = absurd (omega arith)

known : (xs : List BlockState) (s : BlockState) (n : ℕ) (o : Option ℕ) → IsStateList xs → slice_get xs n ≡ Some s → number_in xs s ≡ o → number_in xs s ≡ Some n
known xs s n None l h e = absurd (absent xs s e n h)
known xs s n (Some m) l h e =
    let there : slice_get xs m ≡ Some s = number_in-there xs s m e in
    e ∙ ap Some (l.distinct m n (slice_get_within xs m s there) (slice_get_within xs n s h) (there ∙ sym h))

-- whether there was room or not, the states are a table
pub IsStateList-put : {A X : Type 0} (r : Result A X) (old new : List BlockState) (s : BlockState) → OnOk r (new ≡ old ++ s ∷ []) → OnErr r (new ≡ old) → IsStateList old → meant s ≡ Some s → number_in old s ≡ None → length old < most_states → IsStateList new
IsStateList-put (Ok a) old new s ok err l m none room = subst IsStateList (sym ok) (IsStateList-more old s l m none room)
IsStateList-put (Err x) old new s ok err l m none room = subst IsStateList (sym err) l

there_cases : (xs : List BlockState) (s : BlockState) (n : ℕ) (o : Option ℕ) → slice_get xs n ≡ Some s → number_in xs s ≡ o → with_state xs s ≡ xs
there_cases xs s n None h e = absurd (absent xs s e n h)
there_cases xs s n (Some m) h e = ap (λ b. cond b xs (xs ++ s ∷ [])) (number_in-any xs s m e)

-- a state that is there is not put at the end
pub with_state-there : (xs : List BlockState) (s : BlockState) (n : ℕ) → slice_get xs n ≡ Some s → with_state xs s ≡ xs
with_state-there xs s n h = there_cases xs s n (number_in xs s) h refl

-- one that is not is
pub with_state-new : (xs : List BlockState) (s : BlockState) → number_in xs s ≡ None → with_state xs s ≡ xs ++ s ∷ []
with_state-new xs s e = ap (λ b. cond b xs (xs ++ s ∷ [])) (number_in-none xs s e)

-- the number of a number's state is that number
pub number_in-state : (xs : List BlockState) (s : BlockState) (n : ℕ) → IsStateList xs → slice_get xs n ≡ Some s → number_in xs s ≡ Some n
number_in-state xs s n l h = known xs s n (number_in xs s) l h refl

-- a number that is found is that of the form
pub number_of-there : (xs : List BlockState) (o : Option BlockState) (r : Option ℕ) → r ≡ option_and_then (number_in xs) o → IfSome r (λ n. slice_get xs n ≡ o)
number_of-there xs o None e = tt
number_of-there xs None (Some n) e = absurd (none-some n (sym e))
number_of-there xs (Some s) (Some n) e = number_in-there xs s n (sym e)

-- a state that has a number is not one too many
pub not_new : (xs : List BlockState) (s : BlockState) (n : ℕ) → meant s ≡ Some s → number_in xs s ≡ Some n → IsOneTooMany xs s → ⊥
not_new xs s n m known full =
    let new = full.is_new in
    let same : new.form ≡ s = same_Some new.form s (sym new.is_meant ∙ m) in
    none-some n (sym new.no_number ∙ ap (number_in xs) same ∙ known)
