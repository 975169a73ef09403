-- Entries numbered one after the other.
use Rattle.std.proofs.Common.{◌≡◌, ℕ, zero, suc, ◌<◌, ◌≤◌, ◌+◌, List, [], ◌∷◌, ◌++◌, map, length, get_or, take, Option, Some, None, is_some, Bool, true, false, refl, sym, ap, subst, ◌∙◌, arith, inl, inr, true≢false, length-append, cond}
use Rattle.std.specs.List.{list_all, list_any}
use Rattle.std.proofs.lemmas.Bool.{cases_lt, and_parts}
use Rattle.std.proofs.lemmas.List.{get_or_append_left, append_assoc, append-nil}
use Rattle.std.proofs.Math.Seq.{get_or-append_seam}
use Rattle.av_types.specs.declared.fault.Fault.{Fault}
use Rattle.av_types.specs.declared.fault.Fault.TheVariants.{OutOfMemory, BadWaterLevel, TooManyStates}
use Rattle.av_tags.proofs.Each.{each_more, each_none, each_parts}
use Rattle.av_tags.specs.Shape.{each}
use Rattle.av_state.specs.BlockState.{BlockState, air, meant}
use Rattle.av_state.specs.StateList.{with_state, with_states, same_state, Numbers, IsOneTooMany}
use Rattle.av_state.proofs.Numbering.{with_state-keeps, number_in-none}
use Rattle.av_section.specs.Known.{AreNotNumbered}
use Rattle.av_section.specs.Numbered.{AreNumbered, AreTooMany}
use Rattle.av_section.specs.Reading.{OnlyGrows}

-- ---- forms

each_lacks : {A B : Type 0} (f : A → Option B) (xs : List A) → list_all (λ x. is_some (f x)) xs ≡ false → each f xs ≡ None
each_lacks f [] h = absurd (true≢false h)
each_lacks {B = B} f (x ∷ xs) h = by (f x) refl (list_all (λ y. is_some (f y)) xs) refl (λ g. each_lacks f xs g) where
  by : (o : Option B) → f x ≡ o → (b : Bool) → list_all (λ y. is_some (f y)) xs ≡ b → (list_all (λ y. is_some (f y)) xs ≡ false → each f xs ≡ None) → each f (x ∷ xs) ≡ None
  by None e b g rest = rw e refl
  by (Some y) e true g rest = absurd (true≢false (rw (e, g) at h))
  by (Some y) e false g rest = rw (e, rest g) refl

pub record HasEach {A B : Type 0} (f : A → Option B) (xs : List A) : Type 0 where
  pub ys : List B
  pub are : each f xs ≡ Some ys

each_has : {A B : Type 0} (f : A → Option B) (xs : List A) → list_all (λ x. is_some (f x)) xs ≡ true → HasEach f xs
each_has f [] h = record { ys = []; are = refl }
each_has {B = B} f (x ∷ xs) h = by (f x) refl (each_has f xs (and_parts (is_some (f x)) (list_all (λ y. is_some (f y)) xs) h).1) where
  by : (o : Option B) → f x ≡ o → HasEach f xs → HasEach f (x ∷ xs)
  by None e rest = absurd (true≢false (sym (rw e at (and_parts (is_some (f x)) (list_all (λ y. is_some (f y)) xs) h).0)))
  by (Some y) e rest = record { ys = y ∷ rest.ys; are = rw (e, rest.are) refl }

pub no_forms : (entries : List BlockState) (b : Bool) → b ≡ list_all (λ s. is_some (meant s)) entries → b ≡ false → each meant entries ≡ None
no_forms entries b e h = each_lacks meant entries (sym e ∙ h)

-- what stands behind the first elements
pub record Splits {B : Type 0} (all front : List B) (y : B) : Type 0 where
  pub rest : List B
  pub is : all ≡ front ++ y ∷ rest

module _ {A B C : Type 0} (f : B → Option C) (v : A → B) where
  each_splits : (xs : List A) (i : ℕ) (d : A) (all front : List C) (y : C) → i < length xs → each f (map v xs) ≡ Some all → each f (map v (take i xs)) ≡ Some front
      → f (v (get_or xs i d)) ≡ Some y → Splits all front y
  each_splits [] i d all front y low h g e = absurd (omega arith)
  each_splits (x ∷ xs) zero d all front y low h g e =
      let p = each_parts (f (v x)) (each f (map v xs)) all h in
      let none : front ≡ [] = cc in
      let same : p.first ≡ y = let q = p.first_is in cc in
      record { rest = p.others; is = p.all_are ∙ ap (λ z. z ∷ p.others) same ∙ ap (λ l. l ++ y ∷ p.others) (sym none) }
  each_splits (x ∷ xs) (suc i) d all front y low h g e =
      let p = each_parts (f (v x)) (each f (map v xs)) all h in
      let q = each_parts (f (v x)) (each f (map v (take i xs))) front g in
      let same : p.first ≡ q.first = let a = p.first_is in let b = q.first_is in cc in
      let more = each_splits xs i d p.others q.others y (omega arith) p.others_are q.others_are e in
      record { rest = more.rest; is = p.all_are ∙ ap (λ z. z ∷ p.others) same ∙ ap (λ l. q.first ∷ l) more.is ∙ ap (λ l. l ++ y ∷ more.rest) (sym q.all_are) }

-- ---- numbered states

with_states-append : (old xs ys : List BlockState) → with_states old (xs ++ ys) ≡ with_states (with_states old xs) ys
with_states-append old [] ys = refl
with_states-append old (x ∷ xs) ys = with_states-append (with_state old x) xs ys

with_state-grows : (old : List BlockState) (s : BlockState) → OnlyGrows old (with_state old s)
with_state-grows old s = elim (list_any (same_state s) old) as (λ b. OnlyGrows old (cond b old (old ++ s ∷ []))) [
  | true ↦ record { more = []; grown = sym (append-nil old) }
  | false ↦ record { more = s ∷ []; grown = refl }
]

pub OnlyGrows-trans : (a b c : List BlockState) → OnlyGrows a b → OnlyGrows b c → OnlyGrows a c
OnlyGrows-trans a b c g h = record { more = g.more ++ h.more; grown = h.grown ∙ ap (λ l. l ++ h.more) g.grown ∙ append_assoc a g.more h.more }

pub with_states-grows : (old more : List BlockState) → OnlyGrows old (with_states old more)
with_states-grows old [] = record { more = []; grown = sym (append-nil old) }
with_states-grows old (s ∷ more) = OnlyGrows-trans old (with_state old s) (with_states (with_state old s) more) (with_state-grows old s) (with_states-grows (with_state old s) more)

length-grows : (old new : List BlockState) → OnlyGrows old new → length old ≤ length new
length-grows old new g = omega (arith, ap length g.grown, length-append old g.more)

pub grows_by : (old new forms : List BlockState) → new ≡ with_states old forms → OnlyGrows old new
grows_by old new forms e = subst (OnlyGrows old) (sym e) (with_states-grows old forms)

module _ {A : Type 0} (v : A → BlockState) (entries : List A) (old : List BlockState) where
  pub numbered_none : AreNumbered (map v (take 0 entries)) old old []
  numbered_none = record { forms = []; forms_are = refl; states = refl; count = refl; each_is = λ j low. absurd (omega arith) }

  pub numbered_more : (i : ℕ) (d : A) (now next : List BlockState) (numbers : List ℕ) (n : ℕ) → i < length entries
      → AreNumbered (map v (take i entries)) old now numbers → Numbers now (v (get_or entries i d)) next n → AreNumbered (map v (take (i + 1) entries)) old next (numbers ++ n ∷ [])
  numbered_more i d now next numbers n low a s = record {
    forms = a.forms ++ s.form ∷ [];
    forms_are = each_more meant v entries i d a.forms s.form low a.forms_are s.is_meant;
    states = s.after ∙ ap (λ l. with_state l s.form) a.states ∙ sym (with_states-append old a.forms (s.form ∷ []));
    count = length-append numbers (n ∷ []) ∙ ap (λ k. k + 1) a.count ∙ sym (length-append a.forms (s.form ∷ []));
    each_is = λ j within. elim (cases_lt j (length numbers)) [
      | inl before ↦ (
          let here : j < length a.forms = omega (arith, a.count) in
          rw (get_or_append_left numbers (n ∷ []) 0 j before, get_or_append_left a.forms (s.form ∷ []) air j here, s.after) (with_state-keeps now s.form (get_or numbers j 0) (get_or a.forms j air) (a.each_is j before)))
      | inr after ↦ (
          let at : j ≡ length numbers = omega (arith, length-append numbers (n ∷ [])) in
          let last : j ≡ length a.forms = at ∙ a.count in
          let number = ap (λ k. get_or (numbers ++ n ∷ []) k 0) at ∙ get_or-append_seam numbers n [] 0 in
          let form = ap (λ k. get_or (a.forms ++ s.form ∷ []) k air) last ∙ get_or-append_seam a.forms s.form [] air in
          rw (number, form) s.is_there)
    ];
  }

  -- a state that is one too many
  pub too_many : (i : ℕ) (d : A) (now : List BlockState) (numbers : List ℕ) → i < length entries → list_all (λ s. is_some (meant s)) (map v entries) ≡ true
      → AreNumbered (map v (take i entries)) old now numbers → IsOneTooMany now (v (get_or entries i d)) → AreTooMany (map v entries) old
  too_many i d now numbers low fine a s =
      let all = each_has meant (map v entries) fine in
      let form = s.is_new.form in
      let parts = each_splits meant v entries i d all.ys a.forms form low all.are a.forms_are s.is_new.is_meant in
      let longer : with_state now form ≡ now ++ form ∷ [] = rw (number_in-none now form s.is_new.no_number) refl in
      let most = length-grows (with_state now form) (with_states (with_state now form) parts.rest) (with_states-grows (with_state now form) parts.rest) in
      let whole : with_states old all.ys ≡ with_states (with_state now form) parts.rest =
      ap (with_states old) parts.is ∙ with_states-append old a.forms (form ∷ parts.rest) ∙ ap (λ l. with_states l (form ∷ parts.rest)) (sym a.states) in
      record { forms = all.ys; forms_are = all.are; too_many = omega (arith, s.is_full, ap length whole, ap length longer, length-append now (form ∷ []), most) }

  -- a state that has no form
  pub no_form : (i : ℕ) (d : A) → i < length entries → meant (v (get_or entries i d)) ≡ None → each meant (map v entries) ≡ None
  no_form i d low e = each_none meant v entries i d low e

pub not_numbered : (entries old : List BlockState) (e : Fault) → (e ≡ BadWaterLevel → each meant entries ≡ None) → (e ≡ TooManyStates → AreTooMany entries old)
    → ((e ≡ BadWaterLevel → ⊥) → (e ≡ TooManyStates → ⊥) → e ≡ OutOfMemory) → AreNotNumbered entries old e
not_numbered entries old OutOfMemory a b m = tt
not_numbered entries old BadWaterLevel a b m = a refl
not_numbered entries old TooManyStates a b m = b refl
not_numbered entries old e a b m = let q = m (λ q. cc) (λ q. cc) in cc
