-- The order of states ties where they are the same, and what a tally holds of each.
use Rattle.std.proofs.Common.{◌≡◌, ℕ, ◌+◌, ◌<◌, ◌&&◌, List, [], ◌∷◌, Bool, true, false, true≢false, cond, Option, Some, None, refl, sym, ap, ◌∙◌, subst, arith}
use Rattle.std.specs.Prelude.{IfSome}
use Rattle.std.specs.BTreeMap.{BTreeMap, get, is_at}
use Rattle.std.specs.Cmp.{IsEquivalence}
use Rattle.std.specs.Cmp.Lexicographic.{slice_cmp, pointwise}
use Rattle.std.specs.Map.{lookup}
use Rattle.std.specs.Option.{unwrap_or}
use Rattle.std.specs.Ordering.{is_eq, nat_cmp, ordering_then, eq_by_cmp}
use Rattle.std.specs.declared.cmp.Ordering.{Ordering}
use Rattle.std.specs.declared.cmp.Ordering.TheVariants.{Less, Equal, Greater}
use Rattle.std.proofs.lemmas.Map.Text.{is_eq-slice_cmp}
use Rattle.av_state.specs.BlockState.{BlockState}
use Rattle.av_state.specs.StateList.{same_state, same_property}
use Rattle.av_state.specs.States.{state_of}
use Rattle.av_state.specs.Views.{property_of}
use Rattle.av_state.specs.declared.state.Property.{Property as PropertyValue}
use Rattle.av_state.specs.declared.state.State.{State}
use Rattle.av_state.proofs.Lists.{pointwise-map}
use Rattle.av_state.proofs.Numbering.{state-Decides, same_state-refl}
use Rattle.av_census.specs.Census.{property_order, state_order}
use Rattle.av_census.specs.Counting.{tallied, Tallies}
use Rattle.av_census.proofs.Weighing.{when}

-- ---- ties

then_tie : (a b : Ordering) → is_eq (ordering_then a b) ≡ is_eq a && is_eq b
then_tie Less b = refl
then_tie Equal b = refl
then_tie Greater b = refl

slice_tie : {A : Type 0} (R : A → A → Ordering) (xs ys : List A) → is_eq (slice_cmp R xs ys) ≡ pointwise (λ x y. is_eq (R x y)) xs ys
slice_tie R [] [] = refl
slice_tie R [] (y ∷ ys) = refl
slice_tie R (x ∷ xs) [] = refl
slice_tie R (x ∷ xs) (y ∷ ys) = then_tie (R x y) (slice_cmp R xs ys) ∙ ap (λ b. is_eq (R x y) && b) (slice_tie R xs ys)

both_same : (a b c d : Bool) → a ≡ c → b ≡ d → a && b ≡ c && d
both_same a b c d e f = ap (λ x. x && b) e ∙ ap (λ y. c && y) f

property_tie : (p q : PropertyValue) → is_eq (property_order p q) ≡ same_property (property_of p) (property_of q)
property_tie p q = then_tie (slice_cmp nat_cmp p.key.items q.key.items) (slice_cmp nat_cmp p.value.items q.value.items)
    ∙ both_same _ _ _ _ (is_eq-slice_cmp p.key.items q.key.items) (is_eq-slice_cmp p.value.items q.value.items)

pointwise-same : {A : Type 0} (E F : A → A → Bool) → ((x y : A) → E x y ≡ F x y) → (xs ys : List A) → pointwise E xs ys ≡ pointwise F xs ys
pointwise-same E F same [] [] = refl
pointwise-same E F same [] (y ∷ ys) = refl
pointwise-same E F same (x ∷ xs) [] = refl
pointwise-same E F same (x ∷ xs) (y ∷ ys) = both_same _ _ _ _ (same x y) (pointwise-same E F same xs ys)

pub state_tie : (s t : State) → is_eq (state_order s t) ≡ same_state (state_of s) (state_of t)
state_tie s t =
    then_tie (slice_cmp nat_cmp s.name.items t.name.items) (slice_cmp property_order s.properties.items t.properties.items)
    ∙ both_same _ _ _ _ (is_eq-slice_cmp s.name.items t.name.items)
    (slice_tie property_order s.properties.items t.properties.items
    ∙ pointwise-same _ _ property_tie s.properties.items t.properties.items
    ∙ sym (pointwise-map same_property property_of s.properties.items t.properties.items))

pub state_laws : IsEquivalence (eq_by_cmp state_order)
state_laws = record {
  refl = λ s. state_tie s s ∙ same_state-refl (state_of s);
  symm = λ s t. turned s t (eq_by_cmp state_order s t) refl (eq_by_cmp state_order t s) refl;
  congr = λ s t u e. state_tie s u ∙ ap (λ x. same_state x (state_of u)) (is_same s t e) ∙ sym (state_tie t u);
}
  where
    is_same : (s t : State) → eq_by_cmp state_order s t ≡ true → state_of s ≡ state_of t
    is_same s t e = (state-Decides (state_of s) (state_of t)).0 (sym (state_tie s t) ∙ e)

    tied : (s t : State) → state_of s ≡ state_of t → eq_by_cmp state_order s t ≡ true
    tied s t e = state_tie s t ∙ (state-Decides (state_of s) (state_of t)).1 e

    turned : (s t : State) (a : Bool) → eq_by_cmp state_order s t ≡ a → (b : Bool) → eq_by_cmp state_order t s ≡ b → eq_by_cmp state_order s t ≡ eq_by_cmp state_order t s
    turned s t true e true f = e ∙ sym f
    turned s t false e false f = e ∙ sym f
    turned s t true e false f = absurd (true≢false (sym (tied t s (sym (is_same s t e))) ∙ f))
    turned s t false e true f = absurd (true≢false (sym (tied s t (sym (is_same t s f))) ∙ e))

-- ---- what a tally has of a state

lookup-same : {K X : Type 0} (f g : K → Bool) → ((k : K) → f k ≡ g k) → (es : List (K × X)) → lookup f es ≡ lookup g es
lookup-same f g same [] = refl
lookup-same f g same (e ∷ es) = ap (λ b. cond b (Some e.1) (lookup f es)) (same e.0) ∙ ap (λ o. cond (g e.0) (Some e.1) o) (lookup-same f g same es)

-- the same of states that stand for the same
pub get_same : (m : BTreeMap State ℕ) (s t : State) → state_of s ≡ state_of t → get state_order m s ≡ get state_order m t
get_same m s t e = lookup-same (is_at (state_order s)) (is_at (state_order t)) (λ k. state_tie s k ∙ ap (λ x. same_state x (state_of k)) e ∙ sym (state_tie t k)) m.entries

turned_same : (s t : BlockState) → same_state s t ≡ same_state t s
turned_same s t = by (same_state s t) refl (same_state t s) refl
  where
    by : (a : Bool) → same_state s t ≡ a → (b : Bool) → same_state t s ≡ b → a ≡ b
    by true e true f = refl
    by false e false f = refl
    by true e false f = sym ((state-Decides t s).1 (sym ((state-Decides s t).0 e))) ∙ f
    by false e true f = sym e ∙ (state-Decides s t).1 (sym ((state-Decides t s).0 f))

-- a state got a new count, and all others have theirs
module _ (old new : BTreeMap State ℕ) (k key : State) (same_key : state_of key ≡ state_of k) (more : ℕ)
    (here : get state_order new key ≡ Some (tallied old k + more)) (others : (s : State) → is_at (state_order key) s ≡ false → get state_order new s ≡ get state_order old s) where
  at_tie : (s : State) → same_state (state_of s) (state_of k) ≡ true → state_of s ≡ state_of k
  at_tie s e = (state-Decides (state_of s) (state_of k)).0 e

  there : (s : State) → state_of s ≡ state_of k → get state_order new s ≡ Some (tallied old s + more)
  there s e = get_same new s key (e ∙ sym same_key) ∙ here ∙ ap (λ o. Some (unwrap_or o 0 + more)) (get_same old k s (sym e))

  elsewhere : (s : State) → same_state (state_of s) (state_of k) ≡ false → get state_order new s ≡ get state_order old s
  elsewhere s e = others s (state_tie key s ∙ ap (λ x. same_state x (state_of s)) same_key ∙ turned_same (state_of k) (state_of s) ∙ e)

  pub tallies_one : 0 < more → Tallies old new (λ s. when (same_state s (state_of k)) more)
  tallies_one some = record {
    counts = λ s. count s (same_state (state_of s) (state_of k)) refl;
    sound = λ fine s. positive s (fine s) (same_state (state_of s) (state_of k)) refl;
  }
    where
      plus_none : (n : ℕ) → n ≡ n + 0
      plus_none n = omega arith

      count : (s : State) (b : Bool) → same_state (state_of s) (state_of k) ≡ b → tallied new s ≡ tallied old s + when (same_state (state_of s) (state_of k)) more
      count s true e = ap (λ o. unwrap_or o 0) (there s (at_tie s e)) ∙ ap (λ b. tallied old s + when b more) (sym e)
      count s false e = ap (λ o. unwrap_or o 0) (elsewhere s e) ∙ plus_none (tallied old s) ∙ ap (λ b. tallied old s + when b more) (sym e)

      positive : (s : State) → IfSome (get state_order old s) (λ n. 0 < n) → (b : Bool) → same_state (state_of s) (state_of k) ≡ b → IfSome (get state_order new s) (λ n. 0 < n)
      positive s fine true e = subst (λ (o : Option ℕ). IfSome o (λ n. 0 < n)) (sym (there s (at_tie s e))) (omega (arith, some))
      positive s fine false e = subst (λ (o : Option ℕ). IfSome o (λ n. 0 < n)) (sym (elsewhere s e)) fine

-- a state that was not there
pub tallies_new : (old mid new : BTreeMap State ℕ) (k key : State) (more : ℕ) → state_of key ≡ state_of k → mid.entries ≡ old.entries → get state_order old k ≡ None → get state_order new key ≡ Some more
    → ((s : State) → is_at (state_order key) s ≡ false → get state_order new s ≡ get state_order mid s) → 0 < more → Tallies old new (λ s. when (same_state s (state_of k)) more)
tallies_new old mid new k key more same_key same absent here others some =
    let none : tallied old k ≡ 0 = ap (λ o. unwrap_or o 0) absent in
    let total : more ≡ tallied old k + more = omega (arith, none) in
    tallies_one old new k key same_key more (here ∙ ap Some total) (λ s apart. others s apart ∙ ap (λ es. lookup (is_at (state_order s)) es) same) some

-- nothing was added
pub tallies_same : (m : BTreeMap State ℕ) (more : BlockState → ℕ) → ((s : BlockState) → more s ≡ 0) → Tallies m m more
tallies_same m more none = record {
  counts = λ s. plus (tallied m s) (more (state_of s)) (none (state_of s));
  sound = λ fine. fine;
}
  where
    plus : (n k : ℕ) → k ≡ 0 → n ≡ n + k
    plus n k e = omega (arith, e)

-- one after the other
pub tallies_then : (old now new : BTreeMap State ℕ) (f g h : BlockState → ℕ) → Tallies old now f → Tallies now new g → ((s : BlockState) → h s ≡ f s + g s) → Tallies old new h
tallies_then old now new f g h first second both = record {
  counts = λ s. sum (tallied new s) (tallied now s) (tallied old s) (f (state_of s)) (g (state_of s)) (h (state_of s)) (second.counts s) (first.counts s) (both (state_of s));
  sound = λ fine. second.sound (first.sound fine);
}
  where
    sum : (a b c x y z : ℕ) → a ≡ b + y → b ≡ c + x → z ≡ x + y → a ≡ c + z
    sum a b c x y z e f g = omega (arith, e, f, g)

pub tallies_as : (old new : BTreeMap State ℕ) (f g : BlockState → ℕ) → Tallies old new f → ((s : BlockState) → f s ≡ g s) → Tallies old new g
tallies_as old new f g t same = record {
  counts = λ s. t.counts s ∙ ap (λ n. tallied old s + n) (same (state_of s));
  sound = t.sound;
}
