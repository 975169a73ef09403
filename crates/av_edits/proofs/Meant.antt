-- The form of a form is that form.
use Rattle.std.proofs.Common.{◌≡◌, ℕ, zero, suc, ◌≤◌, ◌+◌, ◌||◌, slice_get, nat_lt, Bool, true, false, cond, List, [], ◌∷◌, ◌++◌, length, Option, Some, None, refl, sym, ap, subst, ◌∙◌, arith}
use Rattle.std.proofs.lemmas.Bool.{ltb-true, lt-ltb}
use Rattle.std.proofs.lemmas.List.{length-append}
use Rattle.std.specs.Option.{option_map}
use Rattle.std.specs.List.{list_any}
use Rattle.std.specs.Str.{bytes_eq}
use Rattle.std.proofs.lemmas.Option.{same_Some}
use Rattle.av_state.specs.BlockState.{BlockState, air, water, air_name, water_name, level_of, water_level, value_of, level_key, capped_level, level_texts, index_in, index_where, meant}
use Rattle.av_edits.specs.Edits.{Grows}
use Rattle.av_state.specs.StateList.{with_state, number_in, same_state, most_states, IsOneTooMany}

few : (n : ℕ) → n ≤ 8 → meant (water n) ≡ Some (water n)
few zero h = refl
few (suc zero) h = refl
few (suc (suc zero)) h = refl
few (suc (suc (suc zero))) h = refl
few (suc (suc (suc (suc zero)))) h = refl
few (suc (suc (suc (suc (suc zero))))) h = refl
few (suc (suc (suc (suc (suc (suc zero)))))) h = refl
few (suc (suc (suc (suc (suc (suc (suc zero))))))) h = refl
few (suc (suc (suc (suc (suc (suc (suc (suc zero)))))))) h = refl
few (suc (suc (suc (suc (suc (suc (suc (suc (suc n))))))))) h = absurd (omega arith)

capped : (n : ℕ) → capped_level n ≤ 8
capped n = by (nat_lt n 8) refl where
  by : (b : Bool) → nat_lt n 8 ≡ b → cond b n 8 ≤ 8
  by true e = omega (arith, ltb-true n 8 e)
  by false e = omega arith

of_index : (o : Option ℕ) (t : BlockState) → option_map water (option_map capped_level o) ≡ Some t → meant t ≡ Some t
of_index None t h = cc
of_index (Some n) t h = subst (λ t. meant t ≡ Some t) (same_Some (water (capped_level n)) t h) (few (capped_level n) (capped n))

of_value : (o : Option (List ℕ)) (t : BlockState) → option_map water (water_level o) ≡ Some t → meant t ≡ Some t
of_value None t h = subst (λ t. meant t ≡ Some t) (same_Some (water 0) t h) refl
of_value (Some v) t h = of_index (index_in v level_texts) t h

pub meant_again : (s t : BlockState) → meant s ≡ Some t → meant t ≡ Some t
meant_again s t h = by (bytes_eq s.name air_name) refl (bytes_eq s.name water_name) refl h where
  by : (a : Bool) → bytes_eq s.name air_name ≡ a → (b : Bool) → bytes_eq s.name water_name ≡ b → cond a (Some air) (cond b (option_map water (level_of s)) (Some s)) ≡ Some t → meant t ≡ Some t
  by true e b f h = subst (λ t. meant t ≡ Some t) (same_Some air t h) refl
  by false e true f h = of_value (value_of level_key s.properties) t h
  by false e false f h = subst (λ t. meant t ≡ Some t) (same_Some s t h) (rw (e, f) refl)

-- ---- tables that grow

slice_get_left : {A : Type 0} (xs ys : List A) (n : ℕ) (x : A) → slice_get xs n ≡ Some x → slice_get (xs ++ ys) n ≡ Some x
slice_get_left [] ys n x h = cc
slice_get_left (a ∷ xs) ys zero x h = h
slice_get_left (a ∷ xs) ys (suc n) x h = slice_get_left xs ys n x h

pub grows_with : (old : List BlockState) (s : BlockState) → Grows old (with_state old s)
grows_with old s = by (list_any (same_state s) old) where
  by : (b : Bool) → Grows old (cond b old (old ++ s ∷ []))
  by true = λ n t h. h
  by false = λ n t h. slice_get_left old (s ∷ []) n t h

pub grows_to : (old new : List BlockState) (s : BlockState) → new ≡ with_state old s → Grows old new
grows_to old new s e = subst (Grows old) (sym e) (grows_with old s)

none_any : (p : BlockState → Bool) (xs : List BlockState) → index_where p xs ≡ None → list_any p xs ≡ false
none_any p [] h = refl
none_any p (x ∷ xs) h = by (p x) refl (index_where p xs) refl (λ q. none_any p xs q) h where
  by : (b : Bool) → p x ≡ b → (o : Option ℕ) → index_where p xs ≡ o → (index_where p xs ≡ None → list_any p xs ≡ false) → cond b (Some 0) (option_map suc o) ≡ None → list_any p (x ∷ xs) ≡ false
  by true e o q rest h = cc
  by false e None q rest h = ap (λ b. b || list_any p xs) e ∙ rest q
  by false e (Some n) q rest h = cc

pub too_many : (old : List BlockState) (s : BlockState) → meant s ≡ Some s → IsOneTooMany old s → nat_lt most_states (length (with_state old s)) ≡ true
too_many old s m t =
    let new = t.is_new in
    let same : new.form ≡ s = same_Some new.form s (sym new.is_meant ∙ m) in
    let none : list_any (same_state s) old ≡ false = none_any (same_state s) old (ap (number_in old) (sym same) ∙ new.no_number) in
    let with : with_state old s ≡ old ++ s ∷ [] = ap (λ b. cond b old (old ++ s ∷ [])) none in
    let long : length (with_state old s) ≡ length old + 1 = ap length with ∙ length-append old (s ∷ []) in
    lt-ltb most_states (length (with_state old s)) (omega (arith, long, t.is_full))
