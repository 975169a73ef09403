-- The order of states is total and tells all states apart.
use Rattle.std.proofs.Common.{◌≡◌, ℕ, zero, suc, ◌<◌, ◌≤◌, List, [], ◌∷◌, map, length, drop, refl, ap, ◌∙◌, sym, arith}
use Rattle.std.specs.Cmp.{IsTotalOrder}
use Rattle.std.specs.Cmp.Lexicographic.{slice_cmp}
use Rattle.std.specs.Ordering.{MatchOrdering, nat_cmp, ordering_then}
use Rattle.std.specs.declared.cmp.Ordering.{Ordering}
use Rattle.std.specs.declared.cmp.Ordering.TheVariants.{Less, Equal, Greater}
use Rattle.std.proofs.lemmas.Cmp.{ranked, nat_cmp_total, nat_list_cmp_total, lists_total, on_total, then_total}
use Rattle.std.proofs.lemmas.Map.Lookups.{exact_bytes}
use Rattle.av_state.specs.BlockState.{Property, BlockState}
use Rattle.av_state.specs.declared.state.Property.{Property as PropertyValue}
use Rattle.av_state.specs.declared.text.PropertyText.{PropertyText}
use Rattle.av_state.specs.Hashing.{properties_texts, all_told_texts}
use Rattle.av_state.specs.Views.{properties_of}
use Rattle.av_state.specs.Texts.{properties_told}
use Rattle.av_state.specs.Order.{all_texts, fingerprint_of, property_cmp, texts_cmp, state_cmp}

property_total : IsTotalOrder property_cmp
property_total = then_total (on_total (λ (p : Property). p.key) nat_list_cmp_total) (on_total (λ (p : Property). p.value) nat_list_cmp_total)

texts_total : IsTotalOrder texts_cmp
texts_total = then_total (on_total (λ (s : BlockState). s.name) nat_list_cmp_total) (on_total (λ (s : BlockState). s.properties) (lists_total property_total))

pub state_total : IsTotalOrder state_cmp
state_total = then_total (on_total fingerprint_of nat_cmp_total) texts_total

both_equal : (a b : Ordering) → ordering_then a b ≡ Equal → (a ≡ Equal) × (b ≡ Equal)
both_equal Less b e = absurd cc
both_equal Equal b e = (refl, e)
both_equal Greater b e = absurd cc

same_property : (p q : Property) → property_cmp p q ≡ Equal → p ≡ q
same_property p q e =
    let k = both_equal (slice_cmp nat_cmp p.key q.key) (slice_cmp nat_cmp p.value q.value) e in
    let f : p.key ≡ q.key = exact_bytes p.key q.key k.0 in
    let g : p.value ≡ q.value = exact_bytes p.value q.value k.1 in
    λ i. record { key = f i; value = g i }

same_properties : (ps qs : List Property) → slice_cmp property_cmp ps qs ≡ Equal → ps ≡ qs
same_properties [] [] e = refl
same_properties [] (q ∷ qs) e = absurd cc
same_properties (p ∷ ps) [] e = absurd cc
same_properties (p ∷ ps) (q ∷ qs) e =
    let k = both_equal (property_cmp p q) (slice_cmp property_cmp ps qs) e in
    ap (λ t. t ∷ ps) (same_property p q k.0) ∙ ap (λ ts. q ∷ ts) (same_properties ps qs k.1)

-- states that stand as equal are the same
pub same_state : (s t : BlockState) → state_cmp s t ≡ Equal → s ≡ t
same_state s t e =
    let texts = (both_equal (nat_cmp (fingerprint_of s) (fingerprint_of t)) (texts_cmp s t) e).1 in
    let k = both_equal (slice_cmp nat_cmp s.name t.name) (slice_cmp property_cmp s.properties t.properties) texts in
    let f : s.name ≡ t.name = exact_bytes s.name t.name k.0 in
    let g : s.properties ≡ t.properties = same_properties s.properties t.properties k.1 in
    λ i. record { name = f i; properties = g i }

-- a comparison of values is one of what they stand for
pub slice_cmp-views : {A B C : Type 0} (R : C → C → Ordering) (f : A → C) (g : B → C) (xs : List A) (ys : List B) → slice_cmp (λ x y. R (f x) (g y)) xs ys ≡ slice_cmp R (map f xs) (map g ys)
slice_cmp-views R f g [] [] = refl
slice_cmp-views R f g [] (y ∷ ys) = refl
slice_cmp-views R f g (x ∷ xs) [] = refl
slice_cmp-views R f g (x ∷ xs) (y ∷ ys) = ap (ordering_then (R (f x) (g y))) (slice_cmp-views R f g xs ys)

-- a comparison that has come to the end of one list or of both
module _ {A B C : Type 0} (R : C → C → Ordering) (f : A → C) (g : B → C) where
  abbrev from_here : ℕ → List A → List B → Ordering
  from_here k xs ys = slice_cmp R (map f (drop k xs)) (map g (drop k ys))

  pub longer : (k : ℕ) (xs : List A) (ys : List B) → k < length xs → k ≡ length ys → from_here k xs ys ≡ Greater
  longer k [] ys h e = absurd (omega arith)
  longer zero (x ∷ xs) [] h e = refl
  longer zero (x ∷ xs) (y ∷ ys) h e = absurd (omega arith)
  longer (suc k) (x ∷ xs) [] h e = absurd (omega arith)
  longer (suc k) (x ∷ xs) (y ∷ ys) h e = longer k xs ys (omega arith) (omega arith)

  shorter : (k : ℕ) (xs : List A) (ys : List B) → k ≡ length xs → k < length ys → from_here k xs ys ≡ Less
  shorter k xs [] e h = absurd (omega arith)
  shorter zero [] (y ∷ ys) e h = refl
  shorter zero (x ∷ xs) (y ∷ ys) e h = absurd (omega arith)
  shorter (suc k) [] (y ∷ ys) e h = absurd (omega arith)
  shorter (suc k) (x ∷ xs) (y ∷ ys) e h = shorter k xs ys (omega arith) (omega arith)

  as_long : (k : ℕ) (xs : List A) (ys : List B) → k ≡ length xs → k ≡ length ys → from_here k xs ys ≡ Equal
  as_long zero [] [] e h = refl
  as_long zero [] (y ∷ ys) e h = absurd (omega arith)
  as_long zero (x ∷ xs) ys e h = absurd (omega arith)
  as_long (suc k) [] ys e h = absurd (omega arith)
  as_long (suc k) (x ∷ xs) [] e h = absurd (omega arith)
  as_long (suc k) (x ∷ xs) (y ∷ ys) e h = as_long k xs ys (omega arith) (omega arith)

  pub ended : (r : Ordering) (k : ℕ) (xs : List A) (ys : List B) → r ≡ nat_cmp (length xs) (length ys) → k ≡ length xs → k ≤ length ys → r ≡ from_here k xs ys
  ended r k xs ys e h l = ended_cases r (ranked (length xs) (length ys) r e)
    where
      ended_cases : (o : Ordering) → MatchOrdering o (length xs < length ys) (length xs ≡ length ys) (length ys < length xs) → o ≡ from_here k xs ys
      ended_cases Less m = sym (shorter k xs ys h (omega arith))
      ended_cases Equal m = sym (as_long k xs ys h (omega arith))
      ended_cases Greater m = absurd (omega arith)

-- what is written to a hasher are the texts of what stands there
pub texts-views : (ps : List PropertyValue) → properties_texts ps ≡ all_texts (properties_of ps)
texts-views [] = refl
texts-views (p ∷ ps) = ap (λ ts. p.key.items ∷ p.value.items ∷ ts) (texts-views ps)

pub told_texts-views : (ps : List PropertyText) → all_told_texts ps ≡ all_texts (properties_told ps)
told_texts-views [] = refl
told_texts-views (p ∷ ps) = ap (λ ts. p.key.now ∷ p.value.now ∷ ts) (told_texts-views ps)
