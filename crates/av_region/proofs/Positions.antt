-- The first element that passes, of a list that a function makes of another.
use Rattle.std.proofs.Common.{◌≡◌, ◌∙◌, ℕ, ◌+◌, ◌<◌, ◌≤◌, Bool, true, false, not, cond, List, [], ◌∷◌, length, map, nat_lt, get_or, Some, None, refl, sym, ap, arith, below_more, inl, inr}
use Rattle.std.specs.List.{prefix_len, position_or_len, position}
use Rattle.std.proofs.lemmas.Bool.{lt-ltb, le-ltb, cases_lt}
use Rattle.std.proofs.lemmas.List.{length-map, get_or_default}
use Rattle.std.proofs.lemmas.List.Sums.{position_or_len_is, fails_before_first}

prefix_len-map : {X Y : Type 0} (p : Y → Bool) (f : X → Y) (xs : List X) → prefix_len p (map f xs) ≡ prefix_len (λ x. p (f x)) xs
prefix_len-map p f [] = refl
prefix_len-map p f (x ∷ xs) = ap (λ n. cond (p (f x)) (1 + n) 0) (prefix_len-map p f xs)

position-map : {X Y : Type 0} (p : Y → Bool) (f : X → Y) (xs : List X) → position p (map f xs) ≡ position (λ x. p (f x)) xs
position-map p f xs =
    ap (λ n. cond (nat_lt n (length (map f xs))) (Some n) None) (prefix_len-map (λ x. not (p x)) f xs)
    ∙ ap (λ m. cond (nat_lt (position_or_len (λ x. p (f x)) xs) m) (Some (position_or_len (λ x. p (f x)) xs)) None) (length-map xs f)

-- none of the first i elements passes
pub record NoneBelow {X Y : Type 0} (p : Y → Bool) (f : X → Y) (xs : List X) (i : ℕ) : Type 0 where
  pub fails : (k : ℕ) (d : X) → k < i → p (f (get_or xs k d)) ≡ false

pub none_below_0 : {X Y : Type 0} (p : Y → Bool) (f : X → Y) (xs : List X) → NoneBelow p f xs 0
none_below_0 p f xs = record { fails = λ k d lt. absurd (omega arith) }

pub none_below_more : {X Y : Type 0} (p : Y → Bool) (f : X → Y) (xs : List X) (i : ℕ) (x : X) → NoneBelow p f xs i → i < length xs → x ≡ get_or xs i x → p (f x) ≡ false → NoneBelow p f xs (i + 1)
none_below_more p f xs i x below lt e fails = record {
  fails = λ k d. below_more (λ n. p (f (get_or xs n d)) ≡ false) i (λ n. below.fails n d) (ap (λ y. p (f y)) (get_or_default xs i d x lt ∙ sym e) ∙ fails) k;
}

at_length : {X : Type 0} (q : X → Bool) (xs : List X) (i : ℕ) → position_or_len q xs ≡ i → i < length xs → Some i ≡ position q xs
at_length q xs i e lt = sym (ap (λ n. cond (nat_lt n (length xs)) (Some n) None) e ∙ ap (λ b. cond b (Some i) None) (lt-ltb i (length xs) lt))

past_length : {X : Type 0} (q : X → Bool) (xs : List X) (i : ℕ) → position_or_len q xs ≡ i → length xs ≤ i → None ≡ position q xs
past_length q xs i e le = sym (ap (λ n. cond (nat_lt n (length xs)) (Some n) None) e ∙ ap (λ b. cond b (Some i) None) (le-ltb i (length xs) le))

pub found_first : {X Y : Type 0} (p : Y → Bool) (f : X → Y) (xs : List X) (i : ℕ) (x : X) → NoneBelow p f xs i → i < length xs → x ≡ get_or xs i x → p (f x) ≡ true → Some i ≡ position p (map f xs)
found_first p f xs i x below lt e passes =
    at_length (λ y. p (f y)) xs i (position_or_len_is (λ y. p (f y)) xs i x (omega arith) (λ k. below.fails k x) (λ _. ap (λ y. p (f y)) (sym e) ∙ passes)) lt
    ∙ sym (position-map p f xs)

pub found_none : {X Y : Type 0} (p : Y → Bool) (f : X → Y) (xs : List X) (i : ℕ) → NoneBelow p f xs i → length xs ≤ i → None ≡ position p (map f xs)
found_none p f [] i below le = refl
found_none p f (x ∷ xs) i below le =
    past_length (λ y. p (f y)) (x ∷ xs) (length (x ∷ xs)) (position_or_len_is (λ y. p (f y)) (x ∷ xs) (length (x ∷ xs)) x (omega arith) (λ k lt. below.fails k x (omega arith)) (λ lt. absurd (omega arith))) (omega arith)
    ∙ sym (position-map p f (x ∷ xs))

-- where none passes
pub none_passes : {X : Type 0} (q : X → Bool) (xs : List X) (i : ℕ) (d : X) → position q xs ≡ None → i < length xs → q (get_or xs i d) ≡ false
none_passes q xs i d none lt = elim (cases_lt (position_or_len q xs) (length xs)) [
  | inl below ↦ (
      let found : Some (position_or_len q xs) ≡ position q xs = at_length q xs (position_or_len q xs) refl below in
      absurd (cc (found, none)))
  | inr above ↦ fails_before_first q xs i d (omega arith)
]

pub fails_everywhere : {X Y : Type 0} (p : Y → Bool) (f : X → Y) (xs : List X) (i : ℕ) (x : X) → position p (map f xs) ≡ None → i < length xs → x ≡ get_or xs i x → p (f x) ≡ false
fails_everywhere p f xs i x none lt e = ap (λ y. p (f y)) e ∙ none_passes (λ y. p (f y)) xs i x (sym (position-map p f xs) ∙ none) lt
