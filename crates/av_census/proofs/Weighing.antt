-- Counts of numbers, as counts of states.
use Rattle.std.proofs.Common.{◌≡◌, ℕ, zero, suc, ◌+◌, ◌<◌, ◌≤◌, List, [], ◌∷◌, ◌++◌, map, length, take, replicate, slice_index, Bool, true, false, cond, Some, refl, ap, ◌∙◌, arith}
use Rattle.std.specs.Prelude.{slice_index_or, slice_set, slice_get}
use Rattle.std.specs.List.{range_with_len}
use Rattle.std.proofs.lemmas.List.Sums.{sum_by-append}
use Rattle.std.proofs.lemmas.List.FromFn.{sum_by-map-range_with_len_more}
use Rattle.av_state.specs.BlockState.{BlockState, air}
use Rattle.av_state.specs.StateList.{same_state}
use Rattle.av_census.specs.Census.{joined, times}
use Rattle.av_census.specs.Counting.{weighed}

-- so many blocks where the test holds
abbrev pub when : Bool → ℕ → ℕ
when b n = cond b n 0

when_more : (b : Bool) (n m w : ℕ) → when b (n + m) + w ≡ (when b n + w) + when b m
when_more true n m w = omega arith
when_more false n m w = omega arith

moved : (x a b d : ℕ) → a ≡ b + d → x + a ≡ (x + b) + d
moved x a b d e = omega (arith, e)

-- one number has more
pub weighed-raised : (s : BlockState) (table : List BlockState) (counts : List ℕ) (k more : ℕ) → k < length counts → length table ≡ length counts
    → weighed s table (slice_set counts k (slice_index counts k + more)) ≡ weighed s table counts + when (same_state s (slice_index_or table k air)) more
weighed-raised s table [] k more low e = absurd (omega (arith, low))
weighed-raised s [] (n ∷ ns) k more low e = absurd (omega (arith, e))
weighed-raised s (t ∷ ts) (n ∷ ns) zero more low e = when_more (same_state s t) n more (weighed s ts ns)
weighed-raised s (t ∷ ts) (n ∷ ns) (suc k) more low e =
    let lower : k < length ns = omega (arith, low) in
    let rest : length ts ≡ length ns = omega (arith, e) in
    moved (when (same_state s t) n) _ _ _ (weighed-raised s ts ns k more lower rest)

-- none grows by more
pub raised-le : (xs : List ℕ) (m more k : ℕ) → slice_index (slice_set xs m (slice_index xs m + more)) k ≤ slice_index xs k + more
raised-le [] m more k = omega arith
raised-le (x ∷ xs) zero more zero = omega arith
raised-le (x ∷ xs) zero more (suc k) = omega arith
raised-le (x ∷ xs) (suc m) more zero = omega arith
raised-le (x ∷ xs) (suc m) more (suc k) = raised-le xs m more k

-- nothing was counted yet
pub weighed-zeros : (s : BlockState) (table : List BlockState) (n : ℕ) → weighed s table (replicate n 0) ≡ 0
weighed-zeros s [] n = refl
weighed-zeros s (t ∷ ts) zero = refl
weighed-zeros s (t ∷ ts) (suc n) = none (same_state s t) (weighed s ts (replicate n 0)) (weighed-zeros s ts n)
  where
    none : (b : Bool) (w : ℕ) → w ≡ 0 → when b 0 + w ≡ 0
    none true w e = omega (arith, e)
    none false w e = omega (arith, e)

pub zeros-le : (n k : ℕ) → slice_index (replicate n 0) k ≤ 0
zeros-le zero k = omega arith
zeros-le (suc n) zero = omega arith
zeros-le (suc n) (suc k) = zeros-le n k

-- ---- the first n numbers

there_is : (x y : BlockState) → Some x ≡ Some y → x ≡ y
there_is x y e = cc

weighed-next : (s t : BlockState) (table : List BlockState) (counts : List ℕ) (n : ℕ) → n < length counts → slice_get table n ≡ Some t
    → weighed s (take (suc n) table) (take (suc n) counts) ≡ weighed s (take n table) (take n counts) + when (same_state s t) (slice_index counts n)
weighed-next s t table [] n low there = absurd (omega (arith, low))
weighed-next s t [] (m ∷ ms) n low there = absurd (no_state there)
  where
    no_state : slice_get [] n ≡ Some t → ⊥
    no_state h = cc
weighed-next s t (u ∷ us) (m ∷ ms) zero low there =
    let e : u ≡ t = there_is u t there in
    let add : (x : ℕ) → x + 0 ≡ 0 + x = λ x. omega arith in
    ap (λ v. when (same_state s v) m + 0) e ∙ add (when (same_state s t) m)
weighed-next s t (u ∷ us) (m ∷ ms) (suc n) low there =
    let lower : n < length ms = omega (arith, low) in
    moved (when (same_state s u) m) _ _ _ (weighed-next s t us ms n lower there)

pub weighed-more : (s t : BlockState) (table : List BlockState) (counts : List ℕ) (n : ℕ) → n < length counts → slice_get table n ≡ Some t
    → weighed s (take (n + 1) table) (take (n + 1) counts) ≡ weighed s (take n table) (take n counts) + when (same_state s t) (slice_index counts n)
weighed-more s t table counts n low there =
    let next : n + 1 ≡ suc n = omega arith in
    ap (λ k. weighed s (take k table) (take k counts)) next ∙ weighed-next s t table counts n low there

when-le : (b : Bool) (m x y : ℕ) → x ≤ y → when b m + x ≤ when b m + y
when-le b m x y h = omega (arith, h)

pub weighed-take : (s : BlockState) (table : List BlockState) (counts : List ℕ) (n : ℕ) → weighed s (take n table) (take n counts) ≤ weighed s table counts
weighed-take s [] counts zero = omega arith
weighed-take s [] counts (suc n) = omega arith
weighed-take s (t ∷ ts) counts zero = omega arith
weighed-take s (t ∷ ts) [] (suc n) = omega arith
weighed-take s (t ∷ ts) (m ∷ ms) (suc n) = when-le (same_state s t) m _ _ (weighed-take s ts ms n)

-- ---- lists of blocks

pub times-append : (s : BlockState) (xs ys : List BlockState) → times s (xs ++ ys) ≡ times s xs + times s ys
times-append s xs ys = sum_by-append (λ x. cond (same_state s x) 1 0) xs ys

-- the first n + 1 places
pub times-place : (s : BlockState) (f : ℕ → BlockState) (n : ℕ) → times s (map f (range_with_len 0 (n + 1))) ≡ times s (map f (range_with_len 0 n)) + when (same_state s (f n)) 1
times-place s f n = sum_by-map-range_with_len_more (λ x. cond (same_state s x) 1 0) f 0 n n (omega arith)

all_step : (b : Bool) (n x : ℕ) → x ≡ when b n → x + when b 1 ≡ when b (suc n)
all_step true n x e = omega (arith, e)
all_step false n x e = omega (arith, e)

none_at : (b : Bool) → 0 ≡ when b 0
none_at true = refl
none_at false = refl

-- places that all have one state
pub times-same : (s t : BlockState) (f : ℕ → BlockState) (n : ℕ) → ((i : ℕ) → i < n → f i ≡ t) → times s (map f (range_with_len 0 n)) ≡ when (same_state s t) n
times-same s t f zero all = none_at (same_state s t)
times-same s t f (suc n) all =
    let next : suc n ≡ n + 1 = omega arith in
    let here : f n ≡ t = all n (omega arith) in
    ap (λ m. times s (map f (range_with_len 0 m))) next ∙ times-place s f n ∙ ap (λ u. times s (map f (range_with_len 0 n)) + when (same_state s u) 1) here
    ∙ all_step (same_state s t) n (times s (map f (range_with_len 0 n))) (times-same s t f n (λ i low. all i (omega (arith, low))))

pub joined-none : {A : Type 0} (f : ℕ → List A) → joined f 0 ≡ []
unfolding joined
joined-none f = refl

pub joined-more : {A : Type 0} (f : ℕ → List A) (n : ℕ) → joined f (n + 1) ≡ joined f n ++ f n
unfolding joined
joined-more f n =
    let next : n + 1 ≡ suc n = omega arith in
    ap (λ m. joined f m) next

pub times-joined : (s : BlockState) (f : ℕ → List BlockState) (n : ℕ) → times s (joined f (n + 1)) ≡ times s (joined f n) + times s (f n)
times-joined s f n = ap (times s) (joined-more f n) ∙ times-append s (joined f n) (f n)

-- the same lists
pub joined-same : {A : Type 0} (f g : ℕ → List A) (n : ℕ) → ((k : ℕ) → k < n → f k ≡ g k) → joined f n ≡ joined g n
unfolding joined
joined-same f g zero same = refl
joined-same f g (suc n) same = ap (λ xs. xs ++ f n) (joined-same f g n (λ k low. same k (omega (arith, low)))) ∙ ap (λ ys. joined g n ++ ys) (same n (omega arith))
