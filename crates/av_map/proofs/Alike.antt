-- Columns that look alike show the same.
use Rattle.std.proofs.Common.{inl, inr, ◌-◌, subst, ◌≡◌, ℕ, zero, suc, ◌+◌, ◌<◌, ◌≤◌, Option, Some, None, option_map, Bool, true, false, cond, refl, sym, ap, ◌∙◌, arith}
use Rattle.std.specs.Prelude.{not}
use Rattle.std.proofs.lemmas.Option.{same_Some}
use Rattle.std.proofs.Math.Nat.{eq-or-lt_of_le}
use Rattle.av_map.specs.Columns.{top_in, depth_in, sight_at, block_sight, light_sight, deepened, grey}
use Rattle.av_map.specs.declared.look.Look.{Look}
use Rattle.av_map.specs.declared.sight.Sight.{Sight}

-- blocks of air at the top change nothing
pub top_above : (f : ℕ → Look) (low high : ℕ) → low ≤ high → ((k : ℕ) → low ≤ k → (f k).is_air ≡ true) → top_in f high ≡ top_in f low
top_above f low zero h air = let e : zero ≡ low = omega (arith, h) in ap (top_in f) e
top_above f low (suc n) h air = elim (eq-or-lt_of_le h) [
  | inl e ↦ ap (top_in f) (sym e)
  | inr lt ↦ (let le : low ≤ n = omega (arith, lt) in rw (air n le) (top_above f low n le air))
]

-- the top is one of the blocks
pub top_below : (f : ℕ → Look) (n k : ℕ) → top_in f n ≡ Some k → k < n
top_below f zero k e = cc
top_below f (suc n) k e = step (f n).is_air (λ q. top_below f n k q) e
  where
    step : (b : Bool) → (top_in f n ≡ Some k → k < n) → cond b (top_in f n) (Some n) ≡ Some k → k < suc n
    step true below q = let lt = below q in omega (arith, lt)
    step false below q = let same : n ≡ k = same_Some n k q in omega (arith, same)

pub top_same : (f g : ℕ → Look) (n : ℕ) → ((k : ℕ) → k < n → f k ≡ g k) → top_in f n ≡ top_in g n
top_same f g zero e = refl
top_same f g (suc n) e =
    ap (λ (x : Look). cond x.is_air (top_in f n) (Some n)) (e n (omega arith))
    ∙ ap (λ o. cond (g n).is_air o (Some n)) (top_same f g n (λ k h. e k (omega arith)))

pub depth_same : (f g : ℕ → Look) (n : ℕ) → ((k : ℕ) → k < n → f k ≡ g k) → depth_in f n ≡ depth_in g n
depth_same f g zero e = refl
depth_same f g (suc n) e =
    ap (λ (x : Look). cond x.is_water (suc (depth_in f n)) 0) (e n (omega arith))
    ∙ ap (λ d. cond (g n).is_water (suc d) 0) (depth_same f g n (λ k h. e k (omega arith)))

pub option_same : {A B : Type 0} (f g : A → B) (o : Option A) → ((x : A) → o ≡ Some x → f x ≡ g x) → option_map f o ≡ option_map g o
option_same f g None e = refl
option_same f g (Some x) e = ap Some (e x refl)

sight_same : (f g : ℕ → Look) (k : ℕ) → ((j : ℕ) → j < suc k → f j ≡ g j) → sight_at f k ≡ sight_at g k
sight_same f g k e =
    ap (λ (x : Look). shown x (depth_in f (suc k))) (e k (omega arith)) ∙ ap (shown (g k)) (depth_same f g (suc k) e)
  where
    shown : Look → ℕ → Sight
    shown x depth = record { top = k; colour = cond x.is_water (deepened depth x.colour) x.colour; is_sloped = not x.is_water }

pub block_sight_same : (f g : ℕ → Look) (n : ℕ) → ((k : ℕ) → k < n → f k ≡ g k) → block_sight f n ≡ block_sight g n
block_sight_same f g n e =
    ap (option_map (sight_at f)) (top_same f g n e)
    ∙ option_same (sight_at f) (sight_at g) (top_in g n) (λ k h. let lt = top_below g n k h in sight_same f g k (λ j low. e j (omega arith)))

pub light_sight_same : (f g : ℕ → Look) (l m : ℕ → ℕ) (n : ℕ) → ((k : ℕ) → k < n → f k ≡ g k) → ((k : ℕ) → l k ≡ m k) → light_sight f l n ≡ light_sight g m n
light_sight_same f g l m n e d =
    ap (option_map _) (top_same f g n e)
    ∙ option_same _ _ (top_in g n) (λ k h. ap (λ level. record { top = k; colour = grey level; is_sloped = false }) (d (suc k)))

-- ---- a block further down

pub top_step : (f : ℕ → Look) (blocks block : ℕ) → 0 < block → (f (block - 1)).is_air ≡ true → top_in f block ≡ top_in f blocks → top_in f (block - 1) ≡ top_in f blocks
top_step f blocks zero low air e = absurd (omega arith)
top_step f blocks (suc m) low air e =
    let back : suc m - 1 ≡ m = omega arith in
    let here : (f m).is_air ≡ true = subst (λ k. (f k).is_air ≡ true) back air in
    ap (top_in f) back ∙ sym (ap (λ b. cond b (top_in f m) (Some m)) here) ∙ e

pub depth_step : (f : ℕ → Look) (blocks block : ℕ) → 0 < block → block ≤ blocks → (f (block - 1)).is_water ≡ true → (blocks - block) + depth_in f block ≡ depth_in f blocks
    → (blocks - (block - 1)) + depth_in f (block - 1) ≡ depth_in f blocks
depth_step f blocks zero low within water e = absurd (omega arith)
depth_step f blocks (suc m) low within water e =
    let back : suc m - 1 ≡ m = omega arith in
    let here : (f m).is_water ≡ true = subst (λ k. (f k).is_water ≡ true) back water in
    let deeper : depth_in f (suc m) ≡ suc (depth_in f m) = ap (λ b. cond b (suc (depth_in f m)) 0) here in
    ap (λ k. (blocks - k) + depth_in f k) back ∙ omega (arith, deeper, within, e)
