-- Tags placed, found and taken out by name.
use Rattle.std.proofs.Common.{◌≡◌, List, [], ◌∷◌, ℕ, Bool, true, false, Some, None, cond, refl, sym, ap, ◌∙◌}
use Rattle.std.specs.Prelude.{is_some}
use Rattle.std.specs.Str.{bytes_eq}
use Rattle.std.proofs.lemmas.Slice.Eq.{bytes_eq-Decides}
use Rattle.std.proofs.lemmas.Bool.{false≢true, true≢false}
use Rattle.av_tags.specs.Nbt.{Nbt, NamedTag}
use Rattle.av_tags.specs.ByName.{tag_of, with_tag, without}

pub bytes_eq-refl : (n : List ℕ) → bytes_eq n n ≡ true
bytes_eq-refl n = (bytes_eq-Decides n n).1 refl

bytes_eq-sym_true : (a b : List ℕ) (v : Bool) → bytes_eq b a ≡ v → bytes_eq a b ≡ false → v ≡ false
bytes_eq-sym_true a b true e f = let same : b ≡ a = (bytes_eq-Decides b a).0 e in absurd (true≢false (sym ((bytes_eq-Decides a b).1 (sym same)) ∙ f))
bytes_eq-sym_true a b false e f = refl

pub bytes_eq-turned : (a b : List ℕ) → bytes_eq a b ≡ false → bytes_eq b a ≡ false
bytes_eq-turned a b f = bytes_eq-sym_true a b (bytes_eq b a) refl f

abbrev named : List ℕ → Nbt → NamedTag
named n t = record { name = n; tag = t }

pub tag_of-place_same : (n : List ℕ) (t : Nbt) (ms : List NamedTag) → tag_of n (with_tag n t ms) ≡ Some t
tag_of-place_same n t [] = ap (λ b. cond b (Some t) None) (bytes_eq-refl n)
tag_of-place_same n t (m ∷ ms) = by (bytes_eq n m.name) refl (tag_of-place_same n t ms) where
  by : (b : Bool) → bytes_eq n m.name ≡ b → tag_of n (with_tag n t ms) ≡ Some t → tag_of n (cond b (named n t ∷ ms) (m ∷ with_tag n t ms)) ≡ Some t
  by true e more = ap (λ b. cond b (Some t) (tag_of n ms)) (bytes_eq-refl n)
  by false e more = ap (λ b. cond b (Some m.tag) (tag_of n (with_tag n t ms))) e ∙ more

pub tag_of-place_other : (k n : List ℕ) (t : Nbt) (ms : List NamedTag) → bytes_eq k n ≡ false → tag_of k (with_tag n t ms) ≡ tag_of k ms
tag_of-place_other k n t [] ne = ap (λ b. cond b (Some t) None) ne
tag_of-place_other k n t (m ∷ ms) ne = by (bytes_eq n m.name) refl (tag_of-place_other k n t ms ne) where
  by : (b : Bool) → bytes_eq n m.name ≡ b → tag_of k (with_tag n t ms) ≡ tag_of k ms → tag_of k (cond b (named n t ∷ ms) (m ∷ with_tag n t ms)) ≡ tag_of k (m ∷ ms)
  by true e more =
      let same : n ≡ m.name = (bytes_eq-Decides n m.name).0 e in
      ap (λ b. cond b (Some t) (tag_of k ms)) ne ∙ sym (ap (λ b. cond b (Some m.tag) (tag_of k ms)) (ap (bytes_eq k) (sym same) ∙ ne))
  by false e more = ap (λ o. cond (bytes_eq k m.name) (Some m.tag) o) more

pub place-place : (n : List ℕ) (t s : Nbt) (ms : List NamedTag) → with_tag n t (with_tag n s ms) ≡ with_tag n t ms
place-place n t s [] = ap (λ b. cond b (named n t ∷ []) (named n s ∷ with_tag n t [])) (bytes_eq-refl n)
place-place n t s (m ∷ ms) = by (bytes_eq n m.name) refl (place-place n t s ms) where
  by : (b : Bool) → bytes_eq n m.name ≡ b → with_tag n t (with_tag n s ms) ≡ with_tag n t ms → with_tag n t (cond b (named n s ∷ ms) (m ∷ with_tag n s ms)) ≡ cond b (named n t ∷ ms) (m ∷ with_tag n t ms)
  by true e more = ap (λ b. cond b (named n t ∷ ms) (named n s ∷ with_tag n t ms)) (bytes_eq-refl n)
  by false e more = ap (λ b. cond b (named n t ∷ with_tag n s ms) (m ∷ with_tag n t (with_tag n s ms))) e ∙ ap (λ l. m ∷ l) more

-- tags of two names can be placed in either order, where the first has a place
pub place-comm : (a b : List ℕ) (x y : Nbt) (ms : List NamedTag) → bytes_eq a b ≡ false → is_some (tag_of a ms) ≡ true → with_tag a x (with_tag b y ms) ≡ with_tag b y (with_tag a x ms)
place-comm a b x y [] ne has = absurd (false≢true has)
place-comm a b x y (m ∷ ms) ne has = by (bytes_eq b m.name) refl (bytes_eq a m.name) refl (place-comm a b x y ms ne) where
  by : (p : Bool) → bytes_eq b m.name ≡ p → (q : Bool) → bytes_eq a m.name ≡ q → (is_some (tag_of a ms) ≡ true → with_tag a x (with_tag b y ms) ≡ with_tag b y (with_tag a x ms))
      → with_tag a x (cond p (named b y ∷ ms) (m ∷ with_tag b y ms)) ≡ with_tag b y (cond q (named a x ∷ ms) (m ∷ with_tag a x ms))
  by true e true f more =
      let one : b ≡ m.name = (bytes_eq-Decides b m.name).0 e in
      let two : a ≡ m.name = (bytes_eq-Decides a m.name).0 f in
      absurd (true≢false (sym ((bytes_eq-Decides a b).1 (two ∙ sym one)) ∙ ne))
  by true e false f more =
      ap (λ v. cond v (named a x ∷ ms) (named b y ∷ with_tag a x ms)) ne ∙ sym (ap (λ v. cond v (named b y ∷ with_tag a x ms) (m ∷ with_tag b y (with_tag a x ms))) e)
  by false e true f more =
      ap (λ v. cond v (named a x ∷ with_tag b y ms) (m ∷ with_tag a x (with_tag b y ms))) f ∙ sym (ap (λ v. cond v (named b y ∷ ms) (named a x ∷ with_tag b y ms)) (bytes_eq-turned a b ne))
  by false e false f more =
      let there : is_some (tag_of a ms) ≡ true = sym (ap (λ v. is_some (cond v (Some m.tag) (tag_of a ms))) f) ∙ has in
      ap (λ v. cond v (named a x ∷ with_tag b y ms) (m ∷ with_tag a x (with_tag b y ms))) f
      ∙ ap (λ l. m ∷ l) (more there)
      ∙ sym (ap (λ v. cond v (named b y ∷ with_tag a x ms) (m ∷ with_tag b y (with_tag a x ms))) e)

-- tags that have two places keep them when those are filled and emptied again
pub two_places : (a b : List ℕ) (u v x y : Nbt) (ms : List NamedTag) → bytes_eq a b ≡ false
    → with_tag a u (with_tag b v (with_tag a x (with_tag b y (with_tag a u (with_tag b v ms))))) ≡ with_tag a u (with_tag b v ms)
two_places a b u v x y ms ne =
    let en : bytes_eq b a ≡ false = bytes_eq-turned a b ne in
    let inner : List NamedTag = with_tag b v ms in
    let r : List NamedTag = with_tag a u inner in
    let has_a : is_some (tag_of a r) ≡ true = ap is_some (tag_of-place_same a u inner) in
    let has_b_inner : is_some (tag_of b inner) ≡ true = ap is_some (tag_of-place_same b v ms) in
    let has_b : is_some (tag_of b r) ≡ true = ap is_some (tag_of-place_other b a u inner en) ∙ has_b_inner in
    ap (λ l. with_tag a u (with_tag b v l)) (place-comm a b x y r ne has_a)
    ∙ ap (with_tag a u) (place-place b v y (with_tag a x r) ∙ place-comm b a v x r en has_b)
    ∙ place-place a u x (with_tag b v r)
    ∙ ap (with_tag a u) (place-comm b a v u inner en has_b_inner ∙ ap (with_tag a u) (place-place b v v ms))
    ∙ place-place a u u inner

pub without-without : (n : List ℕ) (ms : List NamedTag) → without n (without n ms) ≡ without n ms
without-without n [] = refl
without-without n (m ∷ ms) = by (bytes_eq n m.name) refl (without-without n ms) where
  by : (b : Bool) → bytes_eq n m.name ≡ b → without n (without n ms) ≡ without n ms → without n (cond b (without n ms) (m ∷ without n ms)) ≡ cond b (without n ms) (m ∷ without n ms)
  by true e more = more
  by false e more = ap (λ b. cond b (without n (without n ms)) (m ∷ without n (without n ms))) e ∙ ap (λ l. m ∷ l) more

pub without-comm : (a b : List ℕ) (ms : List NamedTag) → without a (without b ms) ≡ without b (without a ms)
without-comm a b [] = refl
without-comm a b (m ∷ ms) = by (bytes_eq a m.name) refl (bytes_eq b m.name) refl (without-comm a b ms) where
  by : (p : Bool) → bytes_eq a m.name ≡ p → (q : Bool) → bytes_eq b m.name ≡ q → without a (without b ms) ≡ without b (without a ms)
      → without a (cond q (without b ms) (m ∷ without b ms)) ≡ without b (cond p (without a ms) (m ∷ without a ms))
  by true e true f more = more
  by true e false f more = ap (λ v. cond v (without a (without b ms)) (m ∷ without a (without b ms))) e ∙ more
  by false e true f more = more ∙ sym (ap (λ v. cond v (without b (without a ms)) (m ∷ without b (without a ms))) f)
  by false e false f more =
      ap (λ v. cond v (without a (without b ms)) (m ∷ without a (without b ms))) e
      ∙ ap (λ l. m ∷ l) more
      ∙ sym (ap (λ v. cond v (without b (without a ms)) (m ∷ without b (without a ms))) f)

-- tags that were taken out are not there
pub without_two_again : (a b : List ℕ) (ms : List NamedTag) → without a (without b (without a (without b ms))) ≡ without a (without b ms)
without_two_again a b ms =
    ap (without a) (without-comm b a (without b ms) ∙ ap (without a) (without-without b ms)) ∙ without-without a (without b ms)

pub tag_of-without : (n : List ℕ) (ms : List NamedTag) → tag_of n (without n ms) ≡ None
tag_of-without n [] = refl
tag_of-without n (m ∷ ms) = by (bytes_eq n m.name) refl (tag_of-without n ms) where
  by : (b : Bool) → bytes_eq n m.name ≡ b → tag_of n (without n ms) ≡ None → tag_of n (cond b (without n ms) (m ∷ without n ms)) ≡ None
  by true e more = more
  by false e more = ap (λ b. cond b (Some m.tag) (tag_of n (without n ms))) e ∙ more
