-- What is read of a world and the parcels that are out of it.
use Rattle.std.proofs.Common.{◌≡◌, ℕ, zero, suc, Bool, true, false, cond, List, [], ◌∷◌, Option, None, Some, ◌⊎◌, inl, inr, refl, sym, ap, ◌∙◌, subst, arith, slice_get, slice_set}
use Rattle.av_types.specs.declared.position.Pos.{Pos}
use Rattle.av_cells.specs.World.{World}
use Rattle.av_inter.specs.Out.{Out}
use Rattle.av_inter.specs.Whole.{read}
use Rattle.av_inter.specs.Lawful.{HasOut}

-- no parcel that is out has the block
abbrev pub IsOff : Option Out → Pos → Type 0
IsOff None q = Unit {0}
IsOff (Some o) q = o.blocks.loaded q ≡ false

abbrev pub AreOff : List (Option Out) → Pos → Type 0
AreOff os q = (n : ℕ) (o : Out) → HasOut os n o → o.blocks.loaded q ≡ false

pub read_off : {X : Type 0} (f : World → Pos → X) (os : List (Option Out)) (rest : World) (q : Pos) → AreOff os q → read f os rest q ≡ f rest q
read_off f [] rest q h = refl
read_off f (None ∷ os) rest q h = read_off f os rest q (λ n o e. h (suc n) o e)
read_off f (Some p ∷ os) rest q h = ap (λ b. cond b (f p.blocks q) (read f os rest q)) (h zero p refl) ∙ read_off f os rest q (λ n o e. h (suc n) o e)

pub read_own : {X : Type 0} (f : World → Pos → X) (os : List (Option Out)) (rest : World) (q : Pos) (n : ℕ) (o : Out) → HasOut os n o → o.blocks.loaded q ≡ true
    → ((m : ℕ) (p : Out) → HasOut os m p → p.blocks.loaded q ≡ true → m ≡ n) → read f os rest q ≡ f o.blocks q
read_own f [] rest q n o e t alone = cc
read_own f (None ∷ os) rest q zero o e t alone = cc
read_own f (None ∷ os) rest q (suc n) o e t alone = read_own f os rest q n o e t (λ m p d u. let k = alone (suc m) p d u in omega arith)
read_own f (Some p ∷ os) rest q zero o e t alone =
    let g : p ≡ o = cc in
    ap (λ b. cond b (f p.blocks q) (read f os rest q)) (subst (λ (r : Out). r.blocks.loaded q ≡ true) (sym g) t) ∙ ap (λ (r : Out). f r.blocks q) g
read_own {X} f (Some p ∷ os) rest q (suc n) o e t alone = by (p.blocks.loaded q) refl (read_own f os rest q n o e t (λ m r d u. let k = alone (suc m) r d u in omega arith)) where
  by : (b : Bool) → p.blocks.loaded q ≡ b → read f os rest q ≡ f o.blocks q → cond b (f p.blocks q) (read f os rest q) ≡ f o.blocks q
  by true d more = absurd (let k = alone zero p refl d in omega arith)
  by false d more = more

read_skip : {X : Type 0} (f : World → Pos → X) (x : Option Out) (os : List (Option Out)) (rest : World) (q : Pos) → IsOff x q → read f (x ∷ os) rest q ≡ read f os rest q
read_skip f None os rest q h = refl
read_skip f (Some p) os rest q h = ap (λ b. cond b (f p.blocks q) (read f os rest q)) h

pub read_other : {X : Type 0} (f : World → Pos → X) (os : List (Option Out)) (rest : World) (q : Pos) (n : ℕ) (old new : Option Out) → slice_get os n ≡ Some old → IsOff old q → IsOff new q
    → read f (slice_set os n new) rest q ≡ read f os rest q
read_other f [] rest q n old new e h g = cc
read_other f (x ∷ os) rest q zero old new e h g = let d : x ≡ old = cc in read_skip f new os rest q g ∙ sym (read_skip f x os rest q (subst (λ y. IsOff y q) (sym d) h))
read_other f (None ∷ os) rest q (suc n) old new e h g = read_other f os rest q n old new e h g
read_other f (Some p ∷ os) rest q (suc n) old new e h g = ap (λ r. cond (p.blocks.loaded q) (f p.blocks q) r) (read_other f os rest q n old new e h g)

pub read_rest : {X : Type 0} (f : World → Pos → X) (os : List (Option Out)) (old new : World) (q : Pos) → f new q ≡ f old q → read f os new q ≡ read f os old q
read_rest f [] old new q h = h
read_rest f (None ∷ os) old new q h = read_rest f os old new q h
read_rest f (Some p ∷ os) old new q h = ap (λ r. cond (p.blocks.loaded q) (f p.blocks q) r) (read_rest f os old new q h)

-- a parcel that has the block, or none has it
pub which : (os : List (Option Out)) (q : Pos) → ((n : ℕ) × (o : Out) × HasOut os n o × (o.blocks.loaded q ≡ true)) ⊎ AreOff os q
which [] q = inr (λ n o e. cc)
which (None ∷ os) q = by (which os q) where
  by : ((n : ℕ) × (o : Out) × HasOut os n o × (o.blocks.loaded q ≡ true)) ⊎ AreOff os q → ((n : ℕ) × (o : Out) × HasOut (None ∷ os) n o × (o.blocks.loaded q ≡ true)) ⊎ AreOff (None ∷ os) q
  by (inl w) = inl (suc w.0, w.1, w.2, w.3)
  by (inr h) = inr off where
    off : (n : ℕ) (o : Out) → HasOut (None ∷ os) n o → o.blocks.loaded q ≡ false
    off zero o e = cc
    off (suc n) o e = h n o e
which (Some p ∷ os) q = by (p.blocks.loaded q) refl (which os q) where
  by : (b : Bool) → p.blocks.loaded q ≡ b → ((n : ℕ) × (o : Out) × HasOut os n o × (o.blocks.loaded q ≡ true)) ⊎ AreOff os q → ((n : ℕ) × (o : Out) × HasOut (Some p ∷ os) n o × (o.blocks.loaded q ≡ true)) ⊎ AreOff (Some p ∷ os) q
  by true t more = inl (zero, p, refl, t)
  by false t (inl w) = inl (suc w.0, w.1, w.2, w.3)
  by false t (inr h) = inr off where
    off : (n : ℕ) (o : Out) → HasOut (Some p ∷ os) n o → o.blocks.loaded q ≡ false
    off zero o e = let g : p ≡ o = cc in subst (λ (r : Out). r.blocks.loaded q ≡ false) g t
    off (suc n) o e = h n o e
