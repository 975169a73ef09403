-- Parts of a world put over its blocks one after the other.
use Rattle.std.proofs.Common.{◌≡◌, ℕ, Bool, true, false, cond, List, [], ◌∷◌, refl, ap, ◌∙◌, inl, inr}
use Rattle.std.specs.List.{AllByRecursion, AllZip}
use Rattle.av_types.specs.Positions.{chunk_of}
use Rattle.av_types.specs.declared.position.Pos.{Pos}
use Rattle.av_ticks.specs.Entries.{is_pending}
use Rattle.av_cells.specs.World.{World, Lists}
use Rattle.av_world.specs.OutOf.{mended}
use Rattle.av_crew.specs.Jobs.{mended_all}
use Rattle.av_crew.proofs.Totals.{Has}

-- the block has this number, and waits as the lists say
pub record IsAt (l : Lists) (q : Pos) (n : ℕ) (w : World) : Type 0 where
  pub loaded : w.loaded q ≡ true
  pub number : w.number q ≡ n
  pub pending : w.pending q ≡ is_pending q (l (chunk_of q))

pub record SameAt (q : Pos) (v w : World) : Type 0 where
  pub loaded : v.loaded q ≡ w.loaded q
  pub number : v.number q ≡ w.number q
  pub pending : v.pending q ≡ w.pending q

module _ {X : Type 0} (part : X → World) (l : Lists) (q : Pos) where
  -- where it is there, it has this number
  abbrev pub Tells : ℕ → X → Type 0
  Tells n x = (part x).loaded q ≡ true → (part x).number q ≡ n

  put : (n : ℕ) (x : X) (w : World) → (part x).loaded q ≡ true → Tells n x → IsAt l q n (mended l (part x) w)
  put n x w t e = record { loaded = ap (λ b. cond b true (w.loaded q)) t; number = ap (λ b. cond b ((part x).number q) (w.number q)) t ∙ e t; pending = ap (λ b. cond b (is_pending q (l (chunk_of q))) (w.pending q)) t }

  past : (x : X) (w : World) → (part x).loaded q ≡ false → SameAt q (mended l (part x) w) w
  past x w f = record { loaded = ap (λ b. cond b true (w.loaded q)) f; number = ap (λ b. cond b ((part x).number q) (w.number q)) f; pending = ap (λ b. cond b (is_pending q (l (chunk_of q))) (w.pending q)) f }

  at_past : (n : ℕ) (x : X) (w : World) → Tells n x → IsAt l q n w → IsAt l q n (mended l (part x) w)
  at_past n x w e a = by ((part x).loaded q) refl where
    by : (b : Bool) → (part x).loaded q ≡ b → IsAt l q n (mended l (part x) w)
    by true t = put n x w t e
    by false f = let s = past x w f in record { loaded = s.loaded ∙ a.loaded; number = s.number ∙ a.number; pending = s.pending ∙ a.pending }

  stays : (n : ℕ) (xs : List X) (w : World) → AllByRecursion (Tells n) xs → IsAt l q n w → IsAt l q n (mended_all part l xs w)
  stays n [] w e a = a
  stays n (x ∷ xs) w e a = stays n xs (mended l (part x) w) e.1 (at_past n x w e.0 a)

  pub found : (n : ℕ) (xs : List X) (w : World) → AllByRecursion (Tells n) xs → Has (λ x. (part x).loaded q ≡ true) xs → IsAt l q n (mended_all part l xs w)
  found n [] w e h = absurd h
  found n (x ∷ xs) w e (inl t) = stays n xs (mended l (part x) w) e.1 (put n x w t e.0)
  found n (x ∷ xs) w e (inr h) = found n xs (mended l (part x) w) e.1 h

  pub passed : (xs : List X) (w : World) → AllByRecursion (λ x. (part x).loaded q ≡ false) xs → SameAt q (mended_all part l xs w) w
  passed [] w e = record { loaded = refl; number = refl; pending = refl }
  passed (x ∷ xs) w e =
      let s = past x w e.0 in
      let r = passed xs (mended l (part x) w) e.1 in
      record { loaded = r.loaded ∙ s.loaded; number = r.number ∙ s.number; pending = r.pending ∙ s.pending }

pub mended_zip : {X Y : Type 0} (R : X → Y → Type 0) (f : X → World) (h : Y → World) → ((x : X) (y : Y) → R x y → h y ≡ f x) → (l : Lists) (xs : List X) (ys : List Y) (w : World) → AllZip R xs ys → mended_all h l ys w ≡ mended_all f l xs w
mended_zip R f h e l [] [] w z = refl
mended_zip R f h e l [] (y ∷ ys) w z = absurd z
mended_zip R f h e l (x ∷ xs) [] w z = absurd z
mended_zip R f h e l (x ∷ xs) (y ∷ ys) w z = ap (λ v. mended_all h l ys (mended l v w)) (e x y z.0) ∙ mended_zip R f h e l xs ys (mended l (f x) w) z.1
