-- Paths of light, and where light matters.
use Rattle.std.proofs.Common.{◌≡◌, ℕ, ◌+◌, ◌-◌, ◌<◌, ◌≤◌, ◌⊎◌, inl, inr, suc, zero, IsTrue, pos, ◌+ℤ◌, ◌-ℤ◌, ◌≤ℤ◌, ℤ, List, [], ◌∷◌, ◌++◌, get_or, refl, sym, ap, subst, arith}
use Rattle.std.proofs.lemmas.Int.{ints}
use Rattle.av_types.specs.declared.position.Pos.{Pos}
use Rattle.av_types.specs.declared.position.ChunkPos.{ChunkPos}
use Rattle.av_flood.specs.Light.{Terrain, IsAdjacent, sides, cost, costs, IsLightPath, last_of, light_along, HasLight, IsLight}
use Rattle.av_flood.specs.Flooding.{Matters, IsNearAlong}

-- a step moves a coordinate by 1 at most
record IsNext (a b : ℤ) : Type 0 where
  below : a ≤ℤ (b +ℤ pos 1)
  above : b ≤ℤ (a +ℤ pos 1)

-- and one of them alone
abbrev AreNext : Pos → Pos → Type 0
AreNext p q = (IsNext p.x q.x × (p.z ≡ q.z)) ⊎ ((p.x ≡ q.x) × IsNext p.z q.z)

next_same : (a b : ℤ) → a ≡ b → IsNext a b
next_same a b e = record { below = omega (arith, ints); above = omega (arith, ints) }

next_less : (a b : ℤ) → a -ℤ pos 1 ≡ b → IsNext a b
next_less a b e = record { below = omega (arith, ints); above = omega (arith, ints) }

next_more : (a b : ℤ) → a +ℤ pos 1 ≡ b → IsNext a b
next_more a b e = record { below = omega (arith, ints); above = omega (arith, ints) }

next_at : (p q : Pos) (k : ℕ) → k < 6 → get_or (sides p) k q ≡ q → AreNext p q
next_at p q zero l e = inr (ap (λ r. r.x) e, next_same _ _ (ap (λ r. r.z) e))
next_at p q (suc zero) l e = inr (ap (λ r. r.x) e, next_same _ _ (ap (λ r. r.z) e))
next_at p q (suc (suc zero)) l e = inr (ap (λ r. r.x) e, next_less _ _ (ap (λ r. r.z) e))
next_at p q (suc (suc (suc zero))) l e = inr (ap (λ r. r.x) e, next_more _ _ (ap (λ r. r.z) e))
next_at p q (suc (suc (suc (suc zero)))) l e = inl (next_less _ _ (ap (λ r. r.x) e), ap (λ r. r.z) e)
next_at p q (suc (suc (suc (suc (suc zero))))) l e = inl (next_more _ _ (ap (λ r. r.x) e), ap (λ r. r.z) e)
next_at p q (suc (suc (suc (suc (suc (suc k)))))) l e = absurd (omega arith)

adjacent_next : (p q : Pos) → IsAdjacent p q → AreNext p q
adjacent_next p q a = next_at p q a.0 a.1 a.2

near_before : (from : ℤ) (n : ℕ) (x y : ℤ) → IsNext x y → IsNearAlong from n y → IsNearAlong from (n + 1) x
near_before from n x y s h = let a = s.below in let b = s.above in let c = h.low in let d = h.high in record { low = omega (arith, ints); high = omega (arith, ints) }

near_same : (from : ℤ) (n : ℕ) (x y : ℤ) → x ≡ y → IsNearAlong from n y → IsNearAlong from n x
near_same from n x y e h = subst (IsNearAlong from n) (sym e) h

-- where light comes from matters if where it comes to does
pub Matters-before : (c : ChunkPos) (n m : ℕ) (p q : Pos) → IsAdjacent q p → n < m → Matters c n p → Matters c m q
Matters-before c n m p q a l h = on (adjacent_next q p a) where
  on : AreNext q p → Matters c m q
  on (inl s) = record {
    over_x = h.over_x + 1;
    over_z = h.over_z;
    less = let k = h.less in omega arith;
    along_x = near_before _ _ _ _ s.0 h.along_x;
    along_z = near_same _ _ _ _ s.1 h.along_z;
  }
  on (inr s) = record {
    over_x = h.over_x;
    over_z = h.over_z + 1;
    less = let k = h.less in omega arith;
    along_x = near_same _ _ _ _ s.0 h.along_x;
    along_z = near_before _ _ _ _ s.1 h.along_z;
  }

pub Matters-more : (c : ChunkPos) (n m : ℕ) (p : Pos) → n ≤ m → Matters c n p → Matters c m p
Matters-more c n m p l h = record { over_x = h.over_x; over_z = h.over_z; less = let k = h.less in omega arith; along_x = h.along_x; along_z = h.along_z }

-- one block more at the end of a path
IsLightPath-more : (g : Terrain) (c : Pos) (ps : List Pos) (p q : Pos) → IsLightPath g c ps → last_of c ps ≡ p → IsAdjacent p q → IsTrue (g.loaded q) → IsLightPath g c (ps ++ q ∷ [])
IsLightPath-more g c [] p q h e a l = (h, subst (λ r. IsAdjacent r q) (sym e) a, l)
IsLightPath-more g c (r ∷ rs) p q h e a l = (h.0, h.1, IsLightPath-more g r rs p q h.2 e a l)

last_of-more : (c : Pos) (ps : List Pos) (q : Pos) → last_of c (ps ++ q ∷ []) ≡ q
last_of-more c [] q = refl
last_of-more c (p ∷ ps) q = last_of-more p ps q

costs-more : (g : Terrain) (ps : List Pos) (q : Pos) → costs g (ps ++ q ∷ []) ≡ costs g ps + cost g q
costs-more g [] q = omega arith
costs-more g (p ∷ ps) q = let h = costs-more g ps q in omega arith

pub HasLight-next : (g : Terrain) (q p : Pos) (n m : ℕ) → IsAdjacent q p → IsTrue (g.loaded p) → m + cost g p ≡ n → HasLight g q n → HasLight g p m
HasLight-next g q p n m a l e h =
    let c = costs-more g h.over p in
    let b : g.emission h.from - costs g h.over ≡ n = h.brings in
    record {
      from = h.from;
      over = h.over ++ p ∷ [];
      path = record { path = IsLightPath-more g h.from h.over q p h.path.path h.path.ends a l; ends = last_of-more h.from h.over p };
      brings = omega arith;
    }

pub HasLight-emitted : (g : Terrain) (p : Pos) → IsTrue (g.loaded p) → HasLight g p (g.emission p)
HasLight-emitted g p l = record { from = p; over = []; path = record { path = l; ends = refl }; brings = omega arith }

-- no light comes to a block that is not loaded
last_loaded : (g : Terrain) (c : Pos) (ps : List Pos) → IsLightPath g c ps → IsTrue (g.loaded (last_of c ps))
last_loaded g c [] h = h
last_loaded g c (p ∷ ps) h = last_loaded g p ps h.2

pub IsLight-unloaded : (g : Terrain) (p : Pos) → (IsTrue (g.loaded p) → ⊥) → IsLight g p 0
IsLight-unloaded g p none = record { comes = inl refl; most = λ c ps path. absurd (none (subst (λ q. IsTrue (g.loaded q)) path.ends (last_loaded g c ps path.path))) }

-- each block whose light matters has as much as it emits and as comes from beside it
pub record IsClosed (g : Terrain) (c : ChunkPos) (lit : Pos → ℕ) : Type 0 where
  pub emits : (p : Pos) → IsTrue (g.loaded p) → (v : ℕ) → 0 < v → v ≤ g.emission p → Matters c v p → v ≤ lit p
  pub spreads : (q p : Pos) → IsAdjacent q p → IsTrue (g.loaded p) → (v : ℕ) → 0 < v → v + cost g p ≤ lit q → Matters c v p → v ≤ lit p

-- what comes along a path is there
along : (g : Terrain) (c : ChunkPos) (lit : Pos → ℕ) → IsClosed g c lit → (p q : Pos) (ps : List Pos) (n : ℕ)
    → ((v : ℕ) → 0 < v → v ≤ n → Matters c v q → v ≤ lit q) → IsLightPath g q ps → last_of q ps ≡ p
    → (v : ℕ) → 0 < v → v ≤ n - costs g ps → Matters c v p → v ≤ lit p
along g c lit closed p q [] n here path ends v positive less matters =
    subst (λ r. v ≤ lit r) ends (here v positive (omega arith) (subst (Matters c v) (sym ends) matters))
along g c lit closed p q (r ∷ rs) n here path ends v positive less matters =
    along g c lit closed p r rs (n - cost g r)
    (λ u above most near. closed.spreads q r path.1 (first_loaded r rs path.2) u above
    (here (u + cost g r) (omega arith) (omega arith) (Matters-before c u (u + cost g r) r q path.1 (let one : 1 ≤ cost g r = omega arith in omega arith) near)) near)
    path.2 ends v positive (omega arith) matters
  where
    first_loaded : (s : Pos) (ss : List Pos) → IsLightPath g s ss → IsTrue (g.loaded s)
    first_loaded s [] h = h
    first_loaded s (t ∷ ts) h = h.0

pub IsLight-closed : (g : Terrain) (c : ChunkPos) (lit : Pos → ℕ) → IsClosed g c lit → ((p : Pos) → 0 < lit p → HasLight g p (lit p)) → (p : Pos) → Matters c 1 p → IsLight g p (lit p)
IsLight-closed g c lit closed sound p inside =
    record {
      comes = zero_or (lit p) (sound p);
      most = λ q ps path. greatest (light_along g q ps) (lit p) (λ v positive less.
          along g c lit closed p q ps (g.emission q)
          (λ u above most near. closed.emits q (first_loaded q ps path.path) u above most near)
          path.path path.ends v positive less (Matters-more c 1 v p positive inside));
    }
  where
    zero_or : (n : ℕ) → (0 < n → HasLight g p n) → (n ≡ 0) ⊎ HasLight g p n
    zero_or zero h = inl refl
    zero_or (suc n) h = inr (h (omega arith))

    greatest : (n m : ℕ) → ((v : ℕ) → 0 < v → v ≤ n → v ≤ m) → n ≤ m
    greatest zero m h = omega arith
    greatest (suc n) m h = h (suc n) (omega arith) (omega arith)

    first_loaded : (s : Pos) (ss : List Pos) → IsLightPath g s ss → IsTrue (g.loaded s)
    first_loaded s [] h = h
    first_loaded s (t ∷ ts) h = h.0
