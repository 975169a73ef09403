-- Chunks in order, each once, are known from which there are.
use Rattle.std.proofs.Common.{◌≡◌, ◌∙◌, ℤ, ◌<ℤ◌, ◌⊎◌, inl, inr, List, [], ◌∷◌, Bool, true, false, ◌||◌, refl, ap, sym, subst, arith}
use Rattle.std.specs.Ordering.{is_lt, int_cmp, ordering_then, MatchOrdering}
use Rattle.std.specs.Cmp.{int_ranks}
use Rattle.std.specs.declared.cmp.Ordering.{Ordering}
use Rattle.std.specs.declared.cmp.Ordering.TheVariants.{Less, Equal, Greater}
use Rattle.std.proofs.lemmas.Int.{ints}
use Rattle.std.proofs.lemmas.Bool.{and_parts, or_cases, false≢true}
use Rattle.av_types.specs.declared.position.ChunkPos.{ChunkPos}
use Rattle.av_types.proofs.SamePositions.{same_chunk_is, same_chunk-refl}
use Rattle.av_cells.specs.Positions.{same_chunk}
use Rattle.av_land.specs.Land.{has_chunk}
use Rattle.av_files.specs.Files.{chunk_order, starts_after, chunks_rise}

abbrev Below : ChunkPos → ChunkPos → Type 0
Below a b = (a.z <ℤ b.z) ⊎ ((a.z ≡ b.z) × (a.x <ℤ b.x))

below_by : (a b : Ordering) (x y z w : ℤ) → MatchOrdering a (x <ℤ y) (x ≡ y) (y <ℤ x) → MatchOrdering b (z <ℤ w) (z ≡ w) (w <ℤ z) → is_lt (ordering_then a b) ≡ true → (x <ℤ y) ⊎ ((x ≡ y) × (z <ℤ w))
below_by Less b x y z w p q h = inl p
below_by Equal Less x y z w p q h = inr (p, q)
below_by Equal Equal x y z w p q h = absurd (false≢true h)
below_by Equal Greater x y z w p q h = absurd (false≢true h)
below_by Greater b x y z w p q h = absurd (false≢true h)

below_from : (a b : ChunkPos) → is_lt (chunk_order a b) ≡ true → Below a b
below_from a b h = below_by (int_cmp a.z b.z) (int_cmp a.x b.x) a.z b.z a.x b.x (int_ranks a.z b.z) (int_ranks a.x b.x) h

below_trans : (a b c : ChunkPos) → Below a b → Below b c → Below a c
below_trans a b c (inl p) (inl q) = inl (omega (arith, ints))
below_trans a b c (inl p) (inr q) = inl (let e = q.0 in omega (arith, ints))
below_trans a b c (inr p) (inl q) = inl (let e = p.0 in omega (arith, ints))
below_trans a b c (inr p) (inr q) = inr (p.0 ∙ q.0, (let e = p.1 in let f = q.1 in omega (arith, ints)))

below_not : (a : ChunkPos) → Below a a → ⊥
below_not a (inl p) = omega (arith, ints)
below_not a (inr p) = let e = p.1 in omega (arith, ints)

-- what stands later in a rising list is above
later_above : (x : ChunkPos) (cs : List ChunkPos) (c : ChunkPos) → starts_after x cs ≡ true → chunks_rise cs ≡ true → has_chunk cs c ≡ true → Below x c
later_above x [] c s r h = absurd (false≢true h)
later_above x (d ∷ ds) c s r h =
    let parts = and_parts (starts_after d ds) (chunks_rise ds) r in
    let first = below_from x d s in
    by (or_cases (same_chunk d c) (has_chunk ds c) h) first (later_above d ds c parts.0 parts.1) where
      by : ((same_chunk d c ≡ true) ⊎ (has_chunk ds c ≡ true)) → Below x d → (has_chunk ds c ≡ true → Below d c) → Below x c
      by (inl e) first more = subst (Below x) (same_chunk_is d c e) first
      by (inr e) first more = below_trans x d c first (more e)

not_later : (x : ChunkPos) (cs : List ChunkPos) → starts_after x cs ≡ true → chunks_rise cs ≡ true → has_chunk cs x ≡ false
not_later x cs s r = by (has_chunk cs x) refl where
  by : (b : Bool) → has_chunk cs x ≡ b → b ≡ false
  by true e = absurd (below_not x (later_above x cs x s r e))
  by false e = refl

here : (c : ChunkPos) (cs : List ChunkPos) → has_chunk (c ∷ cs) c ≡ true
here c cs = ap (λ b. b || has_chunk cs c) (same_chunk-refl c)

same_head : (x y : ChunkPos) (xs ys : List ChunkPos) → starts_after x xs ≡ true → chunks_rise xs ≡ true → starts_after y ys ≡ true → chunks_rise ys ≡ true
    → ((c : ChunkPos) → has_chunk (x ∷ xs) c ≡ has_chunk (y ∷ ys) c) → x ≡ y
same_head x y xs ys sx rx sy ry h =
    by (or_cases (same_chunk y x) (has_chunk ys x) (sym (h x) ∙ here x xs)) (or_cases (same_chunk x y) (has_chunk xs y) (h y ∙ here y ys)) where
      by : ((same_chunk y x ≡ true) ⊎ (has_chunk ys x ≡ true)) → ((same_chunk x y ≡ true) ⊎ (has_chunk xs y ≡ true)) → x ≡ y
      by (inl e) q = sym (same_chunk_is y x e)
      by (inr e) (inl f) = same_chunk_is x y f
      by (inr e) (inr f) = absurd (below_not x (below_trans x y x (later_above x xs y sx rx f) (later_above y ys x sy ry e)))

same_tail : (x : ChunkPos) (xs ys : List ChunkPos) → has_chunk xs x ≡ false → has_chunk ys x ≡ false → ((c : ChunkPos) → has_chunk (x ∷ xs) c ≡ has_chunk (x ∷ ys) c) → (c : ChunkPos) → has_chunk xs c ≡ has_chunk ys c
same_tail x xs ys nx ny h c = by (same_chunk x c) refl (h c) where
  by : (b : Bool) → same_chunk x c ≡ b → (b || has_chunk xs c) ≡ (b || has_chunk ys c) → has_chunk xs c ≡ has_chunk ys c
  by true e k = subst (λ d. has_chunk xs d ≡ has_chunk ys d) (same_chunk_is x c e) (nx ∙ sym ny)
  by false e k = k

pub rising_same : (xs ys : List ChunkPos) → chunks_rise xs ≡ true → chunks_rise ys ≡ true → ((c : ChunkPos) → has_chunk xs c ≡ has_chunk ys c) → xs ≡ ys
rising_same [] [] rx ry h = refl
rising_same [] (y ∷ ys) rx ry h = absurd (false≢true (h y ∙ here y ys))
rising_same (x ∷ xs) [] rx ry h = absurd (false≢true (sym (h x) ∙ here x xs))
rising_same (x ∷ xs) (y ∷ ys) rx ry h =
    let px = and_parts (starts_after x xs) (chunks_rise xs) rx in
    let py = and_parts (starts_after y ys) (chunks_rise ys) ry in
    let first = same_head x y xs ys px.0 px.1 py.0 py.1 h in
    let nx = not_later x xs px.0 px.1 in
    let ny : has_chunk ys x ≡ false = subst (λ c. has_chunk ys c ≡ false) (sym first) (not_later y ys py.0 py.1) in
    let h' : (c : ChunkPos) → has_chunk (x ∷ xs) c ≡ has_chunk (x ∷ ys) c = subst (λ z. (c : ChunkPos) → has_chunk (x ∷ xs) c ≡ has_chunk (z ∷ ys) c) (sym first) h in
    let rest = rising_same xs ys px.1 py.1 (same_tail x xs ys nx ny h') in
    λ i. first i ∷ rest i
