-- Rising lists of regions and of chunks.
use Rattle.std.proofs.Common.{◌≡◌, ◌∙◌, suc, ℤ, ◌<ℤ◌, ◌⊎◌, inl, inr, List, [], ◌∷◌, Bool, true, false, ◌&&◌, refl, sym, subst, arith, int_lt}
use Rattle.std.specs.Ordering.{is_lt, int_cmp, int_eq, ordering_then, MatchOrdering}
use Rattle.std.specs.List.{list_any}
use Rattle.std.specs.Cmp.{int_ranks}
use Rattle.std.specs.declared.cmp.Ordering.{Ordering}
use Rattle.std.specs.declared.cmp.Ordering.TheVariants.{Less, Equal, Greater}
use Rattle.std.proofs.lemmas.Int.{ints}
use Rattle.std.proofs.lemmas.Bool.{and_parts, and_from, or_cases, true≢false, false≢true}
use Rattle.std.proofs.lemmas.Bool.Decides.{Decides-int_eq}
use Rattle.av_document.proofs.Numbers.{lt_from}
use Rattle.av_types.specs.declared.position.ChunkPos.{ChunkPos}
use Rattle.av_types.specs.declared.position.RegionPos.{RegionPos}
use Rattle.av_world.specs.Index.{before, IsRising}
use Rattle.av_files.specs.Files.{region_after, regions_rise, chunk_order, chunks_rise}
use Rattle.av_region_files.specs.Regions.{region_order, same_region}
use Rattle.av_files.proofs.Coordinates.{same_region_is}

abbrev Below : RegionPos → RegionPos → Type 0
Below a b = (a.z <ℤ b.z) ⊎ ((a.z ≡ b.z) × (a.x <ℤ b.x))

below_by : (a b : Ordering) (x y z w : ℤ) → MatchOrdering a (x <ℤ y) (x ≡ y) (y <ℤ x) → MatchOrdering b (z <ℤ w) (z ≡ w) (w <ℤ z) → is_lt (ordering_then a b) ≡ true → (x <ℤ y) ⊎ ((x ≡ y) × (z <ℤ w))
below_by Less b x y z w p q h = inl p
below_by Equal Less x y z w p q h = inr (p, q)
below_by Equal Equal x y z w p q h = absurd (false≢true h)
below_by Equal Greater x y z w p q h = absurd (false≢true h)
below_by Greater b x y z w p q h = absurd (false≢true h)

below_from : (a b : RegionPos) → is_lt (region_order a b) ≡ true → Below a b
below_from a b h = below_by (int_cmp a.z b.z) (int_cmp a.x b.x) a.z b.z a.x b.x (int_ranks a.z b.z) (int_ranks a.x b.x) h

below_trans : (a b c : RegionPos) → Below a b → Below b c → Below a c
below_trans a b c (inl p) (inl q) = inl (omega (arith, ints))
below_trans a b c (inl p) (inr q) = inl (let e = q.0 in omega (arith, ints))
below_trans a b c (inr p) (inl q) = inl (let e = p.0 in omega (arith, ints))
below_trans a b c (inr p) (inr q) = inr (p.0 ∙ q.0, (let e = p.1 in let f = q.1 in omega (arith, ints)))

below_not : (a : RegionPos) → Below a a → ⊥
below_not a (inl p) = omega (arith, ints)
below_not a (inr p) = let e = p.1 in omega (arith, ints)

later_above : (x : RegionPos) (cs : List RegionPos) (c : RegionPos) → region_after x cs ≡ true → regions_rise cs ≡ true → list_any (same_region c) cs ≡ true → Below x c
later_above x [] c s r h = absurd (false≢true h)
later_above x (d ∷ ds) c s r h =
    let parts = and_parts (region_after d ds) (regions_rise ds) r in
    by (or_cases (same_region c d) (list_any (same_region c) ds) h) (below_from x d s) (later_above d ds c parts.0 parts.1) where
      by : ((same_region c d ≡ true) ⊎ (list_any (same_region c) ds ≡ true)) → Below x d → (list_any (same_region c) ds ≡ true → Below d c) → Below x c
      by (inl e) first more = subst (Below x) (sym (same_region_is c d e)) first
      by (inr e) first more = below_trans x d c first (more e)

pub not_later_region : (p q : RegionPos) (ps : List RegionPos) → regions_rise (p ∷ ps) ≡ true → list_any (same_region q) ps ≡ true → same_region p q ≡ false
not_later_region p q ps h is = by (same_region p q) refl where
  above : Below p q
  above = let parts = and_parts (region_after p ps) (regions_rise ps) h in later_above p ps q parts.0 parts.1 is

  by : (b : Bool) → same_region p q ≡ b → b ≡ false
  by true e = absurd (below_not p (subst (Below p) (sym (same_region_is p q e)) above))
  by false e = refl

total_by : (a b c d : Ordering) (x y z w : ℤ) → MatchOrdering a (x <ℤ y) (x ≡ y) (y <ℤ x) → MatchOrdering b (y <ℤ x) (y ≡ x) (x <ℤ y) → MatchOrdering c (z <ℤ w) (z ≡ w) (w <ℤ z) → MatchOrdering d (w <ℤ z) (w ≡ z) (z <ℤ w)
    → is_lt (ordering_then a c) ≡ false → (((x ≡ y) × (z ≡ w)) → ⊥) → is_lt (ordering_then b d) ≡ true
total_by Less b c d x y z w p q r s h n = absurd (true≢false h)
total_by Equal Less c d x y z w p q r s h n = absurd (omega (arith, ints))
total_by Equal Equal Less d x y z w p q r s h n = absurd (true≢false h)
total_by Equal Equal Equal d x y z w p q r s h n = absurd (n (p, r))
total_by Equal Equal Greater Less x y z w p q r s h n = refl
total_by Equal Equal Greater Equal x y z w p q r s h n = absurd (omega (arith, ints))
total_by Equal Equal Greater Greater x y z w p q r s h n = absurd (omega (arith, ints))
total_by Equal Greater c d x y z w p q r s h n = absurd (omega (arith, ints))
total_by Greater Less c d x y z w p q r s h n = refl
total_by Greater Equal c d x y z w p q r s h n = absurd (omega (arith, ints))
total_by Greater Greater c d x y z w p q r s h n = absurd (omega (arith, ints))

-- of two different regions one comes first
pub region_total : (a b : RegionPos) → is_lt (region_order b a) ≡ false → same_region a b ≡ false → is_lt (region_order a b) ≡ true
region_total a b h n = total_by (int_cmp b.z a.z) (int_cmp a.z b.z) (int_cmp b.x a.x) (int_cmp a.x b.x) b.z a.z b.x a.x (int_ranks b.z a.z) (int_ranks a.z b.z) (int_ranks b.x a.x) (int_ranks a.x b.x) h
    (λ e. true≢false (sym (and_from (int_eq a.x b.x) (int_eq a.z b.z) ((Decides-int_eq a.x b.x).1 (sym e.1)) ((Decides-int_eq a.z b.z).1 (sym e.0))) ∙ n))

-- ---- chunks

is_below : (a b : Ordering) (x y z w : ℤ) → MatchOrdering a (x <ℤ y) (x ≡ y) (y <ℤ x) → MatchOrdering b (z <ℤ w) (z ≡ w) (w <ℤ z) → (x <ℤ y) ⊎ ((x ≡ y) × (z <ℤ w)) → is_lt (ordering_then a b) ≡ true
is_below Less b x y z w p q h = refl
is_below Equal Less x y z w p q h = refl
is_below Equal Equal x y z w p q (inl h) = absurd (omega (arith, ints))
is_below Equal Equal x y z w p q (inr h) = absurd (let e = h.1 in omega (arith, ints))
is_below Equal Greater x y z w p q (inl h) = absurd (omega (arith, ints))
is_below Equal Greater x y z w p q (inr h) = absurd (let e = h.1 in omega (arith, ints))
is_below Greater b x y z w p q (inl h) = absurd (omega (arith, ints))
is_below Greater b x y z w p q (inr h) = absurd (let e = h.0 in omega (arith, ints))

comes_before : (p q : ChunkPos) → before p q ≡ true → is_lt (chunk_order p q) ≡ true
comes_before p q h = is_below (int_cmp p.z q.z) (int_cmp p.x q.x) p.z q.z p.x q.x (int_ranks p.z q.z) (int_ranks p.x q.x) (by (or_cases (int_lt p.z q.z) (int_eq p.z q.z && int_lt p.x q.x) h)) where
  by : ((int_lt p.z q.z ≡ true) ⊎ ((int_eq p.z q.z && int_lt p.x q.x) ≡ true)) → (p.z <ℤ q.z) ⊎ ((p.z ≡ q.z) × (p.x <ℤ q.x))
  by (inl e) = inl (lt_from p.z q.z e)
  by (inr e) = let parts = and_parts (int_eq p.z q.z) (int_lt p.x q.x) e in inr ((Decides-int_eq p.z q.z).0 parts.0, lt_from p.x q.x parts.1)

pub rises : (ps : List ChunkPos) → IsRising ps → chunks_rise ps ≡ true
rises [] h = refl
rises (p ∷ []) h = refl
rises (p ∷ q ∷ ps) h = and_from (is_lt (chunk_order p q)) (chunks_rise (q ∷ ps)) (comes_before p q (h 0 1 p (omega arith) (omega arith))) (rises (q ∷ ps) (λ i j d lt less. h (suc i) (suc j) d (omega (arith, lt)) (omega (arith, less))))
