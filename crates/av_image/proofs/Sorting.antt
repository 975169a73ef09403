-- Files and chunks in order.
use Rattle.std.proofs.Common.{◌≡◌, ◌≢◌, ◌∙◌, ℤ, ◌<ℤ◌, ◌≤ℤ◌, ◌⊎◌, inl, inr, List, [], ◌∷◌, Bool, true, false, ◌||◌, ◌&&◌, cond, Option, Some, None, refl, ap, sym, subst, arith, map, int_lt}
use Rattle.std.specs.Ordering.{is_lt, int_cmp, int_eq, ordering_then, MatchOrdering}
use Rattle.std.specs.Cmp.{int_ranks, IsStrictWeakOrder}
use Rattle.std.specs.declared.cmp.Ordering.{Ordering}
use Rattle.std.specs.declared.cmp.Ordering.TheVariants.{Less, Equal, Greater}
use Rattle.std.proofs.lemmas.Int.{ints}
use Rattle.std.proofs.lemmas.Cmp.{then_total, on_total, int_cmp_total}
use Rattle.std.proofs.lemmas.List.Sorted.{ranks_by}
use Rattle.std.proofs.lemmas.Bool.{false≢true}
use Rattle.std.proofs.lemmas.Bool.Decides.{Decides-int_eq}
use Rattle.av_types.specs.declared.position.ChunkPos.{ChunkPos}
use Rattle.av_types.specs.declared.position.RegionPos.{RegionPos}
use Rattle.av_types.proofs.SamePositions.{same_chunk_is}
use Rattle.av_types.specs.Order.{inserted, ordered}
use Rattle.av_chunk.specs.declared.chunk.Chunk.{Chunk}
use Rattle.av_cells.specs.Positions.{same_chunk}
use Rattle.av_world.proofs.Search.{lt_tells, eq_tells}
use Rattle.av_files.specs.Files.{regions_rise, in_order}
use Rattle.av_region_files.specs.Regions.{region_order}
use Rattle.av_region_files.specs.declared.files.RegionFile.{RegionFile}
use Rattle.av_image.specs.declared.reading.splits.LoadedChunk.{LoadedChunk}
use Rattle.av_image.specs.Splits.{chunk_found, HasAt, IsWorldOf}
use Rattle.av_image.specs.Loading.{positioned_order, region_before, comes_after, rises_from}
use Rattle.av_image.specs.Views.{file_in}

pub positioned_laws : IsStrictWeakOrder (λ x y. is_lt (positioned_order x y))
positioned_laws = ranks_by (then_total (on_total (λ (e : LoadedChunk). e.at.z) int_cmp_total) (on_total (λ (e : LoadedChunk). e.at.x) int_cmp_total)) (λ (e : LoadedChunk). e)

abbrev pub file_order : RegionFile → RegionFile → Ordering
file_order a b = region_order a.pos b.pos

pub file_laws : IsStrictWeakOrder (λ x y. is_lt (file_order x y))
file_laws = ranks_by (then_total (on_total (λ (e : RegionFile). e.pos.z) int_cmp_total) (on_total (λ (e : RegionFile). e.pos.x) int_cmp_total)) (λ (e : RegionFile). e)

map_if : (b : Bool) (xs ys : List RegionFile) → map file_in (cond b xs ys) ≡ cond b (map file_in xs) (map file_in ys)
map_if true xs ys = refl
map_if false xs ys = refl

map_inserted : (f : RegionFile) (fs : List RegionFile) → map file_in (inserted file_order f fs) ≡ inserted (λ a b. region_order a.pos b.pos) (file_in f) (map file_in fs)
map_inserted f [] = refl
map_inserted f (g ∷ gs) =
    map_if (is_lt (file_order g f)) (g ∷ inserted file_order f gs) (f ∷ g ∷ gs)
    ∙ ap (λ l. cond (is_lt (file_order g f)) (file_in g ∷ l) (file_in f ∷ file_in g ∷ map file_in gs)) (map_inserted f gs)

pub map_ordered : (fs : List RegionFile) → map file_in (ordered file_order fs) ≡ in_order (map file_in fs)
map_ordered [] = refl
map_ordered (f ∷ fs) = map_inserted f (ordered file_order fs) ∙ ap (λ l. inserted (λ a b. region_order a.pos b.pos) (file_in f) l) (map_ordered fs)

-- ---- tests of orders

not_lt : (a b : ℤ) → b ≤ℤ a → int_lt a b ≡ false
not_lt a b h = by (lt_tells a b) where
  by : ((int_lt a b ≡ true) × (a <ℤ b)) ⊎ ((int_lt a b ≡ false) × (b ≤ℤ a)) → int_lt a b ≡ false
  by (inl p) = absurd (let e = p.1 in omega (arith, ints))
  by (inr p) = p.0

is_less : (a b : ℤ) → a <ℤ b → int_lt a b ≡ true
is_less a b h = by (lt_tells a b) where
  by : ((int_lt a b ≡ true) × (a <ℤ b)) ⊎ ((int_lt a b ≡ false) × (b ≤ℤ a)) → int_lt a b ≡ true
  by (inl p) = p.0
  by (inr p) = absurd (let e = p.1 in omega (arith, ints))

not_eq : (a b : ℤ) → a ≢ b → int_eq a b ≡ false
not_eq a b h = by (eq_tells a b) where
  by : ((int_eq a b ≡ true) × (a ≡ b)) ⊎ ((int_eq a b ≡ false) × (a ≢ b)) → int_eq a b ≡ false
  by (inl p) = absurd (h p.1)
  by (inr p) = p.0

lt_cmp : (o : Ordering) (a b : ℤ) → MatchOrdering o (a <ℤ b) (a ≡ b) (b <ℤ a) → int_lt a b ≡ is_lt o
lt_cmp Less a b p = is_less a b p
lt_cmp Equal a b p = not_lt a b (let e = p in omega (arith, ints))
lt_cmp Greater a b p = not_lt a b (omega (arith, ints))

eq_cmp : (o : Ordering) (a b : ℤ) → MatchOrdering o (a <ℤ b) (a ≡ b) (b <ℤ a) → (c d : ℤ) (r : Ordering) → int_lt c d ≡ is_lt r → (int_lt a b || (int_eq a b && int_lt c d)) ≡ is_lt (ordering_then o r)
eq_cmp Less a b p c d r e = ap (λ t. t || (int_eq a b && int_lt c d)) (is_less a b p)
eq_cmp Equal a b p c d r e = ap (λ t. t || (int_eq a b && int_lt c d)) (not_lt a b (let k = p in omega (arith, ints))) ∙ (ap (λ t. t && int_lt c d) ((Decides-int_eq a b).1 p) ∙ e)
eq_cmp Greater a b p c d r e = ap (λ t. t || (int_eq a b && int_lt c d)) (not_lt a b (omega (arith, ints))) ∙ ap (λ t. t && int_lt c d) (not_eq a b (λ k. omega (arith, ints)))

pub before_is : (p q : RegionPos) → region_before p q ≡ is_lt (region_order p q)
before_is p q = eq_cmp (int_cmp p.z q.z) p.z q.z (int_ranks p.z q.z) p.x q.x (int_cmp p.x q.x) (lt_cmp (int_cmp p.x q.x) p.x q.x (int_ranks p.x q.x))

pub rises_step : (o : Option RegionPos) (p : RegionPos) (ps : List RegionPos) → rises_from o (p ∷ ps) ≡ (comes_after o p && rises_from (Some p) ps)
rises_step None p ps = refl
rises_step (Some q) p ps = ap (λ b. b && regions_rise (p ∷ ps)) (sym (before_is q p))

-- ---- chunks found are the same in another order

equal_is : (o r : Ordering) (a b c d : ℤ) → MatchOrdering o (a <ℤ b) (a ≡ b) (b <ℤ a) → MatchOrdering r (c <ℤ d) (c ≡ d) (d <ℤ c) → is_lt (ordering_then o r) ≡ true → (a ≡ b) → (c ≡ d) → ⊥
equal_is Less r a b c d p q h e f = omega (arith, ints)
equal_is Equal Less a b c d p q h e f = omega (arith, ints)
equal_is Equal Equal a b c d p q h e f = false≢true h
equal_is Equal Greater a b c d p q h e f = false≢true h
equal_is Greater r a b c d p q h e f = false≢true h

pub found_inserted : (x : LoadedChunk) (xs : List LoadedChunk) (c : ChunkPos) → chunk_found (inserted positioned_order x xs) c ≡ cond (same_chunk x.at c) (Some x.chunk) (chunk_found xs c)
found_inserted x [] c = refl
found_inserted x (y ∷ ys) c = by (is_lt (positioned_order y x)) refl (found_inserted x ys c) where
  swap : (a b : Bool) (o : Option Chunk) → same_chunk x.at c ≡ a → same_chunk y.at c ≡ b → is_lt (positioned_order y x) ≡ true → cond b (Some y.chunk) (cond a (Some x.chunk) o) ≡ cond a (Some x.chunk) (cond b (Some y.chunk) o)
  swap true true o e f lt =
      let same : y.at ≡ x.at = same_chunk_is y.at c f ∙ sym (same_chunk_is x.at c e) in
      absurd (equal_is (int_cmp y.at.z x.at.z) (int_cmp y.at.x x.at.x) y.at.z x.at.z y.at.x x.at.x (int_ranks y.at.z x.at.z) (int_ranks y.at.x x.at.x) lt (ap (λ k. k.z) same) (ap (λ k. k.x) same))
  swap true false o e f lt = refl
  swap false true o e f lt = refl
  swap false false o e f lt = refl

  by : (b : Bool) → is_lt (positioned_order y x) ≡ b → chunk_found (inserted positioned_order x ys) c ≡ cond (same_chunk x.at c) (Some x.chunk) (chunk_found ys c)
      → chunk_found (cond b (y ∷ inserted positioned_order x ys) (x ∷ y ∷ ys)) c ≡ cond (same_chunk x.at c) (Some x.chunk) (chunk_found (y ∷ ys) c)
  by true lt more = ap (λ o. cond (same_chunk y.at c) (Some y.chunk) o) more ∙ swap (same_chunk x.at c) (same_chunk y.at c) (chunk_found ys c) refl refl lt
  by false lt more = refl

pub found_ordered : (xs : List LoadedChunk) (c : ChunkPos) → chunk_found (ordered positioned_order xs) c ≡ chunk_found xs c
found_ordered [] c = refl
found_ordered (x ∷ xs) c = found_inserted x (ordered positioned_order xs) c ∙ ap (λ o. cond (same_chunk x.at c) (Some x.chunk) o) (found_ordered xs c)

pub world_ordered : (h : _) (xs : List LoadedChunk) (w : _) → IsWorldOf h (ordered positioned_order xs) w → IsWorldOf h xs w
world_ordered h xs w is = record { height_is = is.height_is; each = λ c. subst (HasAt h w c) (found_ordered xs c) (is.each c) }
