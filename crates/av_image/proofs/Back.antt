-- Chunks of regions: each index is that of its chunk alone.
use Rattle.std.proofs.Common.{◌≡◌, ◌≢◌, ◌∙◌, ℕ, zero, suc, ◌+◌, ◌<◌, ◌≤◌, List, [], ◌∷◌, ◌++◌, length, Bool, true, false, cond, Option, Some, None, refl, ap, sym, arith}
use Rattle.std.specs.List.{slice_get}
use Rattle.std.proofs.lemmas.Bool.{false≢true}
use Rattle.av_types.specs.Positions.{region_of, index_of, chunk_at}
use Rattle.av_types.specs.declared.position.ChunkPos.{ChunkPos}
use Rattle.av_types.specs.declared.position.RegionPos.{RegionPos}
use Rattle.av_types.proofs.Coordinates.{region_back, index_back}
use Rattle.av_types.proofs.SamePositions.{same_chunk_is, same_chunk-refl}
use Rattle.av_chunk.specs.declared.chunk.Chunk.{Chunk}
use Rattle.av_cells.specs.Positions.{same_chunk}
use Rattle.av_region_files.specs.Regions.{same_region}
use Rattle.av_files.proofs.Coordinates.{same_region_is, same_region-refl}
use Rattle.av_image.specs.declared.reading.stored.Stored.{Stored}
use Rattle.av_image.specs.declared.reading.stored.Stored.TheVariants.{Absent, Kept, Full}
use Rattle.av_image.specs.declared.reading.splits.LoadedChunk.{LoadedChunk}
use Rattle.av_image.specs.Splits.{positioned_of, positioned_from, chunk_found}
use Rattle.av_image.proofs.Worlds.{found_append, first_some}

pub other_region : (a b : RegionPos) → same_region a b ≡ false → same_region b a ≡ false
other_region a b h = by (same_region b a) refl where
  by : (t : Bool) → same_region b a ≡ t → t ≡ false
  by true e = absurd (false≢true (sym h ∙ (ap (λ x. same_region x b) (sym (same_region_is b a e)) ∙ same_region-refl b)))
  by false e = refl

pub apart_at : (r : RegionPos) (i j : ℕ) → i < 1024 → j < 1024 → i ≢ j → same_chunk (chunk_at r i) (chunk_at r j) ≡ false
apart_at r i j li lj not = by (same_chunk (chunk_at r i) (chunk_at r j)) refl where
  by : (t : Bool) → same_chunk (chunk_at r i) (chunk_at r j) ≡ t → t ≡ false
  by true e = absurd (not (sym (index_back r i li) ∙ (ap index_of (same_chunk_is (chunk_at r i) (chunk_at r j) e) ∙ index_back r j lj)))
  by false e = refl

pub away_at : (r : RegionPos) (i : ℕ) (c : ChunkPos) → i < 1024 → same_region r (region_of c) ≡ false → same_chunk (chunk_at r i) c ≡ false
away_at r i c li away = by (same_chunk (chunk_at r i) c) refl where
  by : (t : Bool) → same_chunk (chunk_at r i) c ≡ t → t ≡ false
  by true e = absurd (false≢true (sym away ∙ (ap (λ x. same_region r x) (ap region_of (sym (same_chunk_is (chunk_at r i) c e)) ∙ region_back r i li) ∙ same_region-refl r)))
  by false e = refl

-- ---- chunks found among those of indices

abbrev pub chunk_in : Option Stored → Option Chunk
chunk_in None = None
chunk_in (Some Absent) = None
chunk_in (Some (Kept p)) = None
chunk_in (Some (Full chunk rest)) = Some chunk

of_other : (c d : ChunkPos) (p : Stored) → same_chunk c d ≡ false → chunk_found (positioned_of c p) d ≡ None
of_other c d Absent e = refl
of_other c d (Kept p) e = refl
of_other c d (Full chunk rest) e = ap (λ b. cond b (Some chunk) None) e

of_own : (c : ChunkPos) (p : Stored) → chunk_found (positioned_of c p) c ≡ chunk_in (Some p)
of_own c Absent = refl
of_own c (Kept p) = refl
of_own c (Full chunk rest) = ap (λ b. cond b (Some chunk) None) (same_chunk-refl c)

pub found_none_of : (xs ys : List LoadedChunk) (c : ChunkPos) → chunk_found xs c ≡ None → chunk_found (xs ++ ys) c ≡ chunk_found ys c
found_none_of xs ys c e = found_append xs ys c ∙ ap (λ o. first_some o (chunk_found ys c)) e

-- those of another region
pub found_away : (r : RegionPos) (n : ℕ) (ps : List Stored) (c : ChunkPos) → n + length ps ≤ 1024 → same_region r (region_of c) ≡ false → chunk_found (positioned_from r n ps) c ≡ None
found_away r n [] c few away = refl
found_away r n (p ∷ ps) c few away =
    let li : n < 1024 = omega (arith, few) in
    let m : (n + 1) + length ps ≤ 1024 = omega (arith, few) in
    found_none_of (positioned_of (chunk_at r n) p) (positioned_from r (n + 1) ps) c (of_other (chunk_at r n) c p (away_at r n c li away)) ∙ found_away r (n + 1) ps c m away

pub found_before : (r : RegionPos) (n : ℕ) (ps : List Stored) (i : ℕ) → n + length ps ≤ 1024 → i < 1024 → i < n → chunk_found (positioned_from r n ps) (chunk_at r i) ≡ None
found_before r n [] i few li lt = refl
found_before r n (p ∷ ps) i few li lt =
    let ln : n < 1024 = omega (arith, few) in
    let not : n ≢ i = λ e. omega (arith, e, lt) in
    let m : (n + 1) + length ps ≤ 1024 = omega (arith, few) in
    let lt' : i < n + 1 = omega (arith, lt) in
    found_none_of (positioned_of (chunk_at r n) p) (positioned_from r (n + 1) ps) (chunk_at r i) (of_other (chunk_at r n) (chunk_at r i) p (apart_at r n i ln li not)) ∙ found_before r (n + 1) ps i m li lt'

pub or_none : (o : Option Chunk) → first_some o None ≡ o
or_none None = refl
or_none (Some x) = refl

pub found_from : (r : RegionPos) (n : ℕ) (ps : List Stored) (k i : ℕ) → n + length ps ≤ 1024 → n + k ≡ i → i < 1024 → chunk_found (positioned_from r n ps) (chunk_at r i) ≡ chunk_in (slice_get ps k)
found_from r n [] k i few is li = refl
found_from r n (p ∷ ps) zero i few is li =
    let same : n ≡ i = omega (arith, is) in
    let m : (n + 1) + length ps ≤ 1024 = omega (arith, few) in
    let lt : i < n + 1 = omega (arith, is) in
    found_append (positioned_of (chunk_at r n) p) (positioned_from r (n + 1) ps) (chunk_at r i)
    ∙ (ap (λ o. first_some (chunk_found (positioned_of (chunk_at r n) p) (chunk_at r i)) o) (found_before r (n + 1) ps i m li lt)
    ∙ (or_none (chunk_found (positioned_of (chunk_at r n) p) (chunk_at r i))
    ∙ (ap (λ j. chunk_found (positioned_of (chunk_at r j) p) (chunk_at r i)) same ∙ of_own (chunk_at r i) p)))
found_from r n (p ∷ ps) (suc k) i few is li =
    let ln : n < 1024 = omega (arith, few) in
    let not : n ≢ i = λ e. omega (arith, e, is) in
    let m : (n + 1) + length ps ≤ 1024 = omega (arith, few) in
    let next : (n + 1) + k ≡ i = omega (arith, is) in
    found_none_of (positioned_of (chunk_at r n) p) (positioned_from r (n + 1) ps) (chunk_at r i) (of_other (chunk_at r n) (chunk_at r i) p (apart_at r n i ln li not)) ∙ found_from r (n + 1) ps k i m next li
