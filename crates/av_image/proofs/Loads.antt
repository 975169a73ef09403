-- What the parts of a loader need of each other.
use Rattle.std.proofs.Common.{ℤ, ◌≡◌, ◌∙◌, ◌^◌, ℕ, suc, zero, ◌+◌, ◌<◌, ◌≤◌, List, [], ◌∷◌, ◌++◌, length, Bool, true, false, ◌&&◌, cond, Option, Some, None, refl, ap, sym, subst, arith, map, IsTrue, All}
use Rattle.std.specs.Prelude.{slice_get, slice_index_or}
use Rattle.std.specs.List.{AllByRecursion, list_any, flat_map}
use Rattle.std.specs.Ordering.{is_lt}
use Rattle.std.proofs.lemmas.Bool.{and_parts, and_from, false≢true, or_parts}
use Rattle.std.proofs.lemmas.Option.{none-some, same_Some}
use Rattle.av_types.specs.Positions.{chunk_at, region_of, section_of, chunk_of, is_block_of, IsInLimits}
use Rattle.av_types.specs.declared.position.Height.{Height}
use Rattle.av_types.specs.declared.position.Pos.{Pos}
use Rattle.av_types.specs.declared.position.ChunkPos.{ChunkPos}
use Rattle.av_types.specs.declared.position.RegionPos.{RegionPos}
use Rattle.av_state.specs.BlockState.{BlockState}
use Rattle.av_chunk.specs.declared.chunk.Chunk.{Chunk}
use Rattle.av_cells.specs.Positions.{same_chunk}
use Rattle.std.specs.Prelude.{IsSome}
use Rattle.std.specs.Ordering.{int_eq}
use Rattle.std.proofs.lemmas.Bool.Decides.{Decides-int_eq}
use Rattle.std.proofs.lemmas.Option.{slice_get_within}
use Rattle.std.proofs.lemmas.List.{length-append}
use Rattle.std.proofs.lemmas.List.Elements.{All-cons, All-from_recursion}
use Rattle.av_types.proofs.Each.{each_then, each_append}
use Rattle.av_types.specs.Division.{divided}
use Rattle.av_types.specs.Positions.{place_of, is_section_of}
use Rattle.av_types.proofs.Coordinates.{region_back}
use Rattle.av_types.proofs.SamePositions.{same_chunk_is}
use Rattle.av_tags.specs.Nbt.{Document}
use Rattle.av_types.specs.Options.{◌>>=◌}
use Rattle.av_tags.specs.Shape.{or_else}
use Rattle.av_section.specs.Section.{number_at, is_pending as is_pending_at}
use Rattle.av_section.specs.declared.section.Section.{Section}
use Rattle.av_section.specs.Reading.{OnlyGrows}
use Rattle.av_ticks.specs.Entries.{is_pending}
use Rattle.av_ticks.specs.Ticks.{entries}
use Rattle.av_document.specs.Ticks.{lies_in}
use Rattle.av_chunk.specs.Views.{section_in}
use Rattle.av_chunk.specs.Reading.{IsLoaded}
use Rattle.av_chunk.specs.declared.rest.ChunkRest.{ChunkRest}
use Rattle.av_cells.specs.Grid.{number_in as number_in_filling, pending_in as pending_in_filling, is_here}
use Rattle.av_world.specs.Sections.{filling_in}
use Rattle.av_world.specs.Inserted.{chunk_grid}
use Rattle.av_world.specs.Inserted.{IsNewChunk}
use Rattle.av_world.specs.declared.worlds.World.{World}
use Rattle.av_types.specs.Order.{inserted, ordered}
use Rattle.av_files.specs.Files.{File, regions_rise, region_after}
use Rattle.av_region_files.specs.Regions.{same_region}
use Rattle.av_files.specs.Laws.{StampsFit}
use Rattle.av_image.specs.declared.reading.stored.Stored.{Stored}
use Rattle.av_image.specs.declared.reading.stored.Stored.TheVariants.{Absent, Kept, Full}
use Rattle.av_image.specs.declared.reading.regions.ReadRegion.{ReadRegion}
use Rattle.av_image.specs.declared.rest.RegionRest.{RegionRest}
use Rattle.av_image.specs.declared.reading.splits.LoadedChunk.{LoadedChunk}
use Rattle.av_image.specs.RegionsRead.{WasReadAt, WasRegionRead, WereRegionsRead}
use Rattle.av_image.specs.Loading.{positioned_order}
use Rattle.av_land.specs.Land.{is_loaded}
use Rattle.av_world.specs.Views.{grid}
use Rattle.av_world.specs.Lands.{land_of, IsUncarved}
use Rattle.av_image.specs.Views.{rest_view, region_found, stamp_in}
use Rattle.av_image.specs.Splits.{positioned_in, positioned_from, AreSplit, chunk_found, ArePositionedOnce, HasAt, IsWorldOf}
use Rattle.av_image.proofs.Back.{other_region, found_away, found_before, found_none_of}
use Rattle.av_image.proofs.Worlds.{not_same}
use Rattle.av_image.proofs.Sorting.{found_inserted, found_ordered}
use Rattle.av_files.proofs.Sorted.{all_ordered}
use Rattle.av_files.proofs.Coordinates.{same_region-refl}
use Rattle.av_image.proofs.Rises.{not_later_region}

-- ---- limits and counts of regions that were read

pub limits_of : (h : Height) (t : List BlockState) (fs : List File) (rs : List ReadRegion) → WereRegionsRead h t fs rs → All (λ r. IsInLimits r.pos) rs
limits_of h t [] [] w = λ k d lt. absurd (omega (arith, lt))
limits_of h t (f ∷ fs) (r ∷ rs) w = All-cons (λ r. IsInLimits r.pos) r rs (subst IsInLimits (sym w.0.pos_is) w.0.limits) (limits_of h t fs rs w.1)
limits_of h t [] (r ∷ rs) w = absurd w
limits_of h t (f ∷ fs) [] w = absurd w

pub counts_of : (h : Height) (t : List BlockState) (fs : List File) (rs : List ReadRegion) → WereRegionsRead h t fs rs → All (λ r. length r.stored.items ≤ 1024) rs
counts_of h t [] [] w = λ k d lt. absurd (omega (arith, lt))
counts_of h t (f ∷ fs) (r ∷ rs) w = All-cons (λ r. length r.stored.items ≤ 1024) r rs (let e = w.0.stored_are.many in omega (arith, e)) (counts_of h t fs rs w.1)
counts_of h t [] (r ∷ rs) w = absurd w
counts_of h t (f ∷ fs) [] w = absurd w

-- ---- the chunks that were found

pub record IsGoodPositioned (h : Height) (t : List BlockState) (x : LoadedChunk) : Type 0 where
  pub limits : IsInLimits (region_of x.at)
  pub fits : IsNewChunk x.at h x.chunk
  pub numbers : (p : Pos) → chunk_of p ≡ x.at → number_in_filling (chunk_grid h x.chunk (section_of p)) (place_of p) < length t
  pub there : (y : ℤ) → is_section_of h y ≡ true → IsSome (section_in h x.chunk y)

inside : (h : Height) (c : ChunkPos) (p : Pos) → chunk_of p ≡ c → is_section_of h (divided p.y 16) ≡ true → lies_in c h p ≡ true
inside h c p e s = subst (λ d. lies_in d h p ≡ true) e (and_from (int_eq (divided p.x 16) (divided p.x 16) && int_eq (divided p.z 16) (divided p.z 16)) (is_section_of h (divided p.y 16)) (and_from (int_eq (divided p.x 16) (divided p.x 16)) (int_eq (divided p.z 16) (divided p.z 16)) ((Decides-int_eq (divided p.x 16) (divided p.x 16)).1 refl) ((Decides-int_eq (divided p.z 16) (divided p.z 16)).1 refl)) s)

pending_same : (o : Option Section) (i : ℕ) → pending_in_filling (filling_in o) i ≡ or_else false (o >>= λ s. Some (is_pending_at s i))
pending_same None i = refl
pending_same (Some s) i = refl

new_chunk : (h : Height) (c : ChunkPos) (d : Document) (old new : List BlockState) (chunk : Chunk) (rest : ChunkRest) → IsLoaded c h d old new chunk rest → IsNewChunk c h chunk
new_chunk h c d old new chunk rest l = record { whole = l.whole.count; within = l.within; tied = λ p e here. by p e (is_section_of h (divided p.y 16)) refl here } where
  by : (p : Pos) → chunk_of p ≡ c → (b : Bool) → is_section_of h (divided p.y 16) ≡ b → IsTrue (is_here (filling_in (cond b (section_in h chunk (divided p.y 16)) None)))
      → pending_in_filling (filling_in (cond (is_section_of h (divided p.y 16)) (section_in h chunk (divided p.y 16)) None)) (place_of p) ≡ is_pending p (entries chunk.ticks)
  by p e true s here = ap (λ b. pending_in_filling (filling_in (cond b (section_in h chunk (divided p.y 16)) None)) (place_of p)) s ∙ (pending_same (section_in h chunk (divided p.y 16)) (place_of p) ∙ l.pending p (inside h c p e s))
  by p e false s here = absurd (false≢true here)

number_less : (new t : List BlockState) (o : Option Section) (i : ℕ) → OnlyGrows new t → IsSome ((o >>= λ s. Some (number_at s i)) >>= λ n. slice_get new n) → number_in_filling (filling_in o) i < length t
number_less new t None i more h = absurd (false≢true h)
number_less new t (Some s) i more h = by (slice_get new (number_at s i)) refl h where
  by : (o : Option BlockState) → slice_get new (number_at s i) ≡ o → IsSome o → number_at s i < length t
  by None e k = absurd (false≢true k)
  by (Some x) e k =
      let a : number_at s i < length new = slice_get_within new (number_at s i) x e in
      let b : length t ≡ length new + length more.more = ap length more.grown ∙ length-append new more.more in
      omega (arith, a, b)

numbers_less : (h : Height) (c : ChunkPos) (d : Document) (old new t : List BlockState) (chunk : Chunk) (rest : ChunkRest) → IsLoaded c h d old new chunk rest → OnlyGrows new t → 0 < length t
    → (p : Pos) → chunk_of p ≡ c → number_in_filling (chunk_grid h chunk (section_of p)) (place_of p) < length t
numbers_less h c d old new t chunk rest l more some p e = by (is_section_of h (divided p.y 16)) refl where
  by : (b : Bool) → is_section_of h (divided p.y 16) ≡ b → number_in_filling (filling_in (cond b (section_in h chunk (divided p.y 16)) None)) (place_of p) < length t
  by true s = number_less new t (section_in h chunk (divided p.y 16)) (place_of p) more (l.numbered p (inside h c p e s))
  by false s = some

shift : (h : Height) (t : List BlockState) (f : File) (n : ℕ) (p : Stored) (ps : List Stored) → ((k : ℕ) (q : Stored) → slice_get (p ∷ ps) k ≡ Some q → WasReadAt h t f.bytes (chunk_at f.pos (n + k)) (n + k) q)
    → (k : ℕ) (q : Stored) → slice_get ps k ≡ Some q → WasReadAt h t f.bytes (chunk_at f.pos (n + 1 + k)) (n + 1 + k) q
shift h t f n p ps each k q e = let same : n + suc k ≡ n + 1 + k = omega arith in subst (λ j. WasReadAt h t f.bytes (chunk_at f.pos j) j q) same (each (suc k) q e)

good_from : (h : Height) (t : List BlockState) (f : File) (r : RegionPos) (n : ℕ) (ps : List Stored) → 0 < length t → IsInLimits r → r ≡ f.pos → n + length ps ≤ 1024
    → ((k : ℕ) (p : Stored) → slice_get ps k ≡ Some p → WasReadAt h t f.bytes (chunk_at f.pos (n + k)) (n + k) p) → AllByRecursion (IsGoodPositioned h t) (positioned_from r n ps)
good_from h t f r n [] some low is few each = tt
good_from h t f r n (Absent ∷ ps) some low is few each = good_from h t f r (n + 1) ps some low is (omega (arith, few)) (shift h t f n Absent ps each)
good_from h t f r n (Kept p ∷ ps) some low is few each = good_from h t f r (n + 1) ps some low is (omega (arith, few)) (shift h t f n (Kept p) ps each)
good_from h t f r n (Full chunk rest ∷ ps) some low is few each =
    let was = each 0 (Full chunk rest) refl in
    let l = was.read.read.loaded in
    let lt : n < 1024 = omega (arith, few) in
    let at : chunk_at f.pos (n + 0) ≡ chunk_at r n = (let z : n + 0 ≡ n = omega arith in ap (λ k. chunk_at f.pos k) z) ∙ ap (λ q. chunk_at q n) (sym is) in (
      subst (λ c. IsGoodPositioned h t (record { at = c; chunk = chunk })) at (record {
        limits = subst (λ c. IsInLimits (region_of c)) (sym at) (subst IsInLimits (sym (region_back r n lt)) low);
        fits = new_chunk h (chunk_at f.pos (n + 0)) was.read.read.document was.old was.new chunk rest l;
        numbers = numbers_less h (chunk_at f.pos (n + 0)) was.read.read.document was.old was.new t chunk rest l was.grown some;
        there = l.whole.each_there;
      }),
      good_from h t f r (n + 1) ps some low is (omega (arith, few)) (shift h t f n (Full chunk rest) ps each),
    )

-- each chunk that was found is one that a world takes
pub positioned_good : (h : Height) (t : List BlockState) (fs : List File) (rs : List ReadRegion) → 0 < length t → WereRegionsRead h t fs rs → AllByRecursion (IsGoodPositioned h t) (flat_map positioned_in rs)
positioned_good h t [] [] some w = tt
positioned_good h t (f ∷ fs) (r ∷ rs) some w =
    each_append (IsGoodPositioned h t) (positioned_in r) (flat_map positioned_in rs)
    (good_from h t f r.pos 0 r.stored.items some (subst IsInLimits (sym w.0.pos_is) w.0.limits) w.0.pos_is (let k = w.0.stored_are.many in omega (arith, k)) (λ k p e. let z : k ≡ 0 + k = omega arith in subst (λ j. WasReadAt h t f.bytes (chunk_at f.pos j) j p) z (w.0.stored_are.each k p e)))
    (positioned_good h t fs rs some w.1)
positioned_good h t [] (r ∷ rs) some w = absurd w
positioned_good h t (f ∷ fs) [] some w = absurd w

pub positioned_limits : (h : Height) (t : List BlockState) (fs : List File) (rs : List ReadRegion) → 0 < length t → WereRegionsRead h t fs rs → All (λ x. IsInLimits (region_of x.at)) (ordered positioned_order (flat_map positioned_in rs))
positioned_limits h t fs rs some w = All-from_recursion _ _ (each_then (IsGoodPositioned h t) (λ x. IsInLimits (region_of x.at)) (λ x g. g.limits) _ (all_ordered (IsGoodPositioned h t) positioned_order (flat_map positioned_in rs) (positioned_good h t fs rs some w)))

pub positioned_fit : (h : Height) (t : List BlockState) (fs : List File) (rs : List ReadRegion) → 0 < length t → WereRegionsRead h t fs rs → All (λ x. IsNewChunk x.at h x.chunk) (ordered positioned_order (flat_map positioned_in rs))
positioned_fit h t fs rs some w = All-from_recursion _ _ (each_then (IsGoodPositioned h t) (λ x. IsNewChunk x.at h x.chunk) (λ x g. g.fits) _ (all_ordered (IsGoodPositioned h t) positioned_order (flat_map positioned_in rs) (positioned_good h t fs rs some w)))

-- ---- each once

once_append : (xs ys : List LoadedChunk) → ArePositionedOnce xs → ArePositionedOnce ys → AllByRecursion (λ x. chunk_found ys x.at ≡ None) xs → ArePositionedOnce (xs ++ ys)
once_append [] ys o p h = p
once_append (x ∷ xs) ys o p h = (found_none_of xs ys x.at o.0 ∙ h.0, once_append xs ys o.1 p h.1)

once_from : (r : RegionPos) (n : ℕ) (ps : List Stored) → n + length ps ≤ 1024 → ArePositionedOnce (positioned_from r n ps)
once_from r n [] few = tt
once_from r n (Absent ∷ ps) few = once_from r (n + 1) ps (omega (arith, few))
once_from r n (Kept p ∷ ps) few = once_from r (n + 1) ps (omega (arith, few))
once_from r n (Full chunk rest ∷ ps) few = (found_before r (n + 1) ps n (omega (arith, few)) (omega (arith, few)) (omega arith), once_from r (n + 1) ps (omega (arith, few)))

all_from : (P : LoadedChunk → Type 0) (r : RegionPos) (n : ℕ) (ps : List Stored) → n + length ps ≤ 1024 → ((i : ℕ) (x : Chunk) → i < 1024 → P (record { at = chunk_at r i; chunk = x })) → AllByRecursion P (positioned_from r n ps)
all_from P r n [] few h = tt
all_from P r n (Absent ∷ ps) few h = all_from P r (n + 1) ps (omega (arith, few)) h
all_from P r n (Kept p ∷ ps) few h = all_from P r (n + 1) ps (omega (arith, few)) h
all_from P r n (Full chunk rest ∷ ps) few h = (h n chunk (omega (arith, few)), all_from P r (n + 1) ps (omega (arith, few)) h)

region_pos_is : (h : Height) (t : List BlockState) (f : File) (r : ReadRegion) → WasRegionRead h t f r → (i : ℕ) → i < 1024 → region_of (chunk_at r.pos i) ≡ f.pos
region_pos_is h t f r w i lt = region_back r.pos i lt ∙ w.pos_is

-- chunks of a region that is not among these are not found
found_not_in : (h : Height) (t : List BlockState) (fs : List File) (rs : List ReadRegion) → WereRegionsRead h t fs rs → (c : ChunkPos)
    → list_any (same_region (region_of c)) (map (λ f. f.pos) fs) ≡ false → chunk_found (flat_map positioned_in rs) c ≡ None
found_not_in h t [] [] w c e = refl
found_not_in h t (f ∷ fs) (r ∷ rs) w c e =
    let parts = or_parts (same_region (region_of c) f.pos) (list_any (same_region (region_of c)) (map (λ f. f.pos) fs)) e in
    let away : same_region r.pos (region_of c) ≡ false = ap (λ p. same_region p (region_of c)) w.0.pos_is ∙ other_region (region_of c) f.pos parts.0 in
    found_none_of (positioned_in r) (flat_map positioned_in rs) c (found_away r.pos 0 r.stored.items c (let k = w.0.stored_are.many in omega (arith, k)) away) ∙ found_not_in h t fs rs w.1 c parts.1
found_not_in h t [] (r ∷ rs) w c e = absurd w
found_not_in h t (f ∷ fs) [] w c e = absurd w

not_in_rest : (p : RegionPos) (ps : List RegionPos) → regions_rise (p ∷ ps) ≡ true → list_any (same_region p) ps ≡ false
not_in_rest p ps h = by (list_any (same_region p) ps) refl where
  by : (b : Bool) → list_any (same_region p) ps ≡ b → b ≡ false
  by true e = absurd (false≢true (sym (not_later_region p p ps h e) ∙ same_region-refl p))
  by false e = refl

positioned_once_read : (h : Height) (t : List BlockState) (fs : List File) (rs : List ReadRegion) → WereRegionsRead h t fs rs → regions_rise (map (λ f. f.pos) fs) ≡ true → ArePositionedOnce (flat_map positioned_in rs)
positioned_once_read h t [] [] w rise = tt
positioned_once_read h t (f ∷ fs) (r ∷ rs) w rise =
    let few : 0 + length r.stored.items ≤ 1024 = let k = w.0.stored_are.many in omega (arith, k) in
    let more = and_parts (region_after f.pos (map (λ g. g.pos) fs)) (regions_rise (map (λ g. g.pos) fs)) rise in
    once_append (positioned_in r) (flat_map positioned_in rs) (once_from r.pos 0 r.stored.items few) (positioned_once_read h t fs rs w.1 more.1)
    (all_from (λ x. chunk_found (flat_map positioned_in rs) x.at ≡ None) r.pos 0 r.stored.items few
    (λ i x lt. found_not_in h t fs rs w.1 (chunk_at r.pos i) (ap (λ q. list_any (same_region q) (map (λ g. g.pos) fs)) (region_pos_is h t f r w.0 i lt) ∙ not_in_rest f.pos (map (λ g. g.pos) fs) rise)))
positioned_once_read h t [] (r ∷ rs) w rise = absurd w
positioned_once_read h t (f ∷ fs) [] w rise = absurd w

once_inserted : (x : LoadedChunk) (xs : List LoadedChunk) → chunk_found xs x.at ≡ None → ArePositionedOnce xs → ArePositionedOnce (inserted positioned_order x xs)
once_inserted x [] n o = (refl, tt)
once_inserted x (y ∷ ys) n o = by (is_lt (positioned_order y x)) (parts (same_chunk y.at x.at) n) (λ k. once_inserted x ys k o.1) where
  parts : (b : Bool) → cond b (Some y.chunk) (chunk_found ys x.at) ≡ None → (b ≡ false) × (chunk_found ys x.at ≡ None)
  parts true k = absurd (none-some y.chunk (sym k))
  parts false k = (refl, k)

  by : (b : Bool) → (same_chunk y.at x.at ≡ false) × (chunk_found ys x.at ≡ None) → (chunk_found ys x.at ≡ None → ArePositionedOnce (inserted positioned_order x ys)) → ArePositionedOnce (cond b (y ∷ inserted positioned_order x ys) (x ∷ y ∷ ys))
  by true p more = (found_inserted x ys y.at ∙ (ap (λ b. cond b (Some x.chunk) (chunk_found ys y.at)) (not_same y.at x.at p.0) ∙ o.0), more p.1)
  by false p more = (n, o)

once_ordered : (xs : List LoadedChunk) → ArePositionedOnce xs → ArePositionedOnce (ordered positioned_order xs)
once_ordered [] o = tt
once_ordered (x ∷ xs) o = once_inserted x (ordered positioned_order xs) (found_ordered xs x.at ∙ o.0) (once_ordered xs o.1)

pub positioned_once : (h : Height) (t : List BlockState) (fs : List File) (rs : List ReadRegion) → WereRegionsRead h t fs rs → regions_rise (map (λ f. f.pos) fs) ≡ true → ArePositionedOnce (ordered positioned_order (flat_map positioned_in rs))
positioned_once h t fs rs w rise = once_ordered (flat_map positioned_in rs) (positioned_once_read h t fs rs w rise)

-- ---- numbers and stamps

pub found_all : (P : LoadedChunk → Type 0) (xs : List LoadedChunk) (c : ChunkPos) (x : Chunk) → AllByRecursion P xs → chunk_found xs c ≡ Some x → P (record { at = c; chunk = x })
found_all P [] c x h e = absurd (none-some x e)
found_all P (y ∷ ys) c x h e = by (same_chunk y.at c) refl (λ k. found_all P ys c x h.1 k) e where
  by : (b : Bool) → same_chunk y.at c ≡ b → (chunk_found ys c ≡ Some x → P (record { at = c; chunk = x })) → cond b (Some y.chunk) (chunk_found ys c) ≡ Some x → P (record { at = c; chunk = x })
  by true s more k = let at = same_chunk_is y.at c s in let z = same_Some y.chunk x k in subst (λ d. P (record { at = d; chunk = x })) at (subst (λ d. P (record { at = y.at; chunk = d })) z h.0)
  by false s more k = more k

-- ---- no section is out

here_is : (o : Option Section) → IsSome o → is_here (filling_in o) ≡ true
here_is None h = absurd (false≢true h)
here_is (Some s) h = refl

layers_there : (h : Height) (x : Chunk) → ((y : ℤ) → is_section_of h y ≡ true → IsSome (section_in h x y)) → (y : ℤ) → is_here (filling_in (cond (is_section_of h y) (section_in h x y) None)) ≡ is_section_of h y
layers_there h x all y = by (is_section_of h y) refl where
  by : (b : Bool) → is_section_of h y ≡ b → is_here (filling_in (cond b (section_in h x y) None)) ≡ b
  by true e = here_is (section_in h x y) (all y e)
  by false e = refl

pub whole_read : (h : Height) (t : List BlockState) (fs : List File) (rs : List ReadRegion) (w : World) → WereRegionsRead h t fs rs → IsWorldOf h (flat_map positioned_in rs) w → 0 < length t → IsUncarved w
whole_read h t fs rs w was is some = λ i p. at p i where
  by : (p : Pos) (o : Option Chunk) → chunk_found (flat_map positioned_in rs) (chunk_of p) ≡ o → HasAt h w (chunk_of p) o → is_here (grid w (section_of p)) ≡ is_loaded (land_of w) p
  by p None e has = ap is_here (has.1 (section_of p) refl) ∙ sym (ap (λ b. b && is_block_of w.height p.y) has.0)
  by p (Some x) e has =
      let good = found_all (IsGoodPositioned h t) (flat_map positioned_in rs) (chunk_of p) x (positioned_good h t fs rs some was) e in
      ap is_here (has.1 (section_of p) refl)
      ∙ (layers_there h x good.there (divided p.y 16)
      ∙ sym (ap (λ b. b && is_block_of w.height p.y) has.0 ∙ ap (λ k. is_block_of k p.y) is.height_is))

  at : (p : Pos) → is_here (grid w (section_of p)) ≡ is_loaded (land_of w) p
  at p = by p (chunk_found (flat_map positioned_in rs) (chunk_of p)) refl (is.each (chunk_of p))

-- each number of the world is one of the table
pub numbers_read : (h : Height) (t : List BlockState) (fs : List File) (rs : List ReadRegion) (w : World) → WereRegionsRead h t fs rs → IsWorldOf h (flat_map positioned_in rs) w → 0 < length t → (p : Pos) → (land_of w).at p < length t
numbers_read h t fs rs w was is some p = by (chunk_found (flat_map positioned_in rs) (chunk_of p)) refl (is.each (chunk_of p)) where
  by : (o : Option Chunk) → chunk_found (flat_map positioned_in rs) (chunk_of p) ≡ o → HasAt h w (chunk_of p) o → (land_of w).at p < length t
  by None e has = subst (λ f. number_in_filling f (place_of p) < length t) (sym (has.1 (section_of p) refl)) some
  by (Some x) e has = subst (λ f. number_in_filling f (place_of p) < length t) (sym (has.1 (section_of p) refl)) ((found_all (IsGoodPositioned h t) (flat_map positioned_in rs) (chunk_of p) x (positioned_good h t fs rs some was) e).numbers p refl)

index_small : (m : ℕ) (xs : List ℕ) (i : ℕ) → 0 < m → All (λ n. n < m) xs → slice_index_or xs i 0 < m
index_small m [] i some h = some
index_small m (x ∷ xs) zero some h = h 0 0 (omega arith)
index_small m (x ∷ xs) (suc i) some h = index_small m xs i some (λ k d lt. h (suc k) d (omega (arith, lt)))

stamp_small : (m : ℕ) (h : Height) (t : List BlockState) (fs : List File) (rs : List ReadRegion) (xs : List RegionRest) → 0 < m → m ≡ 2 ^ 32 → WereRegionsRead h t fs rs → AreSplit rs xs → (p : RegionPos) (i : ℕ) → stamp_in (region_found xs p) i < m
stamp_small m h t [] [] [] some is was split p i = some
stamp_small m h t (f ∷ fs) (r ∷ rs) (x ∷ xs) some is was split p i = by (same_region x.pos p) (stamp_small m h t fs rs xs some is was.1 split.1 p i) where
  small : All (λ n. n < m) x.stamps.items
  small = subst (λ (l : List ℕ). All (λ n. n < m) l) (sym split.0.stamps_are) (subst (λ k. All (λ n. n < k) r.stamps.items) (sym is) was.0.small)

  by : (b : Bool) → stamp_in (region_found xs p) i < m → stamp_in (cond b (Some x) (region_found xs p)) i < m
  by true more = index_small m x.stamps.items i some small
  by false more = more
stamp_small m h t [] [] (x ∷ xs) some is was split p i = absurd split
stamp_small m h t [] (r ∷ rs) xs some is was split p i = absurd was
stamp_small m h t (f ∷ fs) [] xs some is was split p i = absurd was
stamp_small m h t (f ∷ fs) (r ∷ rs) [] some is was split p i = absurd split

-- timestamps have 32 bits
pub stamps_read : (h : Height) (t : List BlockState) (fs : List File) (rs : List ReadRegion) (xs : List RegionRest) → WereRegionsRead h t fs rs → AreSplit rs xs → StampsFit (rest_view xs)
stamps_read h t fs rs xs was split = λ p i. stamp_small (2 ^ 32) h t fs rs xs (omega arith) refl was split p i
