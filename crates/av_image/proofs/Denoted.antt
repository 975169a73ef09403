-- What was read of files is what they denote.
use Rattle.std.proofs.Common.{◌≡◌, ◌∙◌, ℕ, suc, zero, ◌+◌, ◌<◌, ◌≤◌, List, [], ◌∷◌, length, Bool, true, false, ◌||◌, ◌&&◌, cond, Option, Some, None, refl, ap, sym, subst, arith, map, take}
use Rattle.std.specs.Prelude.{slice_get, slice_index_or}
use Rattle.std.specs.List.{AllByRecursion, list_any, flat_map}
use Rattle.std.specs.Ordering.{is_lt}
use Rattle.std.proofs.lemmas.Bool.{and_parts, false≢true, or_right, or_parts}
use Rattle.std.proofs.lemmas.Option.{none-some, same_Some, slice_get_within, get_or_from_slice_get}
use Rattle.std.proofs.lemmas.List.{length-map}
use Rattle.std.proofs.lemmas.List.FromFn.{length-map-range_with_len}
use Rattle.av_types.specs.Positions.{chunk_at, region_of, index_of, section_of, chunk_of, is_block_of, IsInLimits, place_of, section_index}
use Rattle.av_types.specs.declared.position.Height.{Height}
use Rattle.av_types.specs.Division.{divided}
use Rattle.av_cells.specs.Grid.{number_in as number_in_filling}
use Rattle.av_world.specs.Sections.{filling_in}
use Rattle.av_world.specs.Views.{grid}
use Rattle.av_image.proofs.Rises.{not_later_region, rises}
use Rattle.av_types.specs.declared.position.Pos.{Pos}
use Rattle.av_types.specs.declared.position.ChunkPos.{ChunkPos}
use Rattle.av_types.specs.declared.position.RegionPos.{RegionPos}
use Rattle.av_types.proofs.Coordinates.{region_back, index_back}
use Rattle.av_region.specs.Region.{stamp_of}
use Rattle.av_state.specs.BlockState.{BlockState, air}
use Rattle.av_chunk.specs.declared.chunk.Chunk.{Chunk}
use Rattle.av_world.specs.declared.worlds.World.{World}
use Rattle.av_land.specs.Land.{has_chunk, is_loaded}
use Rattle.av_types.specs.Order.{inserted, ordered}
use Rattle.av_files.specs.Files.{File, in_order, chunks_rise, regions_rise, region_after}
use Rattle.av_region_files.specs.Regions.{region_order, same_region}
use Rattle.av_files.specs.Run.{stated}
use Rattle.av_files.specs.Denotes.{IsSlot, DenotesFile, Denotes}
use Rattle.av_files.proofs.Coordinates.{same_region_is, same_region-refl}
use Rattle.av_files.proofs.Slots.{made_at}
use Rattle.av_image.specs.declared.reading.stored.Stored.{Stored}
use Rattle.av_image.specs.declared.reading.stored.Stored.TheVariants.{Absent, Kept, Full}
use Rattle.av_image.specs.declared.reading.regions.ReadRegion.{ReadRegion}
use Rattle.av_image.specs.declared.rest.Slot.{Slot}
use Rattle.av_image.specs.declared.rest.RegionRest.{RegionRest}
use Rattle.av_image.specs.declared.reading.splits.LoadedChunk.{LoadedChunk}
use Rattle.av_image.specs.RegionsRead.{WasReadAt, WasRegionRead, WereRegionsRead, are_stamps}
use Rattle.av_world.specs.Lands.{land_of}
use Rattle.av_image.specs.Views.{rest_view, region_found, stamp_in, slot_in, slot_at, kept_in, chunk_rest_in}
use Rattle.av_image.specs.Splits.{slot_of, positioned_in, IsSplit, AreSplit, chunk_found, HasAt, IsWorldOf}
use Rattle.av_image.specs.Saving.{IsSlotOf, IsRegionOf}
use Rattle.av_image.proofs.Back.{other_region, chunk_in, found_away, found_from, found_none_of, or_none}
use Rattle.av_image.proofs.Worlds.{found_append, first_some}
use Rattle.av_image.proofs.OneSlot.{slot_is}

-- regions that were read have the files' positions, and so have their rests
pub indices_same : (h : Height) (t : List BlockState) (fs : List File) (rs : List ReadRegion) (xs : List RegionRest) → WereRegionsRead h t fs rs → AreSplit rs xs → map (λ x. x.pos) xs ≡ map (λ f. f.pos) fs
indices_same h t [] [] [] w s = refl
indices_same h t (f ∷ fs) (r ∷ rs) (x ∷ xs) w s = let first = s.0.pos_is ∙ w.0.pos_is in let more = indices_same h t fs rs xs w.1 s.1 in λ i. first i ∷ more i
indices_same h t [] [] (x ∷ xs) w s = absurd s
indices_same h t [] (r ∷ rs) xs w s = absurd w
indices_same h t (f ∷ fs) [] xs w s = absurd w
indices_same h t (f ∷ fs) (r ∷ rs) [] w s = absurd s

-- no region of a rising list comes again
pub record NotAgain (p : RegionPos) (ps : List RegionPos) : Type 0 where
  pub none : (q : RegionPos) → list_any (same_region q) ps ≡ true → same_region p q ≡ false

-- a region's chunks are found in it alone
abbrev IsOf : List RegionPos → RegionPos → Type 0
IsOf ps p = list_any (same_region p) ps ≡ true

pub record Tells (whole : List RegionRest) (found : List LoadedChunk) (rs : List ReadRegion) (xs : List RegionRest) : Type 0 where
  pub region : (p : RegionPos) → IsOf (map (λ x. x.pos) xs) p → region_found whole p ≡ region_found xs p
  pub chunk : (c : ChunkPos) → IsOf (map (λ x. x.pos) xs) (region_of c) → chunk_found found c ≡ chunk_found (flat_map positioned_in rs) c

few_of : (h : Height) (t : List BlockState) (f : File) (r : ReadRegion) → WasRegionRead h t f r → 0 + length r.stored.items ≤ 1024
few_of h t f r w = omega (arith, w.stored_are.many)

tells_rest : (h : Height) (t : List BlockState) (whole : List RegionRest) (found : List LoadedChunk) (f : File) (r : ReadRegion) (x : RegionRest) (rs : List ReadRegion) (xs : List RegionRest)
    → WasRegionRead h t f r → IsSplit r x → NotAgain x.pos (map (λ x. x.pos) xs) → Tells whole found (r ∷ rs) (x ∷ xs) → Tells whole found rs xs
tells_rest h t whole found f r x rs xs w s n tells = record {
  region = λ p is. tells.region p (or_right (same_region p x.pos) (list_any (same_region p) (map (λ x. x.pos) xs)) is) ∙ ap (λ b. cond b (Some x) (region_found xs p)) (n.none p is);
  chunk = λ c is.
      let away : same_region r.pos (region_of c) ≡ false = ap (λ p. same_region p (region_of c)) (sym s.pos_is) ∙ n.none (region_of c) is in
      tells.chunk c (or_right (same_region (region_of c) x.pos) (list_any (same_region (region_of c)) (map (λ x. x.pos) xs)) is)
      ∙ found_none_of (positioned_in r) (flat_map positioned_in rs) c (found_away r.pos 0 r.stored.items c (few_of h t f r w) away);
}

-- chunks of other regions are not found
pub found_elsewhere : (h : Height) (t : List BlockState) (fs : List File) (rs : List ReadRegion) (xs : List RegionRest) → WereRegionsRead h t fs rs → AreSplit rs xs → (c : ChunkPos)
    → list_any (same_region (region_of c)) (map (λ x. x.pos) xs) ≡ false → chunk_found (flat_map positioned_in rs) c ≡ None
found_elsewhere h t [] [] [] w s c e = refl
found_elsewhere h t (f ∷ fs) (r ∷ rs) (x ∷ xs) w s c e =
    let parts = or_parts (same_region (region_of c) x.pos) (list_any (same_region (region_of c)) (map (λ x. x.pos) xs)) e in
    let away : same_region r.pos (region_of c) ≡ false = ap (λ p. same_region p (region_of c)) (sym s.0.pos_is) ∙ other_region (region_of c) x.pos parts.0 in
    found_none_of (positioned_in r) (flat_map positioned_in rs) c (found_away r.pos 0 r.stored.items c (few_of h t f r w.0) away) ∙ found_elsewhere h t fs rs xs w.1 s.1 c parts.1
found_elsewhere h t [] [] (x ∷ xs) w s c e = absurd s
found_elsewhere h t [] (r ∷ rs) xs w s c e = absurd w
found_elsewhere h t (f ∷ fs) [] xs w s c e = absurd w
found_elsewhere h t (f ∷ fs) (r ∷ rs) [] w s c e = absurd s

-- ---- one file

get_map : {X Y : Type 0} (g : X → Y) (xs : List X) (i : ℕ) (x : X) → slice_get xs i ≡ Some x → slice_get (map g xs) i ≡ Some (g x)
get_map g [] i x e = absurd (none-some x e)
get_map g (y ∷ ys) zero x e = ap (λ z. Some (g z)) (same_Some y x e)
get_map g (y ∷ ys) (suc i) x e = get_map g ys i x e

pub get_within : {X : Type 0} (xs : List X) (i : ℕ) → i < length xs → (x : X) × (slice_get xs i ≡ Some x)
get_within [] i lt = absurd (omega (arith, lt))
get_within (x ∷ xs) zero lt = (x, refl)
get_within (x ∷ xs) (suc i) lt = get_within xs i (omega (arith, lt))

-- each index has its chunk in the world, or none
has_item : (h : Height) (t : List BlockState) (whole : List RegionRest) (found : List LoadedChunk) (w : World) (f : File) (r : ReadRegion) (x : RegionRest) (rs : List ReadRegion) (xs : List RegionRest)
    → IsWorldOf h found w → WasRegionRead h t f r → IsSplit r x → Tells whole found (r ∷ rs) (x ∷ xs) → ((c : ChunkPos) → IsOf (map (λ x. x.pos) (x ∷ xs)) (region_of c) → same_region (region_of c) r.pos ≡ true → chunk_found (flat_map positioned_in rs) c ≡ None)
    → (i : ℕ) → i < 1024 → (p : Stored) → slice_get r.stored.items i ≡ Some p → HasAt h w (chunk_at f.pos i) (chunk_in (Some p))
has_item h t whole found w f r x rs xs has was split tells alone i lt p at =
    let c = chunk_at f.pos i in
    let own : region_of c ≡ f.pos = region_back f.pos i lt in
    let pos_is : x.pos ≡ f.pos = split.pos_is ∙ was.pos_is in
    let among : IsOf (map (λ x. x.pos) (x ∷ xs)) f.pos = ap (λ b. b || list_any (same_region f.pos) (map (λ x. x.pos) xs)) (ap (λ p. same_region f.pos p) pos_is ∙ same_region-refl f.pos) in
    let is_among : IsOf (map (λ x. x.pos) (x ∷ xs)) (region_of c) = subst (λ q. IsOf (map (λ x. x.pos) (x ∷ xs)) q) (sym own) among in
    let rest : chunk_found (flat_map positioned_in rs) c ≡ None = alone c is_among (ap (λ q. same_region q r.pos) own ∙ (ap (λ q. same_region f.pos q) was.pos_is ∙ same_region-refl f.pos)) in
    let from : chunk_found (positioned_in r) c ≡ chunk_in (Some p) =
    ap (λ q. chunk_found (positioned_in r) (chunk_at q i)) (sym was.pos_is) ∙ (found_from r.pos 0 r.stored.items i i (few_of h t f r was) (omega arith) lt ∙ ap chunk_in at) in
    let chunk : chunk_found found c ≡ chunk_in (Some p) =
    tells.chunk c is_among ∙ (found_append (positioned_in r) (flat_map positioned_in rs) c ∙ (ap (λ o. first_some (chunk_found (positioned_in r) c) o) rest ∙ (or_none (chunk_found (positioned_in r) c) ∙ from))) in
    subst (HasAt h w c) chunk (has.each c)

file_denoted : (h : Height) (t : List BlockState) (whole : List RegionRest) (found : List LoadedChunk) (w : World) (f : File) (r : ReadRegion) (x : RegionRest) (rs : List ReadRegion) (xs : List RegionRest)
    → IsWorldOf h found w → WasRegionRead h t f r → IsSplit r x → Tells whole found (r ∷ rs) (x ∷ xs) → ((c : ChunkPos) → IsOf (map (λ x. x.pos) (x ∷ xs)) (region_of c) → same_region (region_of c) r.pos ≡ true → chunk_found (flat_map positioned_in rs) c ≡ None)
    → DenotesFile h (stated t (land_of w)) (rest_view whole) f
file_denoted h t whole found w f r x rs xs has was split tells alone = record {
  limits = was.limits;
  whole = was.whole;
  stamps = λ i lt. ap (λ o. stamp_in o i) here ∙ (ap (λ l. slice_index_or l i 0) (split.stamps_are ∙ was.stamps_are) ∙ get_or_from_slice_get (are_stamps f.bytes 1024) i (stamp_of f.bytes i) 0 (made_at (stamp_of f.bytes) i lt));
  slots = λ i lt. slot i lt;
} where
  pos_is : x.pos ≡ f.pos
  pos_is = split.pos_is ∙ was.pos_is

  among : IsOf (map (λ x. x.pos) (x ∷ xs)) f.pos
  among = ap (λ b. b || list_any (same_region f.pos) (map (λ x. x.pos) xs)) (ap (λ p. same_region f.pos p) pos_is ∙ same_region-refl f.pos)

  here : region_found whole f.pos ≡ Some x
  here = tells.region f.pos among ∙ ap (λ b. cond b (Some x) (region_found xs f.pos)) (ap (λ p. same_region p f.pos) pos_is ∙ same_region-refl f.pos)

  slot : (i : ℕ) → i < 1024 → IsSlot h (stated t (land_of w)) (rest_view whole) f.bytes (chunk_at f.pos i) i
  slot i lt =
      let c = chunk_at f.pos i in
      let at = get_within r.stored.items i (omega (arith, was.stored_are.many, lt)) in
      let p = at.0 in
      let stays : slot_at whole c ≡ Some (slot_of p) =
      ap (λ q. slot_in (region_found whole q) (index_of c)) (region_back f.pos i lt) ∙ (ap (λ o. slot_in o (index_of c)) here
      ∙ (ap (λ j. slice_get x.slots.items j) (index_back f.pos i lt) ∙ (ap (λ l. slice_get l i) split.slots_are ∙ get_map slot_of r.stored.items i p at.1))) in
      slot_is h t f.bytes c i p w (rest_view whole) (was.stored_are.each i p at.1) (has_item h t whole found w f r x rs xs has was split tells alone i lt p at.1) (ap kept_in stays) (ap chunk_rest_in stays)

-- ---- one region's rest

slot_own : (h : Height) (t file : _) (c : ChunkPos) (i : ℕ) (w : World) (p : Stored) → WasReadAt h t file c i p → HasAt h w c (chunk_in (Some p)) → IsSlotOf h w.positions.items c (slot_of p)
slot_own h t file c i w Absent was has = has.0
slot_own h t file c i w (Kept p) was has = has.0
slot_own h t file c i w (Full chunk rest) was has = (has.0, was.read.read.loaded.pos_is, was.read.read.loaded.height_is)

region_own : (h : Height) (t : List BlockState) (whole : List RegionRest) (found : List LoadedChunk) (w : World) (f : File) (r : ReadRegion) (x : RegionRest) (rs : List ReadRegion) (xs : List RegionRest)
    → IsWorldOf h found w → WasRegionRead h t f r → IsSplit r x → Tells whole found (r ∷ rs) (x ∷ xs) → ((c : ChunkPos) → IsOf (map (λ x. x.pos) (x ∷ xs)) (region_of c) → same_region (region_of c) r.pos ≡ true → chunk_found (flat_map positioned_in rs) c ≡ None)
    → IsRegionOf h w.positions.items x
region_own h t whole found w f r x rs xs has was split tells alone = record {
  limits = subst IsInLimits (sym pos_is) was.limits;
  stamps = ap length (split.stamps_are ∙ was.stamps_are) ∙ length-map-range_with_len (stamp_of f.bytes) 0 1024;
  slots = many;
  each = λ i s e. each i s e;
} where
  pos_is : x.pos ≡ f.pos
  pos_is = split.pos_is ∙ was.pos_is

  many : length x.slots.items ≡ 1024
  many = ap length split.slots_are ∙ (length-map r.stored.items slot_of ∙ was.stored_are.many)

  each : (i : ℕ) (s : Slot) → slice_get x.slots.items i ≡ Some s → IsSlotOf h w.positions.items (chunk_at x.pos i) s
  each i s e =
      let less : i < length x.slots.items = slice_get_within x.slots.items i s e in
      let lt : i < 1024 = omega (arith, less, many) in
      let at = get_within r.stored.items i (omega (arith, was.stored_are.many, lt)) in
      let same : slot_of at.0 ≡ s = same_Some (slot_of at.0) s (sym (get_map slot_of r.stored.items i at.0 at.1) ∙ (ap (λ l. slice_get l i) (sym split.slots_are) ∙ e)) in
      subst (λ q. IsSlotOf h w.positions.items (chunk_at q i) s) (sym pos_is)
      (subst (λ z. IsSlotOf h w.positions.items (chunk_at f.pos i) z) same
      (slot_own h t f.bytes (chunk_at f.pos i) i w at.0 (was.stored_are.each i at.0 at.1) (has_item h t whole found w f r x rs xs has was split tells alone i lt at.0 at.1)))

-- ---- all files

not_again : (p : RegionPos) (ps : List RegionPos) → regions_rise (p ∷ ps) ≡ true → NotAgain p ps
not_again p ps h = record { none = λ q is. not_later_region p q ps h is }

-- chunks of a region are in no later one
alone : (h : Height) (t : List BlockState) (f : File) (r : ReadRegion) (x : RegionRest) (fs : List File) (rs : List ReadRegion) (xs : List RegionRest) → IsSplit r x → WereRegionsRead h t fs rs → AreSplit rs xs → NotAgain x.pos (map (λ x. x.pos) xs)
    → (c : ChunkPos) → IsOf (map (λ x. x.pos) (x ∷ xs)) (region_of c) → same_region (region_of c) r.pos ≡ true → chunk_found (flat_map positioned_in rs) c ≡ None
alone h t f r x fs rs xs split was rest n c is own = found_elsewhere h t fs rs xs was rest c (by (list_any (same_region (region_of c)) (map (λ x. x.pos) xs)) refl) where
  at : x.pos ≡ region_of c
  at = split.pos_is ∙ sym (same_region_is (region_of c) r.pos own)

  by : (b : Bool) → list_any (same_region (region_of c)) (map (λ x. x.pos) xs) ≡ b → b ≡ false
  by true k = absurd (false≢true (sym (n.none (region_of c) k) ∙ (ap (λ p. same_region p (region_of c)) at ∙ same_region-refl (region_of c))))
  by false k = refl

all_files : (h : Height) (t : List BlockState) (whole : List RegionRest) (found : List LoadedChunk) (w : World) (fs : List File) (rs : List ReadRegion) (xs : List RegionRest)
    → IsWorldOf h found w → WereRegionsRead h t fs rs → AreSplit rs xs → regions_rise (map (λ x. x.pos) xs) ≡ true → Tells whole found rs xs
    → AllByRecursion (DenotesFile h (stated t (land_of w)) (rest_view whole)) fs
all_files h t whole found w [] [] [] has was split rise tells = tt
all_files h t whole found w (f ∷ fs) (r ∷ rs) (x ∷ xs) has was split rise tells =
    let n = not_again x.pos (map (λ x. x.pos) xs) rise in
    let more = and_parts (region_after x.pos (map (λ x. x.pos) xs)) (regions_rise (map (λ x. x.pos) xs)) rise in (
      file_denoted h t whole found w f r x rs xs has was.0 split.0 tells (alone h t f r x fs rs xs split.0 was.1 split.1 n),
      all_files h t whole found w fs rs xs has was.1 split.1 more.1 (tells_rest h t whole found f r x rs xs was.0 split.0 n tells),
    )
all_files h t whole found w [] [] (x ∷ xs) has was split rise tells = absurd split
all_files h t whole found w [] (r ∷ rs) xs has was split rise tells = absurd was
all_files h t whole found w (f ∷ fs) [] xs has was split rise tells = absurd was
all_files h t whole found w (f ∷ fs) (r ∷ rs) [] has was split rise tells = absurd split

all_regions : (h : Height) (t : List BlockState) (whole : List RegionRest) (found : List LoadedChunk) (w : World) (fs : List File) (rs : List ReadRegion) (xs : List RegionRest)
    → IsWorldOf h found w → WereRegionsRead h t fs rs → AreSplit rs xs → regions_rise (map (λ x. x.pos) xs) ≡ true → Tells whole found rs xs
    → AllByRecursion (IsRegionOf h w.positions.items) xs
all_regions h t whole found w [] [] [] has was split rise tells = tt
all_regions h t whole found w (f ∷ fs) (r ∷ rs) (x ∷ xs) has was split rise tells =
    let n = not_again x.pos (map (λ x. x.pos) xs) rise in
    let more = and_parts (region_after x.pos (map (λ x. x.pos) xs)) (regions_rise (map (λ x. x.pos) xs)) rise in (
      region_own h t whole found w f r x rs xs has was.0 split.0 tells (alone h t f r x fs rs xs split.0 was.1 split.1 n),
      all_regions h t whole found w fs rs xs has was.1 split.1 more.1 (tells_rest h t whole found f r x rs xs was.0 split.0 n tells),
    )
all_regions h t whole found w [] [] (x ∷ xs) has was split rise tells = absurd split
all_regions h t whole found w [] (r ∷ rs) xs has was split rise tells = absurd was
all_regions h t whole found w (f ∷ fs) [] xs has was split rise tells = absurd was
all_regions h t whole found w (f ∷ fs) (r ∷ rs) [] has was split rise tells = absurd split

all_if : {X : Type 0} (P : X → Type 0) (x y : X) (b : Bool) (xs zs : List X) → (AllByRecursion P zs → P x × AllByRecursion P xs) → AllByRecursion P (cond b (y ∷ zs) (x ∷ y ∷ xs)) → P x × AllByRecursion P (y ∷ xs)
all_if P x y true xs zs from h = let p = from h.1 in (p.0, (h.0, p.1))
all_if P x y false xs zs from h = (h.0, h.1)

all_uninserted : {X : Type 0} (P : X → Type 0) (c : X → X → _) (x : X) (xs : List X) → AllByRecursion P (inserted c x xs) → P x × AllByRecursion P xs
all_uninserted P c x [] h = (h.0, tt)
all_uninserted P c x (y ∷ ys) h = all_if P x y (is_lt (c y x)) ys (inserted c x ys) (all_uninserted P c x ys) h

all_unordered : {X : Type 0} (P : X → Type 0) (c : X → X → _) (xs : List X) → AllByRecursion P (ordered c xs) → AllByRecursion P xs
all_unordered P c [] h = tt
all_unordered P c (x ∷ xs) h = let p = all_uninserted P c x (ordered c xs) h in (p.0, all_unordered P c xs p.1)

positions_rise : (w : World) → chunks_rise w.positions.items ≡ true
positions_rise w = rises w.positions.items w.lawful.rising

-- a chunk that is there was found
was_found : (h : Height) (w : World) (c : ChunkPos) (o : Option Chunk) → HasAt h w c o → has_chunk w.positions.items c ≡ true → o ≡ None → ⊥
was_found h w c None has there e = false≢true (sym has.0 ∙ there)
was_found h w c (Some x) has there e = none-some x (sym e)

-- air where nothing is loaded
pub zero_elsewhere : (h : Height) (w : World) (found : List LoadedChunk) → IsWorldOf h found w → (p : Pos) → is_loaded (land_of w) p ≡ false → (land_of w).at p ≡ 0
zero_elsewhere h w found has p out = by (chunk_found found (chunk_of p)) (has.each (chunk_of p)) where
  high : (b c : Bool) → b ≡ true → (b && c) ≡ false → c ≡ false
  high true c e k = k
  high false c e k = absurd (false≢true e)

  by : (o : Option Chunk) → HasAt h w (chunk_of p) o → number_in_filling (grid w (section_of p)) (place_of p) ≡ 0
  by None q = ap (λ f. number_in_filling f (place_of p)) (q.1 (section_of p) refl)
  by (Some x) q =
      let off : is_block_of w.height p.y ≡ false = high (has_chunk w.positions.items (chunk_of p)) (is_block_of w.height p.y) q.0 out in
      let off' : is_block_of h p.y ≡ false = ap (λ k. is_block_of k p.y) (sym has.height_is) ∙ off in
      ap (λ f. number_in_filling f (place_of p)) (q.1 (section_of p) refl)
      ∙ ap (λ b. number_in_filling (filling_in (cond b (slice_index_or x.sections.items (section_index h (divided p.y 16)) None) None)) (place_of p)) off'

air_first : (t : List BlockState) (s : List BlockState) (n : ℕ) → take 10 t ≡ air ∷ s → n ≡ 0 → slice_index_or t n air ≡ air
air_first [] s n e z = refl
air_first (x ∷ xs) s n e z = ap (λ k. slice_index_or (x ∷ xs) k air) z ∙ ap (λ l. slice_index_or l 0 air) e

none_there : (h : Height) (w : World) (c : ChunkPos) (o : Option Chunk) → HasAt h w c o → has_chunk w.positions.items c ≡ false → (land_of w).lists c ≡ []
none_there h w c None has e = has.2
none_there h w c (Some x) has e = absurd (false≢true (sym e ∙ has.0))

pub denotes_read : (h : Height) (t more : List BlockState) (files : List File) (rs : List ReadRegion) (xs : List RegionRest) (w : World) → take 10 t ≡ air ∷ more
    → regions_rise (map (λ f. f.pos) (in_order files)) ≡ true → WereRegionsRead h t (in_order files) rs → AreSplit rs xs → IsWorldOf h (flat_map positioned_in rs) w
    → Denotes h files (stated t (land_of w)) (rest_view xs)
denotes_read h t more files rs xs w begins rise was split has =
    let same = indices_same h t (in_order files) rs xs was split in
    let up : regions_rise (map (λ x. x.pos) xs) ≡ true = ap regions_rise same ∙ rise in
    record {
      apart = up;
      regions = same;
      each = all_unordered (DenotesFile h (stated t (land_of w)) (rest_view xs)) (λ a b. region_order a.pos b.pos) files
          (all_files h t xs (flat_map positioned_in rs) w (in_order files) rs xs has was split up (record { region = λ p is. refl; chunk = λ c is. refl }));
      height = has.height_is;
      rise = positions_rise w;
      others = λ c there. other c there (list_any (same_region (region_of c)) (map (λ x. x.pos) xs)) refl;
      air_elsewhere = λ p out. air_first t more ((land_of w).at p) begins (zero_elsewhere h w (flat_map positioned_in rs) has p out);
      none_elsewhere = λ c out. none_there h w c (chunk_found (flat_map positioned_in rs) c) (has.each c) out;
    } where
      other : (c : ChunkPos) → has_chunk w.positions.items c ≡ true → (b : Bool) → list_any (same_region (region_of c)) (map (λ x. x.pos) xs) ≡ b → b ≡ true
      other c there true e = refl
      other c there false e = absurd (was_found h w c (chunk_found (flat_map positioned_in rs) c) (has.each c) there (found_elsewhere h t (in_order files) rs xs was split c e))

-- the rest is one of the world
pub rest_read : (h : Height) (t : List BlockState) (fs : List File) (rs : List ReadRegion) (xs : List RegionRest) (w : World)
    → regions_rise (map (λ f. f.pos) fs) ≡ true → WereRegionsRead h t fs rs → AreSplit rs xs → IsWorldOf h (flat_map positioned_in rs) w
    → (regions_rise (map (λ x. x.pos) xs) ≡ true) × AllByRecursion (IsRegionOf h w.positions.items) xs
rest_read h t fs rs xs w rise was split has =
    let up : regions_rise (map (λ x. x.pos) xs) ≡ true = ap regions_rise (indices_same h t fs rs xs was split) ∙ rise in
    (up, all_regions h t xs (flat_map positioned_in rs) w fs rs xs has was split up (record { region = λ p is. refl; chunk = λ c is. refl }))
