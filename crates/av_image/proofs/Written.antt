-- The files of regions are those of the world, the rest and the lights.
use Rattle.std.proofs.Common.{◌≡◌, ◌∙◌, ℕ, suc, ◌<◌, List, [], ◌∷◌, ◌++◌, length, true, false, ◌||◌, cond, Option, Some, None, refl, ap, sym, arith, map, drop, take, get_or, drop-cons, ◌≤◌, ◌+◌}
use Rattle.std.specs.Prelude.{slice_get, slice_index_or, option_map}
use Rattle.std.specs.List.{AllByRecursion, list_any}
use Rattle.std.proofs.lemmas.Bool.{and_parts, or_right}
use Rattle.std.proofs.lemmas.Option.{none-some, same_Some}
use Rattle.std.proofs.lemmas.List.{map-append, take_more, take_all, drop_all}
use Rattle.std.proofs.lemmas.List.FromFn.{fill_by_all}
use Rattle.std.proofs.lemmas.List.Elements.{recursion_from_All}
use Rattle.av_document.proofs.Inside.{map_range_agree}
use Rattle.av_types.specs.Positions.{chunk_at, region_of, index_of}
use Rattle.av_types.specs.declared.position.ChunkPos.{ChunkPos}
use Rattle.av_types.specs.declared.position.RegionPos.{RegionPos}
use Rattle.av_types.specs.declared.fault.Fault.{Fault}
use Rattle.av_types.specs.declared.fault.Fault.TheVariants.{ChunkTooLarge}
use Rattle.av_types.proofs.Coordinates.{region_back, index_back}
use Rattle.av_files.proofs.Coordinates.{same_region-refl}
use Rattle.av_nbt.specs.Writing.{written_document}
use Rattle.av_region.specs.Layout.{region_bytes, first_too_large}
use Rattle.av_rules.specs.declared.kinds.Kinds.{Kinds}
use Rattle.av_document.specs.Layout.{chunk_layout}
use Rattle.av_chunk.specs.declared.light.ChunkLight.{ChunkLight}
use Rattle.av_world.specs.Views.{height_of, positions_of, lists, is_broken}
use Rattle.av_world.specs.declared.worlds.World.{World}
use Rattle.av_files.specs.Files.{File, regions_rise, region_after}
use Rattle.av_region_files.specs.Regions.{same_region}
use Rattle.av_files.specs.Layout.{payload_of, payloads, stamps, file_layout, chunk_bytes, indices, first_or, too_large_in}
use Rattle.av_files.proofs.Sorted.{all_both}
use Rattle.av_image.specs.declared.rest.Slot.{Slot}
use Rattle.av_image.specs.declared.rest.Slot.TheVariants.{Absent, Kept, Loaded}
use Rattle.av_image.specs.declared.rest.RegionRest.{RegionRest}
use Rattle.av_image.specs.declared.rest.Rest.{Rest}
use Rattle.av_image.specs.Views.{region_found, stamp_in, slot_in, slot_at, kept_in, chunk_rest_in, rest_view}
use Rattle.av_image.specs.Saving.{states_in, sources_in, lights_in, saved, unsaved, IsSlotOf, IsRegionOf, IsRestOf, IsSaveFault, large}
use Rattle.av_image.specs.SavingSteps.{slot_payload, region_payloads, region_file, region_unsaved, regions_unsaved, SavedSoFar}
use Rattle.av_image.proofs.Rises.{not_later_region}
use Rattle.av_image.proofs.Denoted.{get_within}

-- ---- each region is found at its position

later : (p : RegionPos) (xs : List RegionRest) → ((q : RegionPos) → list_any (same_region q) (map (λ x. x.pos) xs) ≡ true → same_region p q ≡ false) → AllByRecursion (λ y. same_region p y.pos ≡ false) xs
later p [] n = tt
later p (y ∷ ys) n = (
  n y.pos (ap (λ b. b || list_any (same_region y.pos) (map (λ x. x.pos) ys)) (same_region-refl y.pos)),
  later p ys (λ q is. n q (or_right (same_region q y.pos) (list_any (same_region q) (map (λ x. x.pos) ys)) is)),
)

found_all : (rs : List RegionRest) → regions_rise (map (λ x. x.pos) rs) ≡ true → AllByRecursion (λ x. region_found rs x.pos ≡ Some x) rs
found_all [] h = tt
found_all (x ∷ xs) h =
    let more = and_parts (region_after x.pos (map (λ y. y.pos) xs)) (regions_rise (map (λ y. y.pos) xs)) h in (
      ap (λ b. cond b (Some x) (region_found xs x.pos)) (same_region-refl x.pos),
      all_both (λ y. same_region x.pos y.pos ≡ false) (λ y. region_found xs y.pos ≡ Some y) (λ y. region_found (x ∷ xs) y.pos ≡ Some y) xs
          (λ y a b. ap (λ t. cond t (Some x) (region_found xs y.pos)) a ∙ b)
          (later x.pos xs (λ q is. not_later_region x.pos q (map (λ y. y.pos) xs) h is)) (found_all xs more.1),
    )

-- ---- one region

module _ (w : World) (k : Kinds) (ls : List ChunkLight) (n : ℕ) (rs : List RegionRest) where
  slot_is : (c : ChunkPos) (s : Slot) → IsSlotOf (height_of w) (positions_of w) c s → slot_at rs c ≡ Some s
      → payload_of (sources_in k w) (states_in k w) (rest_view rs) (lights_in w ls) n c ≡ slot_payload w k ls n c (Some s)
  slot_is c Absent own at =
      ap (λ b. cond b (Some (chunk_bytes (sources_in k w) (states_in k w) (rest_view rs) (lights_in w ls) n c)) (kept_in (slot_at rs c))) own ∙ ap kept_in at
  slot_is c (Kept p) own at =
      ap (λ b. cond b (Some (chunk_bytes (sources_in k w) (states_in k w) (rest_view rs) (lights_in w ls) n c)) (kept_in (slot_at rs c))) own ∙ ap kept_in at
  slot_is c (Loaded r) own at =
      ap (λ b. cond b (Some (chunk_bytes (sources_in k w) (states_in k w) (rest_view rs) (lights_in w ls) n c)) (kept_in (slot_at rs c))) own.0
      ∙ ap (λ (o : Option Slot). Some (written_document (chunk_layout c (height_of w) (states_in k w).at (lists w c) (sources_in k w) (chunk_rest_in o) (lights_in w ls c) n))) at

  payload_is : (x : RegionRest) → IsRegionOf (height_of w) (positions_of w) x → region_found rs x.pos ≡ Some x → (i : ℕ) → i < 1024
      → payload_of (sources_in k w) (states_in k w) (rest_view rs) (lights_in w ls) n (chunk_at x.pos i) ≡ slot_payload w k ls n (chunk_at x.pos i) (slice_get x.slots.items i)
  payload_is x own found i less =
      let c = chunk_at x.pos i in
      let item : region_of (chunk_at x.pos i) ≡ x.pos = region_back x.pos i less in
      let there = get_within x.slots.items i (let e = own.slots in omega (arith, e, less)) in
      let at : slot_at rs (chunk_at x.pos i) ≡ Some there.0 =
      ap (λ q. slot_in (region_found rs q) (index_of (chunk_at x.pos i))) item
      ∙ (ap (λ o. slot_in o (index_of (chunk_at x.pos i))) found ∙ (ap (λ j. slice_get x.slots.items j) (index_back x.pos i less) ∙ there.1)) in
      slot_is (chunk_at x.pos i) there.0 (own.each i there.0 there.1) at ∙ ap (λ o. slot_payload w k ls n (chunk_at x.pos i) o) (sym there.1)

  payloads_are : (x : RegionRest) → IsRegionOf (height_of w) (positions_of w) x → region_found rs x.pos ≡ Some x
      → payloads (sources_in k w) (states_in k w) (rest_view rs) (lights_in w ls) n x.pos ≡ region_payloads w k ls n x
  payloads_are x own found =
      map_range_agree (λ i. payload_of (sources_in k w) (states_in k w) (rest_view rs) (lights_in w ls) n (chunk_at x.pos i)) (λ i. slot_payload w k ls n (chunk_at x.pos i) (slice_get x.slots.items i)) 0 1024
      (λ i less. payload_is x own found i (omega (arith, less)))

  stamps_are : (x : RegionRest) → length x.stamps.items ≡ 1024 → region_found rs x.pos ≡ Some x → stamps (rest_view rs) x.pos ≡ x.stamps.items
  stamps_are x many found =
      ap (λ (o : Option RegionRest). map (λ i. stamp_in o i) indices) found
      ∙ sym (fill_by_all (λ i. slice_index_or x.stamps.items i 0) x.stamps.items 1024 0 many (λ j lt. refl))

  file_is : (x : RegionRest) → IsRegionOf (height_of w) (positions_of w) x → region_found rs x.pos ≡ Some x
      → region_file w k ls n x ≡ file_layout (sources_in k w) (states_in k w) (rest_view rs) (lights_in w ls) n x.pos
  file_is x own found =
      let a = payloads_are x own found in
      let b = stamps_are x own.stamps found in
      sym (λ i. record { pos = x.pos; bytes = region_bytes (a i) (b i) })

  large_is : (x : RegionRest) → IsRegionOf (height_of w) (positions_of w) x → region_found rs x.pos ≡ Some x
      → region_unsaved w k ls n x ≡ option_map (chunk_at x.pos) (first_too_large (payloads (sources_in k w) (states_in k w) (rest_view rs) (lights_in w ls) n x.pos))
  large_is x own found = sym (ap (λ ps. option_map (chunk_at x.pos) (first_too_large ps)) (payloads_are x own found))

  -- ---- all regions

  files_from : (xs : List RegionRest) → AllByRecursion (IsRegionOf (height_of w) (positions_of w)) xs → AllByRecursion (λ x. region_found rs x.pos ≡ Some x) xs
      → map (region_file w k ls n) xs ≡ map (file_layout (sources_in k w) (states_in k w) (rest_view rs) (lights_in w ls) n) (map (λ x. x.pos) xs)
  files_from [] own found = refl
  files_from (x ∷ xs) own found =
      let first = file_is x own.0 found.0 in
      let rest = files_from xs own.1 found.1 in
      λ i. first i ∷ rest i

  large_from : (xs : List RegionRest) → AllByRecursion (IsRegionOf (height_of w) (positions_of w)) xs → AllByRecursion (λ x. region_found rs x.pos ≡ Some x) xs
      → regions_unsaved w k ls n xs ≡ too_large_in (sources_in k w) (states_in k w) (rest_view rs) (lights_in w ls) n (map (λ x. x.pos) xs)
  large_from [] own found = refl
  large_from (x ∷ xs) own found =
      let first = large_is x own.0 found.0 in
      let rest = large_from xs own.1 found.1 in
      λ i. first_or (first i) (rest i)

pub saved_is : (w : World) (r : Rest) (k : Kinds) (ls : List ChunkLight) (n : ℕ) → IsRestOf (height_of w) (positions_of w) r → map (region_file w k ls n) r.regions.items ≡ saved w r k ls n
saved_is w r k ls n own = files_from w k ls n r.regions.items r.regions.items (recursion_from_All (IsRegionOf (height_of w) (positions_of w)) r.regions.items own.each) (found_all r.regions.items own.rise)

pub unsaved_is : (w : World) (r : Rest) (k : Kinds) (ls : List ChunkLight) (n : ℕ) → IsRestOf (height_of w) (positions_of w) r → regions_unsaved w k ls n r.regions.items ≡ unsaved w r k ls n
unsaved_is w r k ls n own = large_from w k ls n r.regions.items r.regions.items (recursion_from_All (IsRegionOf (height_of w) (positions_of w)) r.regions.items own.each) (found_all r.regions.items own.rise)

-- ---- steps of the loop over regions

pub saved_none : (w : World) (k : Kinds) (ls : List ChunkLight) (n : ℕ) (all : List RegionRest) → SavedSoFar w k ls n all 0 []
saved_none w k ls n all = record { done = refl; way = refl }

none_first : (o p q : Option ChunkPos) → o ≡ None → p ≡ first_or o q → p ≡ q
none_first o p q e h = h ∙ ap (λ a. first_or a q) e

pub left_is : (w : World) (k : Kinds) (ls : List ChunkLight) (n : ℕ) (all : List RegionRest) (i : ℕ) (x : RegionRest) → i < length all → x ≡ get_or all i x
    → regions_unsaved w k ls n (drop i all) ≡ first_or (region_unsaved w k ls n x) (regions_unsaved w k ls n (drop (suc i) all))
left_is w k ls n all i x less is =
    ap (regions_unsaved w k ls n) (drop-cons all i x less)
    ∙ ap (λ y. first_or (region_unsaved w k ls n y) (regions_unsaved w k ls n (drop (suc i) all))) (sym is)

pub saved_more : (w : World) (k : Kinds) (ls : List ChunkLight) (n : ℕ) (all : List RegionRest) (i : ℕ) (x : RegionRest) (files after : List File) (f : File) → i < length all → x ≡ get_or all i x
    → after ≡ files ++ f ∷ [] → f ≡ region_file w k ls n x → region_unsaved w k ls n x ≡ None → SavedSoFar w k ls n all i files → SavedSoFar w k ls n all (i + 1) after
saved_more w k ls n all i x files after f less is pushed file fits s =
    let next : suc i ≡ i + 1 = omega arith in
    record {
      done = pushed
          ∙ (ap (λ l. l ++ f ∷ []) s.done
          ∙ (ap (λ y. map (region_file w k ls n) (take i all) ++ y ∷ []) (file ∙ ap (region_file w k ls n) is)
          ∙ (sym (map-append (region_file w k ls n) (take i all) (get_or all i x ∷ []))
          ∙ ap (map (region_file w k ls n)) (sym (take_more all i x less)))));
      way = s.way
          ∙ (none_first (region_unsaved w k ls n x) (regions_unsaved w k ls n (drop i all)) (regions_unsaved w k ls n (drop (suc i) all)) fits (left_is w k ls n all i x less is)
          ∙ ap (λ j. regions_unsaved w k ls n (drop j all)) next);
    }

pub saved_all : (w : World) (r : Rest) (k : Kinds) (ls : List ChunkLight) (n i : ℕ) (files : List File) → length r.regions.items ≤ i → IsRestOf (height_of w) (positions_of w) r → SavedSoFar w k ls n r.regions.items i files
    → files ≡ saved w r k ls n
saved_all w r k ls n i files past own s = s.done ∙ (ap (map (region_file w k ls n)) (take_all i r.regions.items past) ∙ saved_is w r k ls n own)

pub saved_fits : (w : World) (r : Rest) (k : Kinds) (ls : List ChunkLight) (n i : ℕ) (files : List File) → length r.regions.items ≤ i → IsRestOf (height_of w) (positions_of w) r → SavedSoFar w k ls n r.regions.items i files
    → unsaved w r k ls n ≡ None
saved_fits w r k ls n i files past own s = sym (unsaved_is w r k ls n own) ∙ (s.way ∙ ap (regions_unsaved w k ls n) (drop_all i r.regions.items past))

stopped : {X : Type 0} (g : ChunkPos → X) (o p : Option ChunkPos) (e : X) → option_map g o ≡ Some e → option_map g (first_or o p) ≡ Some e
stopped g None p e h = absurd (none-some e h)
stopped g (Some c) p e h = h

pub saved_stop : (w : World) (r : Rest) (k : Kinds) (ls : List ChunkLight) (n i : ℕ) (x : RegionRest) (files : List File) (e : Fault) → i < length r.regions.items → x ≡ get_or r.regions.items i x
    → IsRestOf (height_of w) (positions_of w) r → SavedSoFar w k ls n r.regions.items i files → option_map ChunkTooLarge (region_unsaved w k ls n x) ≡ Some e → option_map ChunkTooLarge (unsaved w r k ls n) ≡ Some e
saved_stop w r k ls n i x files e less is own s bad =
    ap (option_map ChunkTooLarge) (sym (unsaved_is w r k ls n own) ∙ (s.way ∙ left_is w k ls n r.regions.items i x less is))
    ∙ stopped ChunkTooLarge (region_unsaved w k ls n x) (regions_unsaved w k ls n (drop (suc i) r.regions.items)) e bad

-- why nothing was written, of a world that is not broken
pub save_fault : (w : World) (r : Rest) (k : Kinds) (ls : List ChunkLight) (n : ℕ) (e : Fault) → is_broken w ≡ false → (o : Option ChunkPos) → unsaved w r k ls n ≡ o → option_map ChunkTooLarge o ≡ Some e → IsSaveFault w r k ls n e
save_fault w r k ls n e sound None at is = absurd (none-some e is)
save_fault w r k ls n e sound (Some c) at is = large sound c at (sym (same_Some (ChunkTooLarge c) e is))
