-- Files that are written.
use Rattle.std.proofs.Common.{◌≡◌, ◌∙◌, ℕ, ◌<◌, ◌^◌, List, [], ◌∷◌, true, Option, Some, None, refl, ap, sym, subst, arith}
use Rattle.std.specs.Prelude.{map, option_map}
use Rattle.std.specs.List.{AllByRecursion}
use Rattle.std.proofs.lemmas.List.FromFn.{length-map-range_with_len}
use Rattle.std.proofs.lemmas.Option.{none-some}
use Rattle.std.proofs.lemmas.List.Elements.{All-from_recursion}
use Rattle.av_types.specs.Positions.{chunk_at}
use Rattle.av_types.specs.declared.position.Height.{Height}
use Rattle.av_types.specs.declared.position.ChunkPos.{ChunkPos}
use Rattle.av_types.specs.declared.position.RegionPos.{RegionPos}
use Rattle.av_region.specs.Layout.{HoldsAll, region_bytes, first_too_large}
use Rattle.av_region.proofs.Law.{holds_all}
use Rattle.av_state.specs.BlockState.{BlockState}
use Rattle.av_rules.specs.Rows.{BlockTable}
use Rattle.av_land.specs.Land.{Land, has_chunk}
use Rattle.av_document.specs.Law.{sooner}
use Rattle.av_files.specs.Files.{in_order, regions_rise, chunks_rise}
use Rattle.av_region_files.specs.Regions.{region_order}
use Rattle.av_files.specs.Denotes.{Rest, DenotesFile, Denotes}
use Rattle.av_files.specs.Layout.{Lights, sources_of, payload_of, indices, payloads, stamps, file_layout, layout, first_or, too_large_in}
use Rattle.av_files.specs.Lawful.{IsLawfulLand, AreLights}
use Rattle.av_land.specs.Resumed.{shifted}
use Rattle.av_files.specs.Laws.{StampsFit, LayoutDenotes}
use Rattle.av_files.proofs.Sorted.{in_order_rising, all_ordered, all_mapped, all_both}
use Rattle.av_files.proofs.Slots.{made_at, slot_written}

-- a region that was read
record WasRead (h : Height) (w : Land BlockState) (r : Rest) (region : RegionPos) : Type 0 where
  file : List ℕ
  denotes : DenotesFile h w r (record { pos = region; bytes = file })

abbrev AreSmall : BlockTable → Land BlockState → Rest → Lights → ℕ → RegionPos → Type 0
AreSmall t v r light n region = first_too_large (payloads (sources_of t v) v r light n region) ≡ None

stamps_made : (g : ℕ → ℕ) → ((i : ℕ) → g i < 2 ^ 32) → (is : List ℕ) → AllByRecursion (λ s. s < 2 ^ 32) (map g is)
stamps_made g h [] = tt
stamps_made g h (i ∷ is) = (h i, stamps_made g h is)

holds_written : (t : BlockTable) (v : Land BlockState) (r : Rest) (light : Lights) (n : ℕ) (region : RegionPos) → StampsFit r → first_too_large (payloads (sources_of t v) v r light n region) ≡ None
    → HoldsAll (region_bytes (payloads (sources_of t v) v r light n region) (stamps r region)) (payloads (sources_of t v) v r light n region) (stamps r region)
holds_written t v r light n region fit small =
    holds_all (payloads (sources_of t v) v r light n region) (stamps r region)
    (length-map-range_with_len (λ i. payload_of (sources_of t v) v r light n (chunk_at region i)) 0 1024) (length-map-range_with_len (r.stamp region) 0 1024) small
    (All-from_recursion (λ s. s < 2 ^ 32) (stamps r region) (stamps_made (r.stamp region) (fit region) indices))

file_written : (t : BlockTable) (w v : Land BlockState) (r : Rest) (light : Lights) (n : ℕ) → StampsFit r → v.chunks ≡ w.chunks → IsLawfulLand v n → AreLights v.height light
    → (region : RegionPos) → WasRead v.height w r region → first_too_large (payloads (sources_of t v) v r light n region) ≡ None → DenotesFile v.height (shifted n v) r (file_layout (sources_of t v) v r light n region)
file_written t w v r light n fit same lawful lit region was small =
    let holds = holds_written t v r light n region fit small in
    record {
      limits = was.denotes.limits;
      whole = λ short. let a = short.short in let b = holds.header in absurd (omega arith);
      stamps = λ i less. sym (holds.stamped i (r.stamp region i) (made_at (r.stamp region) i less));
      slots = λ i less. slot_written t w v r light n was.file (file_layout (sources_of t v) v r light n region).bytes region i less (was.denotes.slots i less) same lawful lit holds;
    }

none_of : {A : Type 0} (g : A → ChunkPos) (o : Option A) (p : Option ChunkPos) → first_or (option_map g o) p ≡ None → (o ≡ None) × (p ≡ None)
none_of g None p h = (refl, h)
none_of g (Some x) p h = absurd (none-some (g x) (sym h))

smalls : (t : BlockTable) (v : Land BlockState) (r : Rest) (light : Lights) (n : ℕ) (rs : List RegionPos) → too_large_in (sources_of t v) v r light n rs ≡ None → AllByRecursion (AreSmall t v r light n) rs
smalls t v r light n [] h = tt
smalls t v r light n (region ∷ rs) h =
    let parts = none_of (chunk_at region) (first_too_large (payloads (sources_of t v) v r light n region)) (too_large_in (sources_of t v) v r light n rs) h in
    (parts.0, smalls t v r light n rs parts.1)

positions_of : (t : BlockTable) (v : Land BlockState) (r : Rest) (light : Lights) (n : ℕ) (rs : List RegionPos) → map (λ f. f.pos) (map (file_layout (sources_of t v) v r light n) rs) ≡ rs
positions_of t v r light n [] = refl
positions_of t v r light n (region ∷ rs) = ap (λ xs. region ∷ xs) (positions_of t v r light n rs)

pub layout_is_denoted : LayoutDenotes
layout_is_denoted t h files w v r light n d fit tall same lawful lit small =
    let hv : v.height ≡ h = tall ∙ d.height in
    let dv : Denotes v.height files w r = subst (λ x. Denotes x files w r) (sym hv) d in
    let lv : AreLights v.height light = subst (λ x. AreLights x light) (sym hv) lit in
    let read = all_ordered (DenotesFile v.height w r) (λ a b. region_order a.pos b.pos) files dv.each in
    let was : AllByRecursion (WasRead v.height w r) r.regions =
    subst (λ rs. AllByRecursion (WasRead v.height w r) rs) (sym d.regions)
    (all_mapped (DenotesFile v.height w r) (WasRead v.height w r) (λ f. f.pos) (in_order files) (λ f x. record { file = f.bytes; denotes = x }) read) in
    let both = all_both (WasRead v.height w r) (AreSmall t v r light n) (λ region. WasRead v.height w r region × AreSmall t v r light n region) r.regions (λ region x y. (x, y)) was (smalls t v r light n r.regions small) in
    let each = all_mapped (λ region. WasRead v.height w r region × AreSmall t v r light n region) (DenotesFile v.height (shifted n v) r) (file_layout (sources_of t v) v r light n) r.regions
    (λ region x. file_written t w v r light n fit same lawful lv region x.0 x.1) both in
    let at = positions_of t v r light n r.regions in
    let rises : regions_rise (map (λ f. f.pos) (layout t v r light n)) ≡ true = ap regions_rise at ∙ d.apart in
    subst (λ x. Denotes x (layout t v r light n) (shifted n v) r) hv (record {
      apart = d.apart;
      regions = sym (ap (λ fs. map (λ f. f.pos) fs) (in_order_rising (layout t v r light n) rises) ∙ at);
      each = each;
      height = refl;
      rise = ap chunks_rise same ∙ d.rise;
      others = λ c is. d.others c (ap (λ cs. has_chunk cs c) (sym same) ∙ is);
      air_elsewhere = lawful.air_elsewhere;
      none_elsewhere = λ c out. ap (map (sooner n)) (lawful.none_elsewhere c out);
    })
