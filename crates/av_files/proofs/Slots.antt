-- One index of a file that is written.
use Rattle.std.proofs.Common.{◌≡◌, ◌∙◌, ℕ, ◌+◌, ◌-◌, ◌*◌, ◌<◌, ◌≤◌, ◌%◌, List, length, drop, true, false, cond, Some, None, get_or, ap, arith}
use Rattle.std.specs.Prelude.{map, slice_get, slice_range, option_map}
use Rattle.std.specs.List.{range_with_len}
use Rattle.std.proofs.lemmas.Option.{slice_get-map, slice_get-get_or}
use Rattle.std.proofs.lemmas.List.{length-take}
use Rattle.std.proofs.lemmas.List.FromFn.{length-range_with_len, get_or-range_with_len}
use Rattle.av_types.specs.Positions.{chunk_at}
use Rattle.av_types.specs.declared.position.RegionPos.{RegionPos}
use Rattle.av_region.specs.Region.{Holds, start_of, end_of, length_of, location_of}
use Rattle.av_region.specs.Layout.{HoldsAll}
use Rattle.av_state.specs.BlockState.{BlockState}
use Rattle.av_rules.specs.Rows.{BlockTable}
use Rattle.av_document.proofs.Rewritten.{written_comes_back}
use Rattle.av_land.specs.Land.{Land, has_chunk}
use Rattle.av_files.specs.Denotes.{Rest, IsSlot, absent, kept, full}
use Rattle.av_files.specs.Layout.{Lights, sources_of, chunk_bytes, payload_of, indices, payloads, stamps}
use Rattle.av_files.specs.Lawful.{IsLawfulLand, AreLights}
use Rattle.av_land.specs.Resumed.{shifted}

-- the value at an index of a list made from a function
pub made_at : {X : Type 0} (g : ℕ → X) (i : ℕ) → i < 1024 → slice_get (map g indices) i ≡ Some (g i)
made_at g i less =
    slice_get-map g (range_with_len 0 1024) i
    ∙ ap (option_map g) (slice_get-get_or (range_with_len 0 1024) i 0 (rw (length-range_with_len 0 1024) less))
    ∙ ap (λ n. Some (g n)) (let e : get_or (range_with_len 0 1024) i 0 ≡ i = get_or-range_with_len 0 1024 i 0 less ∙ omega arith in e)

length_range : (xs : List ℕ) (i j : ℕ) → length (slice_range xs i j) ≤ j - i
length_range xs i j = rw (length-take (j - i) (drop i xs)) (omega arith)

-- a payload fits the 255 sectors that a chunk may have
pub holds_few : (file : List ℕ) (i : ℕ) (payload : List ℕ) → Holds file i payload → length payload ≤ 1044475
holds_few file i payload h =
    let n : length payload ≤ end_of file i - (start_of file i + 5) = rw h.bytes (length_range file (start_of file i + 5) (end_of file i)) in
    let m = h.measured.fits in
    few (location_of file i) (length_of file i) (start_of file i) (length payload) n m where
      few : (location size start count : ℕ) → count ≤ (start + 4 + size) - (start + 5) → size + 4 ≤ 4096 * (location % 256) → count ≤ 1044475
      few location size start count n m = omega arith

-- the world's chunk at an index, once it is written
pub slot_written : (t : BlockTable) (w v : Land BlockState) (r : Rest) (light : Lights) (n : ℕ) (file out : List ℕ) (region : RegionPos) (i : ℕ) → i < 1024
    → IsSlot v.height w r file (chunk_at region i) i → v.chunks ≡ w.chunks → IsLawfulLand v n → AreLights v.height light
    → HoldsAll out (payloads (sources_of t v) v r light n region) (stamps r region) → IsSlot v.height (shifted n v) r out (chunk_at region i) i
slot_written t w v r light n file out region i less (absent none out_of kept_none) same lawful lit holds =
    let c = chunk_at region i in
    let gone : has_chunk v.chunks c ≡ false = ap (λ cs. has_chunk cs c) same ∙ out_of in
    let here : slice_get (payloads (sources_of t v) v r light n region) i ≡ Some None =
    made_at (λ j. payload_of (sources_of t v) v r light n (chunk_at region j)) i less ∙ ap (λ b. Some (cond b (Some (chunk_bytes (sources_of t v) v r light n c)) (r.kept c))) gone ∙ ap (λ o. Some o) kept_none in
    absent (holds.absent i here) gone kept_none
slot_written t w v r light n file out region i less (kept payload d held spelled good part out_of kept_some) same lawful lit holds =
    let c = chunk_at region i in
    let gone : has_chunk v.chunks c ≡ false = ap (λ cs. has_chunk cs c) same ∙ out_of in
    let here : slice_get (payloads (sources_of t v) v r light n region) i ≡ Some (Some payload) =
    made_at (λ j. payload_of (sources_of t v) v r light n (chunk_at region j)) i less ∙ ap (λ b. Some (cond b (Some (chunk_bytes (sources_of t v) v r light n c)) (r.kept c))) gone ∙ ap (λ o. Some o) kept_some in
    kept payload d (holds.held i payload here) spelled good part gone kept_some
slot_written t w v r light n file out region i less (full payload d held spelled denotes there none_kept) same lawful lit holds =
    let c = chunk_at region i in
    let is : has_chunk v.chunks c ≡ true = ap (λ cs. has_chunk cs c) same ∙ there in
    let bytes = chunk_bytes (sources_of t v) v r light n c in
    let here : slice_get (payloads (sources_of t v) v r light n region) i ≡ Some (Some bytes) =
    made_at (λ j. payload_of (sources_of t v) v r light n (chunk_at region j)) i less ∙ ap (λ b. Some (cond b (Some bytes) (r.kept c))) is in
    let back = written_comes_back c v.height payload w.at v.at (w.lists c) (v.lists c) (sources_of t v) (r.chunk c) (light c) n
    (record { read = d; spelled = spelled; denotes = denotes }) (holds_few file i payload held) (lawful.chunks c is) (lawful.ints c is) (lit c) in
    full bytes back.read (holds.held i bytes here) back.spelled back.denotes is none_kept
