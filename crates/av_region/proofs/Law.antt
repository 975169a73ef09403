-- A written region holds what it was written from.
use Rattle.std.proofs.Common.{◌≡◌, ◌∙◌, ℕ, ◌+◌, ◌-◌, ◌*◌, ◌^◌, ◌<◌, ◌≤◌, false, List, ◌∷◌, ◌++◌, length, take, drop, replicate, get_or, Option, Some, None, refl, sym, ap, subst, arith, append_assoc, length-append, length-drop}
use Rattle.std.specs.Prelude.{slice_get}
use Rattle.std.specs.Int.{w32, to_be_bytes}
use Rattle.std.specs.List.{flat_map}
use Rattle.std.proofs.lemmas.List.{drop-drop, get_or-drop, take_at}
use Rattle.std.proofs.lemmas.Option.{get_or_from_slice_get}
use Rattle.std.proofs.lemmas.Option.{slice_get_within}
use Rattle.av_region.specs.Region.{location_of, start_of, length_of, end_of, type_of, stamp_of, Holds}
use Rattle.av_region.specs.Layout.{sectors_for, location_for, locations_from, chunk_bytes, region_bytes, is_too_large, first_too_large, WrittenHolds}
use Rattle.av_region.proofs.Positions.{none_passes}
use Rattle.av_region.proofs.Written.{number_reads, after_front, length-locations, length-stamps, not_too_large, few_sectors, Placed, placed, stamp_placed}

-- the parts of a chunk
record Parts (bytes payload : List ℕ) : Type 0 where
  pub number : (more : List ℕ) × (bytes ≡ to_be_bytes w32 (length payload + 1) ++ more)
  pub kind : get_or bytes 4 0 ≡ 3
  pub size : length payload + 5 ≤ length bytes
  pub content : take (length payload) (drop 5 bytes) ≡ payload

parts_of : (payload after : List ℕ) → Parts (chunk_bytes (Some payload) ++ after) payload
parts_of payload after =
    let zeros : List ℕ = replicate (4096 * sectors_for (Some payload) - (length payload + 5)) 0 in
    record {
      number = (3 ∷ (payload ++ zeros ++ after), refl);
      kind = refl;
      size = omega (arith, length-append (payload ++ zeros) after, length-append payload zeros);
      content = ap (take (length payload)) (append_assoc payload zeros after) ∙ take_at payload (zeros ++ after) (length payload) refl;
    }

-- a chunk where its location says
chunk_held : (file payload : List ℕ) (index sector : ℕ) → location_of file index ≡ location_for sector (Some payload) → 2 ≤ sector → length payload + 1 ≤ 1044476
    → Parts (drop (4096 * sector) file) payload → Holds file index payload
chunk_held file payload index sector e low small parts =
    let start : start_of file index ≡ 4096 * sector = omega arith in
    let size : length_of file index ≡ length payload + 1 = number_reads file (start_of file index) (length payload + 1) parts.number.0 (omega arith) (ap (λ n. drop n file) start ∙ parts.number.1) in
    let kind : type_of file index ≡ 3 = ap (λ n. get_or file (n + 4) 0) start ∙ sym (get_or-drop (4096 * sector) file 4 0) ∙ parts.kind in
    let room : 4096 * sector + (length payload + 5) ≤ length file = omega (arith, parts.size, length-drop (4096 * sector) file) in
    let stop : end_of file index - (start_of file index + 5) ≡ length payload = omega arith in
    record {
      measured = record {
        whole = record {
          located = record { offset = omega arith; count = omega arith };
          within = omega arith;
        };
        nonempty = omega arith;
        fits = omega arith;
      };
      uncompressed = kind;
      bytes =
          sym parts.content
          ∙ ap (take (length payload)) (drop-drop 5 (4096 * sector) file)
          ∙ ap (λ n. take n (drop (4096 * sector + 5) file)) (sym stop)
          ∙ ap (λ n. take (end_of file index - (start_of file index + 5)) (drop (n + 5) file)) (sym start);
    }

location_fits : (sector : ℕ) (o : Option (List ℕ)) → sector ≤ 2 + 255 * 1024 → is_too_large o ≡ false → location_for sector o < 2 ^ 32
location_fits sector None high small = omega arith
location_fits sector (Some payload) high small = omega (arith, few_sectors (Some payload) small)

small_at : (payloads : List (Option (List ℕ))) → first_too_large payloads ≡ None → (k : ℕ) (o : Option (List ℕ)) → slice_get payloads k ≡ Some o → is_too_large o ≡ false
small_at payloads none k o e =
    ap is_too_large (sym (get_or_from_slice_get payloads k o None e)) ∙ none_passes is_too_large payloads k None none (slice_get_within payloads k o e)

located_at : (payloads : List (Option (List ℕ))) (stamps : List ℕ) (index : ℕ) (o : Option (List ℕ)) (t : Placed 2 index payloads o (flat_map (to_be_bytes w32) stamps ++ flat_map chunk_bytes payloads))
    → index < 1024 → is_too_large o ≡ false → location_of (region_bytes payloads stamps) index ≡ location_for t.sector o
unfolding region_bytes
located_at payloads stamps index o t lt small =
    number_reads (region_bytes payloads stamps) (4 * index) (location_for t.sector o) t.more (location_fits t.sector o (omega (arith, t.high)) small)
    (ap (drop (4 * index)) (append_assoc (locations_from 2 payloads) (flat_map (to_be_bytes w32) stamps) (flat_map chunk_bytes payloads)) ∙ t.location)

chunk_at : (payloads : List (Option (List ℕ))) (stamps : List ℕ) (index : ℕ) (o : Option (List ℕ)) (t : Placed 2 index payloads o (flat_map (to_be_bytes w32) stamps ++ flat_map chunk_bytes payloads))
    → length payloads ≡ 1024 → length stamps ≡ 1024 → drop (4096 * t.sector) (region_bytes payloads stamps) ≡ chunk_bytes o ++ t.after
unfolding region_bytes
chunk_at payloads stamps index o t many each =
    after_front (locations_from 2 payloads ++ flat_map (to_be_bytes w32) stamps) (flat_map chunk_bytes payloads) (4096 * t.sector) (4096 * (t.sector - 2))
    (omega (arith, t.low, length-append (locations_from 2 payloads) (flat_map (to_be_bytes w32) stamps), length-locations 2 payloads, length-stamps stamps))
    ∙ t.chunk

stamped_at : (payloads : List (Option (List ℕ))) (stamps : List ℕ) (index stamp : ℕ) → length payloads ≡ 1024 → stamp < 2 ^ 32 → slice_get stamps index ≡ Some stamp → stamp_of (region_bytes payloads stamps) index ≡ stamp
unfolding region_bytes
stamped_at payloads stamps index stamp many fits e =
    let found = stamp_placed index stamp stamps (flat_map chunk_bytes payloads) e in
    number_reads (region_bytes payloads stamps) (4096 + 4 * index) stamp found.0 fits
    (ap (drop (4096 + 4 * index)) (append_assoc (locations_from 2 payloads) (flat_map (to_be_bytes w32) stamps) (flat_map chunk_bytes payloads))
    ∙ after_front (locations_from 2 payloads) (flat_map (to_be_bytes w32) stamps ++ flat_map chunk_bytes payloads) (4096 + 4 * index) (4 * index) (omega (arith, length-locations 2 payloads))
    ∙ found.1)

whole_header : (payloads : List (Option (List ℕ))) (stamps : List ℕ) → length payloads ≡ 1024 → length stamps ≡ 1024 → 8192 ≤ length (region_bytes payloads stamps)
unfolding region_bytes
whole_header payloads stamps many each =
    omega (
      arith,
      length-append (locations_from 2 payloads ++ flat_map (to_be_bytes w32) stamps) (flat_map chunk_bytes payloads),
      length-append (locations_from 2 payloads) (flat_map (to_be_bytes w32) stamps),
      length-locations 2 payloads,
      length-stamps stamps,
    )

pub holds_all : WrittenHolds
holds_all payloads stamps many each none fit = record {
  header = whole_header payloads stamps many each;
  held = λ index payload e. (
      let small : is_too_large (Some payload) ≡ false = small_at payloads none index (Some payload) e in
      let t = placed 2 index payloads (Some payload) (flat_map (to_be_bytes w32) stamps ++ flat_map chunk_bytes payloads) (small_at payloads none) e in
      let lt : index < 1024 = omega (arith, slice_get_within payloads index (Some payload) e) in
      chunk_held (region_bytes payloads stamps) payload index t.sector (located_at payloads stamps index (Some payload) t lt small) t.low (not_too_large payload small)
      (subst (λ bytes. Parts bytes payload) (sym (chunk_at payloads stamps index (Some payload) t many each)) (parts_of payload t.after)));
  absent = λ index e. (
      let t = placed 2 index payloads None (flat_map (to_be_bytes w32) stamps ++ flat_map chunk_bytes payloads) (small_at payloads none) e in
      let lt : index < 1024 = omega (arith, slice_get_within payloads index None e) in
      located_at payloads stamps index None t lt refl);
  stamped = λ index stamp e. stamped_at payloads stamps index stamp many
      (subst (λ n. n < 2 ^ 32) (get_or_from_slice_get stamps index stamp 0 e) (fit index 0 (slice_get_within stamps index stamp e))) e;
}
