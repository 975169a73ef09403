-- Where the parts of a written region stand, and what is read there.
use Rattle.std.proofs.Common.{◌≡◌, ◌∙◌, ℕ, zero, suc, ◌+◌, ◌-◌, ◌*◌, ◌^◌, ◌<◌, ◌≤◌, false, List, [], ◌∷◌, ◌++◌, length, take, drop, Option, Some, None, refl, sym, ap, subst, arith, append_assoc, length-append}
use Rattle.std.specs.Prelude.{slice_get}
use Rattle.std.specs.Int.{w32, to_be_bytes, from_be_bytes}
use Rattle.std.specs.List.{flat_map}
use Rattle.std.proofs.lemmas.List.{drop-drop, drop_at, length-replicate}
use Rattle.std.proofs.lemmas.Bool.{ltb-false}
use Rattle.std.proofs.lemmas.Nat.{from_be_bytes-to_be_bytes_4}
use Rattle.av_region.specs.Region.{number_at}
use Rattle.av_region.specs.Layout.{sectors_for, location_for, locations_from, chunk_bytes, is_too_large}

number_at_is : (file : List ℕ) (p : ℕ) → number_at file p ≡ from_be_bytes w32 (take 4 (drop p file))
unfolding number_at
number_at_is file p = ap (λ n. from_be_bytes w32 (take n (drop p file))) (let e : p + 4 - p ≡ 4 = omega arith in e)

pub number_reads : (file : List ℕ) (p n : ℕ) (more : List ℕ) → n < 2 ^ 32 → drop p file ≡ to_be_bytes w32 n ++ more → number_at file p ≡ n
number_reads file p n more fits e = number_at_is file p ∙ ap (λ bytes. from_be_bytes w32 (take 4 bytes)) e ∙ from_be_bytes-to_be_bytes_4 n fits

pub after_front : (front rest : List ℕ) (n m : ℕ) → n ≡ length front + m → drop n (front ++ rest) ≡ drop m rest
after_front front rest n m e =
    ap (λ k. drop k (front ++ rest)) e
    ∙ sym (drop-drop m (length front) (front ++ rest))
    ∙ ap (drop m) (drop_at front rest (length front) refl)

pub length-locations : (s : ℕ) (ps : List (Option (List ℕ))) → length (locations_from s ps) ≡ 4 * length ps
length-locations s [] = refl
length-locations s (p ∷ ps) = omega (arith, length-locations (s + sectors_for p) ps)

pub length-stamps : (stamps : List ℕ) → length (flat_map (to_be_bytes w32) stamps) ≡ 4 * length stamps
length-stamps [] = refl
length-stamps (n ∷ ns) = omega (arith, length-stamps ns)

length-chunk : (o : Option (List ℕ)) → length (chunk_bytes o) ≡ 4096 * sectors_for o
length-chunk None = refl
length-chunk (Some p) = simp (length-append, length-replicate) (omega arith)

pub not_too_large : (p : List ℕ) → is_too_large (Some p) ≡ false → length p + 1 ≤ 1044476
not_too_large p e = ltb-false 1044476 (length p + 1) e

pub few_sectors : (o : Option (List ℕ)) → is_too_large o ≡ false → sectors_for o ≤ 255
few_sectors None e = omega arith
few_sectors (Some p) e = omega (arith, not_too_large p e)

-- where the chunk at an index stands, among chunks that begin at sector s
pub record Placed (s i : ℕ) (ps : List (Option (List ℕ))) (o : Option (List ℕ)) (rest : List ℕ) : Type 0 where
  pub sector : ℕ
  pub low : s ≤ sector
  pub high : sector ≤ s + 255 * i
  pub more : List ℕ
  pub after : List ℕ
  pub location : drop (4 * i) (locations_from s ps ++ rest) ≡ to_be_bytes w32 (location_for sector o) ++ more
  pub chunk : drop (4096 * (sector - s)) (flat_map chunk_bytes ps) ≡ chunk_bytes o ++ after

placed_first : (s : ℕ) (p : Option (List ℕ)) (ps : List (Option (List ℕ))) (rest : List ℕ) → Placed s 0 (p ∷ ps) p rest
placed_first s p ps rest = record {
  sector = s;
  low = omega arith;
  high = omega arith;
  more = locations_from (s + sectors_for p) ps ++ rest;
  after = flat_map chunk_bytes ps;
  location = append_assoc (to_be_bytes w32 (location_for s p)) (locations_from (s + sectors_for p) ps) rest;
  chunk = ap (λ n. drop n (chunk_bytes p ++ flat_map chunk_bytes ps)) (let e : 4096 * (s - s) ≡ 0 = omega arith in e);
}

placed_later : (s i : ℕ) (p : Option (List ℕ)) (ps : List (Option (List ℕ))) (o : Option (List ℕ)) (rest : List ℕ) → sectors_for p ≤ 255 → Placed (s + sectors_for p) i ps o rest → Placed s (suc i) (p ∷ ps) o rest
placed_later s i p ps o rest small t = record {
  sector = t.sector;
  low = omega arith;
  high = omega arith;
  more = t.more;
  after = t.after;
  location =
      ap (drop (4 * suc i)) (append_assoc (to_be_bytes w32 (location_for s p)) (locations_from (s + sectors_for p) ps) rest)
      ∙ after_front (to_be_bytes w32 (location_for s p)) (locations_from (s + sectors_for p) ps ++ rest) (4 * suc i) (4 * i) (omega arith)
      ∙ t.location;
  chunk = after_front (chunk_bytes p) (flat_map chunk_bytes ps) (4096 * (t.sector - s)) (4096 * (t.sector - (s + sectors_for p))) (omega (arith, length-chunk p)) ∙ t.chunk;
}

pub placed : (s i : ℕ) (ps : List (Option (List ℕ))) (o : Option (List ℕ)) (rest : List ℕ) → ((k : ℕ) (q : Option (List ℕ)) → slice_get ps k ≡ Some q → is_too_large q ≡ false) → slice_get ps i ≡ Some o → Placed s i ps o rest
placed s i [] o rest small e = absurd (cc)
placed s zero (p ∷ ps) o rest small e = subst (λ q. Placed s 0 (p ∷ ps) q rest) (let same : p ≡ o = cc in same) (placed_first s p ps rest)
placed s (suc i) (p ∷ ps) o rest small e = placed_later s i p ps o rest (few_sectors p (small 0 p refl)) (placed (s + sectors_for p) i ps o rest (λ k q. small (suc k) q) e)

-- the timestamp at an index, among timestamps
pub stamp_placed : (i n : ℕ) (ns rest : List ℕ) → slice_get ns i ≡ Some n → (more : List ℕ) × (drop (4 * i) (flat_map (to_be_bytes w32) ns ++ rest) ≡ to_be_bytes w32 n ++ more)
stamp_placed i n [] rest e = absurd (cc)
stamp_placed zero n (m ∷ ns) rest e = (flat_map (to_be_bytes w32) ns ++ rest, append_assoc (to_be_bytes w32 m) (flat_map (to_be_bytes w32) ns) rest ∙ ap (λ k. to_be_bytes w32 k ++ (flat_map (to_be_bytes w32) ns ++ rest)) (let same : m ≡ n = cc in same))
stamp_placed (suc i) n (m ∷ ns) rest e =
    let later = stamp_placed i n ns rest e in (
      later.0,
      ap (drop (4 * suc i)) (append_assoc (to_be_bytes w32 m) (flat_map (to_be_bytes w32) ns) rest)
          ∙ after_front (to_be_bytes w32 m) (flat_map (to_be_bytes w32) ns ++ rest) (4 * suc i) (4 * i) (omega arith)
          ∙ later.1,
    )
