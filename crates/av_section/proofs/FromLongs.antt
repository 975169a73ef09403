-- Indices that longs hold.
use Rattle.std.proofs.Common.{◌≡◌, ℕ, zero, suc, ◌<◌, ◌≤◌, ◌^◌, ◌==◌, nat_lt, ◌&&◌, Bool, true, false, List, [], ◌∷◌, ℤ, length, get_or, map, Some, All, refl, sym, ap, subst, ◌∙◌, arith}
use Rattle.std.proofs.lemmas.Bool.{and_parts, eqb-true, ltb-true}
use Rattle.std.proofs.lemmas.List.{length-map, get_or-map}
use Rattle.av_pack.specs.Packing.{bits_for, longs_for, packed_at, unpacked}
use Rattle.av_pack.specs.Packing as pack
use Rattle.av_pack.proofs.Laws.{bits_for-low, bits_for-high, bits_for-enough, length-unpacked, get_or-unpacked}
use Rattle.av_section.specs.BlockStates.{packed_indices, indices_if, are_below}
use Rattle.av_section.specs.Distinct.{AreEachOnce, AreRanks}
use Rattle.av_section.specs.Packed.{IsPackedSection}
use Rattle.av_section.proofs.PackedLemmas.{none_is_not_many}

if_some : (b : Bool) (xs ys : List ℕ) → indices_if b xs ≡ Some ys → (b ≡ true) × (xs ≡ ys)
if_some true xs ys h = (refl, cc)
if_some false xs ys h = cc

pub below_at : (count : ℕ) (xs : List ℕ) → are_below count xs ≡ true → All (λ x. x < count) xs
below_at count [] h k d low = absurd (omega arith)
below_at count (x ∷ xs) h zero d low = ltb-true x count (and_parts (nat_lt x count) (are_below count xs) h).0
below_at count (x ∷ xs) h (suc k) d low = below_at count xs (and_parts (nat_lt x count) (are_below count xs) h).1 k d (omega arith)

-- the indices of a palette of that length
pub record FromLongs (count : ℕ) (longs : List ℤ) (indices : List ℕ) : Type 0 where
  pub many : length longs ≡ longs_for (bits_for count)
  pub long : length indices ≡ 4096
  pub below : All (λ i. i < count) indices
  pub entries : (i d : ℕ) → i < 4096 → get_or indices i d ≡ packed_at (bits_for count) longs i

pub from_longs : (count : ℕ) (longs : List ℤ) (indices : List ℕ) → packed_indices count longs ≡ Some indices → FromLongs count longs indices
from_longs count longs indices h =
    let b = bits_for count in
    let p = if_some ((length longs == longs_for b) && are_below count (unpacked b longs)) (unpacked b longs) indices h in
    let both = and_parts (length longs == longs_for b) (are_below count (unpacked b longs)) p.0 in
    record {
      many = eqb-true (length longs) (longs_for b) both.0;
      long = ap length (sym p.1) ∙ length-unpacked b longs;
      below = subst (All (λ i. i < count)) p.1 (below_at count (unpacked b longs) both.1);
      entries = λ i d low. ap (λ xs. get_or xs i d) (sym p.1) ∙ get_or-unpacked b longs i d low;
    }

-- the longs as they are, where no number is there twice
pub packed_as_is : (numbers palette indices : List ℕ) (longs : List ℤ) (bits : ℕ) → AreEachOnce numbers palette → length palette ≡ length numbers → length numbers ≤ 4096
    → bits ≡ bits_for (length numbers) → FromLongs (length numbers) longs indices → IsPackedSection palette longs bits
packed_as_is numbers palette indices longs bits a same few needed f =
    let is : bits ≡ bits_for (length palette) = needed ∙ ap bits_for (sym same) in
    let short : length palette ≤ 65536 = omega arith in
    record {
      distinct = a.distinct;
      small = a.small;
      few = short;
      bits_are = is;
      low = subst (λ w. 4 ≤ w) (sym needed) (bits_for-low (length numbers));
      high = subst (λ w. w ≤ 16) (sym needed) (bits_for-high (length numbers));
      enough = subst (λ w. length palette ≤ 2 ^ w) (sym is) (bits_for-enough (length palette) short);
      count = λ some. f.many ∙ ap longs_for (sym needed);
      one = λ none. absurd (none_is_not_many longs bits (subst (λ w. 4 ≤ w) (sym needed) (bits_for-low (length numbers))) (subst (λ w. w ≤ 16) (sym needed) (bits_for-high (length numbers))) (f.many ∙ ap longs_for (sym needed)) none);
      below = λ i low. (
          let within : i < length indices = omega (arith, f.long) in
          let index = f.below i 0 within in
          let entry = f.entries i 0 low in
          let at : packed_at bits longs i ≡ get_or indices i 0 = ap (λ w. packed_at w longs i) needed ∙ sym entry in
          omega (arith, at, index, same));
    }

-- the rank of each index is one of the palette
pub ranked_below : (palette numbers ranks indices : List ℕ) → AreRanks palette numbers ranks → All (λ i. i < length numbers) indices → All (λ v. v < length palette) (map (λ i. get_or ranks i 0) indices)
ranked_below palette numbers ranks indices p below k d low =
    let within : k < length indices = omega (arith, length-map indices (λ i. get_or ranks i 0)) in
    let index = below k 0 within in
    let there : get_or indices k 0 < length ranks = omega (arith, p.count, index) in
    subst (λ v. v < length palette) (sym (get_or-map (λ i. get_or ranks i 0) indices k 0 d within)) (p.below (get_or indices k 0) 0 there)

-- the ranks packed, of a palette that has each number
pub packed_ranks : (numbers palette ranks indices : List ℕ) (longs : List ℤ) (bits : ℕ) → AreEachOnce numbers palette → length numbers ≤ 4096 → bits ≡ bits_for (length palette)
    → AreRanks palette numbers ranks → length indices ≡ 4096 → All (λ i. i < length numbers) indices → pack.IsPacked bits (map (λ i. get_or ranks i 0) indices) longs → IsPackedSection palette longs bits
packed_ranks numbers palette ranks indices longs bits a few needed p long below q =
    let short : length palette ≤ 65536 = omega (arith, a.short) in
    record {
      distinct = a.distinct;
      small = a.small;
      few = short;
      bits_are = needed;
      low = subst (λ w. 4 ≤ w) (sym needed) (bits_for-low (length palette));
      high = subst (λ w. w ≤ 16) (sym needed) (bits_for-high (length palette));
      enough = subst (λ w. length palette ≤ 2 ^ w) (sym needed) (bits_for-enough (length palette) short);
      count = λ some. q.count;
      one = λ none. absurd (none_is_not_many longs bits (subst (λ w. 4 ≤ w) (sym needed) (bits_for-low (length palette))) (subst (λ w. w ≤ 16) (sym needed) (bits_for-high (length palette))) q.count none);
      below = λ i low. (
          let within : i < length (map (λ i. get_or ranks i 0) indices) = omega (arith, length-map indices (λ i. get_or ranks i 0), long) in
          subst (λ v. v < length palette) (sym (q.entries i low)) (ranked_below palette numbers ranks indices p below i 0 within));
    }

-- the number at a place then
pub number_ranked : (numbers palette ranks indices : List ℕ) (longs : List ℤ) (bits : ℕ) → AreRanks palette numbers ranks → length indices ≡ 4096 → All (λ i. i < length numbers) indices
    → pack.IsPacked bits (map (λ i. get_or ranks i 0) indices) longs → (i : ℕ) → i < 4096 → get_or palette (packed_at bits longs i) 0 ≡ get_or numbers (get_or indices i 0) 0
number_ranked numbers palette ranks indices longs bits p long below q i low =
    let within : i < length indices = omega (arith, long) in
    ap (λ v. get_or palette v 0) (q.entries i low ∙ get_or-map (λ i. get_or ranks i 0) indices i 0 0 within) ∙ p.numbers_are (get_or indices i 0) (below i 0 within)
