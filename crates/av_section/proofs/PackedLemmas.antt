-- Edits of a palette and of the indices into it.
use Rattle.std.proofs.Common.{◌≡◌, ℕ, zero, suc, ◌<◌, ◌≤◌, ◌/◌, List, [], ◌∷◌, ℤ, pos, length, get_or, replicate, Contains, refl, sym, ap, subst, ◌∙◌, inl, inr, arith}
use Rattle.std.proofs.lemmas.List.{length-replicate}
use Rattle.std.proofs.lemmas.Bool.{cases_eq}
use Rattle.std.proofs.lemmas.List.Elements.{All-cons, All-nil}
use Rattle.av_pack.proofs.Laws.{packed_at-zeros}
use Rattle.av_pack.proofs.Slots.{slot_in_range}
use Rattle.av_pack.specs.Packing.{bits_for, longs_for, packed_at, SetsEntry}
use Rattle.av_section.specs.Packed.{IsPackedSection, number_in}

-- the places need some longs
pub none_is_not_many : (longs : List ℤ) (bits : ℕ) → 4 ≤ bits → bits ≤ 16 → length longs ≡ longs_for bits → longs ≡ [] → ⊥
none_is_not_many longs bits low high many none =
    let some : 0 / (64 / bits) < longs_for bits = slot_in_range bits 0 low high (omega arith) in
    omega (arith, some, many, ap length none)

-- one index set to one of the palette
pub packed_set : (palette : List ℕ) (old new : List ℤ) (bits place index : ℕ) → IsPackedSection palette old bits → length old ≡ longs_for bits → index < length palette → SetsEntry bits old new place index → IsPackedSection palette new bits
packed_set palette old new bits place index packed many low sets = record {
  distinct = packed.distinct;
  small = packed.small;
  few = packed.few;
  bits_are = packed.bits_are;
  low = packed.low;
  high = packed.high;
  enough = packed.enough;
  count = λ some. sets.count ∙ many;
  one = λ none. absurd (none_is_not_many new bits packed.low packed.high (sets.count ∙ many) none);
  below = λ i h. elim (cases_eq i place) [
    | inl e ↦ subst (λ k. k < length palette) (sym (ap (packed_at bits new) e ∙ sets.entry)) low
    | inr ne ↦ subst (λ k. k < length palette) (sym (sets.others i ne)) (packed.below i h)
  ];
}

-- without longs each index is 0
pub no_longs_is_zero : (longs : List ℤ) (bits i : ℕ) → longs ≡ [] → packed_at bits longs i ≡ 0
no_longs_is_zero longs bits i none = ap (λ ls. packed_at bits ls i) none ∙ packed_at-zeros bits 0 i

pub zeros_are_zero : (new : List ℤ) (bits count i : ℕ) → new ≡ replicate count (pos 0) → packed_at bits new i ≡ 0
zeros_are_zero new bits count i zeros = ap (λ ls. packed_at bits ls i) zeros ∙ packed_at-zeros bits count i

-- the number of a palette of one
pub is_the_number : (palette : List ℕ) (n : ℕ) → length palette ≡ 1 → Contains palette n → get_or palette 0 0 ≡ n
is_the_number [] n one there = absurd (omega (arith, one))
is_the_number (m ∷ k ∷ palette) n one there = absurd (omega (arith, one))
is_the_number (m ∷ []) n one (zero, low, e) = e
is_the_number (m ∷ []) n one (suc i, low, e) = absurd (omega (arith, low))

-- without longs the number at each place is any that the palette has
pub no_longs_has : (palette : List ℕ) (longs : List ℤ) (bits n i : ℕ) → IsPackedSection palette longs bits → longs ≡ [] → Contains palette n → number_in palette longs bits i ≡ n
no_longs_has palette longs bits n i packed none there =
    ap (λ k. get_or palette k 0) (no_longs_is_zero longs bits i none) ∙ is_the_number palette n (packed.one none) there

-- one number everywhere
pub packed_one : (number : ℕ) → number < 65536 → IsPackedSection (number ∷ []) [] 4
unfolding bits_for
packed_one number fits = record {
  small = All-cons (λ n. n < 65536) number [] fits (All-nil (λ n. n < 65536));
  distinct = λ i j d lt low. absurd (omega arith);
  few = omega arith;
  bits_are = refl;
  low = omega arith;
  high = omega arith;
  enough = omega arith;
  count = λ some. absurd (some refl);
  one = λ none. refl;
  below = λ i h. subst (λ k. k < 1) (sym (packed_at-zeros 4 0 i)) (omega arith);
}

-- zeros in place of no longs
pub packed_zeros : (palette : List ℕ) (longs new : List ℤ) (bits count : ℕ) → IsPackedSection palette longs bits → longs ≡ [] → count ≡ longs_for bits → new ≡ replicate count (pos 0) → IsPackedSection palette new bits
packed_zeros palette longs new bits count packed none many zeros = record {
  distinct = packed.distinct;
  small = packed.small;
  few = packed.few;
  bits_are = packed.bits_are;
  low = packed.low;
  high = packed.high;
  enough = packed.enough;
  count = λ some. ap length zeros ∙ length-replicate count (pos 0) ∙ many;
  one = λ e. packed.one none;
  below = λ i h. subst (λ k. k < length palette) (sym (zeros_are_zero new bits count i zeros)) (omega (arith, packed.one none));
}
