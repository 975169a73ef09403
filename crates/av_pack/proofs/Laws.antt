-- What crates above use of packed longs.
use Rattle.std.proofs.Common.{◌≡◌, inl, inr, ℕ, zero, suc, ◌+◌, ◌*◌, ◌/◌, ◌%◌, ◌^◌, ◌<◌, ◌≤◌, ℤ, pos, of_z, w64, List, length, get_or, set, replicate, sym, ap, ◌∙◌, subst, arith}
use Rattle.std.specs.Prelude.{All}
use Rattle.std.proofs.lemmas.Bool.{cases_lt, cases_eq}
use Rattle.std.proofs.lemmas.Bool.Decides.{nat_tests}
use Rattle.std.proofs.lemmas.List.{get_or_past, get_or-set_same, get_or-set_other, get_or-replicate, length-replicate, same_lists, get_or_default}
use Rattle.std.proofs.lemmas.List.FromFn.{length-map-range_with_len, get_or-map-range_with_len}
use Rattle.std.proofs.lemmas.Nat.{pow_pos, mod_below, shr_split}
use Rattle.std.proofs.Math.Nat.{zero-div, zero-mod, div-eq_of_lt}
use Rattle.av_pack.specs.Packing.{bits_for, least_bits, packed_at, long_at, packed, unpacked, IsPacked, SetsEntry}
use Rattle.av_pack.proofs.Packed.{packed_at-packed}

-- ---- bits

least_bits-low : (k b n : ℕ) → b ≤ least_bits k b n
least_bits-low zero b n = omega arith
least_bits-low (suc k) b n = let h : suc b ≤ least_bits k (suc b) n = least_bits-low k (suc b) n in grind (arith, nat_tests)

least_bits-high : (k b n : ℕ) → least_bits k b n ≤ b + k
least_bits-high zero b n = omega arith
least_bits-high (suc k) b n = let h : least_bits k (suc b) n ≤ suc b + k = least_bits-high k (suc b) n in grind (arith, nat_tests)

least_bits-enough : (k b n : ℕ) → n ≤ 2 ^ (b + k) → n ≤ 2 ^ least_bits k b n
least_bits-enough zero b n few = let e : b + 0 ≡ b = omega arith in subst (λ t. n ≤ 2 ^ t) e few
least_bits-enough (suc k) b n few =
    let e : b + suc k ≡ suc b + k = omega arith in
    let h : n ≤ 2 ^ least_bits k (suc b) n = least_bits-enough k (suc b) n (subst (λ t. n ≤ 2 ^ t) e few) in
    grind (arith, nat_tests)

least_bits-least : (k b n c : ℕ) → b ≤ c → n ≤ 2 ^ c → c ≤ b + k → least_bits k b n ≤ c
least_bits-least zero b n c low few high = low
least_bits-least (suc k) b n c low few high = elim (cases_eq b c) [
  | inl e ↦ (let now : n ≤ 2 ^ b = subst (λ t. n ≤ 2 ^ t) (sym e) few in grind (arith, nat_tests))
  | inr ne ↦ (let h : least_bits k (suc b) n ≤ c = least_bits-least k (suc b) n c (omega arith) few (omega arith) in grind (arith, nat_tests))
]

pub bits_for-low : (n : ℕ) → 4 ≤ bits_for n
unfolding bits_for
bits_for-low n = least_bits-low 12 4 n

pub bits_for-high : (n : ℕ) → bits_for n ≤ 16
unfolding bits_for
bits_for-high n = least_bits-high 12 4 n

pub bits_for-enough : (n : ℕ) → n ≤ 65536 → n ≤ 2 ^ bits_for n
unfolding bits_for
bits_for-enough n few = least_bits-enough 12 4 n few

-- no smaller number of bits will do
pub bits_for-least : (n b : ℕ) → 4 ≤ b → n ≤ 2 ^ b → bits_for n ≤ b
unfolding bits_for
bits_for-least n b low few = elim (cases_lt 16 b) [
  | inl lt ↦ (let h : least_bits 12 4 n ≤ 16 = least_bits-high 12 4 n in omega (arith, h))
  | inr le ↦ least_bits-least 12 4 n b low few le
]

-- ---- entries

pub packed_at-lt : (b : ℕ) (longs : List ℤ) (i : ℕ) → packed_at b longs i < 2 ^ b
unfolding packed_at
packed_at-lt b longs i = mod_below (long_at longs (i / (64 / b)) / 2 ^ (b * (i % (64 / b)))) (2 ^ b) (pow_pos b)

long_at-zeros : (n j : ℕ) → long_at (replicate n (pos 0)) j ≡ 0
long_at-zeros n j = elim (cases_lt j n) [
  | inl within ↦ ap (of_z w64) (get_or-replicate n j (pos 0) (pos 0) within)
  | inr past ↦ ap (of_z w64) (get_or_past (replicate n (pos 0)) j (pos 0) (subst (λ m. m ≤ j) (sym (length-replicate n (pos 0))) past))
]

-- each entry of longs of 0 is 0
pub packed_at-zeros : (b n i : ℕ) → packed_at b (replicate n (pos 0)) i ≡ 0
unfolding packed_at
packed_at-zeros b n i =
    ap (λ x. x / 2 ^ (b * (i % (64 / b))) % 2 ^ b) (long_at-zeros n (i / (64 / b)))
    ∙ ap (λ x. x % 2 ^ b) (zero-div (2 ^ (b * (i % (64 / b)))))
    ∙ zero-mod (2 ^ b)

pub length-unpacked : (b : ℕ) (longs : List ℤ) → length (unpacked b longs) ≡ 4096
unfolding unpacked
length-unpacked b longs = length-map-range_with_len (packed_at b longs) 0 4096

pub get_or-unpacked : (b : ℕ) (longs : List ℤ) (i d : ℕ) → i < 4096 → get_or (unpacked b longs) i d ≡ packed_at b longs i
unfolding unpacked
get_or-unpacked b longs i d within = get_or-map-range_with_len (packed_at b longs) 0 4096 i i d within (omega arith)

-- what was packed is unpacked
pub unpacked-packed : (b : ℕ) (ns : List ℕ) → 4 ≤ b → b ≤ 16 → length ns ≡ 4096 → All (λ n. n < 2 ^ b) ns → unpacked b (packed b ns) ≡ ns
unpacked-packed b ns low high count fit =
    same_lists (unpacked b (packed b ns)) ns (length-unpacked b (packed b ns) ∙ sym count)
    (λ i d h.
    let within : i < 4096 = subst (λ m. i < m) (length-unpacked b (packed b ns)) h in
    get_or-unpacked b (packed b ns) i d within
    ∙ packed_at-packed b ns i low high count fit
    ∙ get_or_default ns i 0 d (subst (λ m. i < m) (sym count) within))

below_from_div : (x t : ℕ) → x / 2 ^ t ≡ 0 → x < 2 ^ t
below_from_div x t e =
    let low : x % 2 ^ t < 2 ^ t = mod_below x (2 ^ t) (pow_pos t) in
    let split : 0 * 2 ^ t + x % 2 ^ t ≡ x = subst (λ q. q * 2 ^ t + x % 2 ^ t ≡ x) e (shr_split x t) in
    omega arith

-- longs that hold numbers hold them but for one after a write of that one
pub IsPacked-set : (b : ℕ) (ns : List ℕ) (old new : List ℤ) (i n : ℕ) → length ns ≡ 4096 → i < 4096 → IsPacked b ns old → SetsEntry b old new i n → IsPacked b (set ns i n) new
IsPacked-set b ns old new i n count within p s = record {
  count = s.count ∙ p.count;
  entries = λ k h. elim (cases_eq k i) [
    | inl e ↦ ap (packed_at b new) e ∙ s.entry ∙ sym (get_or-set_same ns i n 0 (subst (λ m. i < m) (sym count) within)) ∙ ap (λ j. get_or (set ns i n) j 0) (sym e)
    | inr ne ↦ s.others k ne ∙ p.entries k h ∙ sym (get_or-set_other ns i k n 0 ne)
  ];
  unused_entries = λ k past. s.others k (λ e. absurd (let h : k < 4096 = subst (λ j. j < 4096) (sym e) within in omega (arith, h))) ∙ p.unused_entries k past;
  unused_bits = λ j. below_from_div (long_at new j) (b * (64 / b)) (s.unused_bits j ∙ div-eq_of_lt (p.unused_bits j));
}
