-- What packed longs hold.
use Rattle.std.proofs.Common.{◌≡◌, inl, inr, ℕ, ◌+◌, ◌*◌, ◌/◌, ◌%◌, ◌^◌, ◌<◌, ◌≤◌, ℤ, pos, to_z, of_z, w64, List, [], ◌∷◌, ◌++◌, length, get_or, take, drop, map, min, refl, sym, ap, ◌∙◌, subst, arith, length-take, get_or-take, get_or-drop}
use Rattle.std.specs.Prelude.{All}
use Rattle.std.specs.List.{range_with_len}
use Rattle.std.proofs.lemmas.Bool.{cases_lt}
use Rattle.std.proofs.lemmas.Int.{of_z-to_z}
use Rattle.std.proofs.lemmas.List.{take_min, drop_min, drop-drop, get_or_past}
use Rattle.std.proofs.lemmas.List.Elements.{All-take, All-drop}
use Rattle.std.proofs.lemmas.List.FromFn.{length-map-range_with_len, get_or-map-range_with_len, map-range_with_len_more}
use Rattle.std.proofs.lemmas.Nat.{pow_pos, mod_below, div-add-mod'}
use Rattle.std.proofs.Math.Nat.{mul-le-mul_left, mul-div-le, pow-le-pow_right}
use Rattle.av_pack.specs.Packing.{packed_at, long_at, longs_for, packed, packed_long, low_first, IsPacked}
use Rattle.av_pack.specs.Fields.{entry_of}
use Rattle.av_pack.proofs.LowFirst.{low_first-lt, entry_of-low_first, entry_of-zero}
use Rattle.av_pack.proofs.Slots.{some_in_long, slot_in_range}

-- ---- one more long

-- the longs of the first i groups, and the values that are left
pub record PacksSome (b : ℕ) (values rest : List ℕ) (longs : List ℤ) (i : ℕ) : Type 0 where
  pub left : rest ≡ drop (64 / b * i) values
  pub longs_so_far : longs ≡ map (packed_long b values) (range_with_len 0 i)

pub packs_none : (b : ℕ) (values : List ℕ) (longs : List ℤ) → longs ≡ [] → PacksSome b values values longs 0
packs_none b values longs none =
    let start : 64 / b * 0 ≡ 0 = omega arith in
    record { left = ap (λ n. drop n values) (sym start); longs_so_far = none }

pub packs_all : (b i : ℕ) (values rest : List ℕ) (longs : List ℤ) → PacksSome b values rest longs i → i ≡ longs_for b → longs ≡ packed b values
unfolding packed
packs_all b i values rest longs p all = p.longs_so_far ∙ ap (λ n. map (packed_long b values) (range_with_len 0 n)) all

pub packed-rest : (m i : ℕ) (values rest back : List ℕ) → rest ≡ drop (m * i) values → back ≡ drop (min m (length rest)) rest → back ≡ drop (m * (i + 1)) values
packed-rest m i values rest back er eb =
    let next : m * i + m ≡ m * (i + 1) = omega arith in
    eb ∙ drop_min m rest ∙ ap (drop m) er ∙ drop-drop m (m * i) values ∙ ap (λ n. drop n values) next

pub packed-more : (b i : ℕ) (values rest front : List ℕ) (longs : List ℤ) (long : ℤ) → rest ≡ drop (64 / b * i) values → front ≡ take (min (64 / b) (length rest)) rest
    → long ≡ to_z w64 (low_first b front) → longs ≡ map (packed_long b values) (range_with_len 0 i) → longs ++ long ∷ [] ≡ map (packed_long b values) (range_with_len 0 (i + 1))
packed-more b i values rest front longs long er ef el e =
    let group : front ≡ take (64 / b) (drop (64 / b * i) values) = ef ∙ take_min (64 / b) rest ∙ ap (take (64 / b)) er in
    ap (λ xs. xs ++ long ∷ []) e
    ∙ ap (λ z. map (packed_long b values) (range_with_len 0 i) ++ z ∷ []) (el ∙ ap (λ ns. to_z w64 (low_first b ns)) group)
    ∙ sym (map-range_with_len_more (packed_long b values) 0 i i (omega arith))

-- the values of a long fit it
pub group_fits : (b : ℕ) (rest front : List ℕ) → front ≡ take (min (64 / b) (length rest)) rest → b * length front ≤ 64
group_fits b rest front ef =
    let few : length front ≤ 64 / b = omega (arith, ap length ef ∙ length-take (min (64 / b) (length rest)) rest) in
    let up : b * length front ≤ b * (64 / b) = mul-le-mul_left b few in
    let whole : b * (64 / b) ≤ 64 = mul-div-le 64 b in
    omega arith

pub group_all : (b m i : ℕ) (values rest front : List ℕ) → All (λ n. n < 2 ^ b) values → rest ≡ drop (m * i) values → front ≡ take (min m (length rest)) rest → All (λ n. n < 2 ^ b) front
group_all b m i values rest front fit er ef =
    let of_rest : All (λ n. n < 2 ^ b) (drop (m * i) values) = All-drop (λ n. n < 2 ^ b) (m * i) values fit in
    let of_front : All (λ n. n < 2 ^ b) (take (min m (length rest)) rest) = All-take (λ n. n < 2 ^ b) (min m (length rest)) rest (subst (All (λ n. n < 2 ^ b)) (sym er) of_rest) in
    subst (All (λ n. n < 2 ^ b)) (sym ef) of_front

-- ---- what they hold

pub length-packed : (b : ℕ) (ns : List ℕ) → length (packed b ns) ≡ longs_for b
unfolding packed
length-packed b ns = length-map-range_with_len (packed_long b ns) 0 (longs_for b)

group : ℕ → List ℕ → ℕ → List ℕ
group b ns j = take (64 / b) (drop (64 / b * j) ns)

group_lt : (b : ℕ) (ns : List ℕ) (j : ℕ) → All (λ n. n < 2 ^ b) ns → low_first b (group b ns j) < 2 ^ (b * (64 / b))
unfolding group
group_lt b ns j fit =
    let g = group b ns j in
    let fits : All (λ n. n < 2 ^ b) (group b ns j) = All-take (λ n. n < 2 ^ b) (64 / b) (drop (64 / b * j) ns) (All-drop (λ n. n < 2 ^ b) (64 / b * j) ns fit) in
    let lt : low_first b (group b ns j) < 2 ^ (b * length (group b ns j)) = low_first-lt b (group b ns j) fits in
    let few : length (group b ns j) ≤ 64 / b = omega (arith, length-take (64 / b) (drop (64 / b * j) ns)) in
    let up : b * length (group b ns j) ≤ b * (64 / b) = mul-le-mul_left b few in
    let mono : 2 ^ (b * length (group b ns j)) ≤ 2 ^ (b * (64 / b)) = pow-le-pow_right (omega arith) up in
    omega arith

long_lt : (b : ℕ) (ns : List ℕ) (j : ℕ) → All (λ n. n < 2 ^ b) ns → low_first b (group b ns j) < 2 ^ 64
long_lt b ns j fit =
    let lt : low_first b (group b ns j) < 2 ^ (b * (64 / b)) = group_lt b ns j fit in
    let whole : b * (64 / b) ≤ 64 = mul-div-le 64 b in
    let mono : 2 ^ (b * (64 / b)) ≤ 2 ^ 64 = pow-le-pow_right (omega arith) whole in
    omega arith

long_at-packed : (b : ℕ) (ns : List ℕ) (j : ℕ) → All (λ n. n < 2 ^ b) ns → j < longs_for b → long_at (packed b ns) j ≡ low_first b (group b ns j)
unfolding packed group
long_at-packed b ns j fit within =
    ap (of_z w64) (get_or-map-range_with_len (packed_long b ns) 0 (longs_for b) j j (pos 0) within (omega arith))
    ∙ of_z-to_z w64 (low_first b (group b ns j)) (long_lt b ns j fit)

long_at-past : (b : ℕ) (ns : List ℕ) (j : ℕ) → longs_for b ≤ j → long_at (packed b ns) j ≡ 0
long_at-past b ns j past = ap (of_z w64) (get_or_past (packed b ns) j (pos 0) (subst (λ n. n ≤ j) (sym (length-packed b ns)) past))

packed_at-entry : (b : ℕ) (longs : List ℤ) (i : ℕ) → packed_at b longs i ≡ entry_of b (long_at longs (i / (64 / b))) (i % (64 / b))
unfolding packed_at entry_of
packed_at-entry b longs i = refl

group_at : (b i : ℕ) (ns : List ℕ) → 0 < 64 / b → get_or (group b ns (i / (64 / b))) (i % (64 / b)) 0 ≡ get_or ns i 0
unfolding group
group_at b i ns some =
    let within : i % (64 / b) < 64 / b = mod_below i (64 / b) some in
    let whole : 64 / b * (i / (64 / b)) + i % (64 / b) ≡ i = omega (arith, div-add-mod' i (64 / b)) in
    get_or-take (64 / b) (drop (64 / b * (i / (64 / b))) ns) (i % (64 / b)) 0 within
    ∙ get_or-drop (64 / b * (i / (64 / b))) ns (i % (64 / b)) 0
    ∙ ap (λ k. get_or ns k 0) whole

group_all_of : (b : ℕ) (ns : List ℕ) (j : ℕ) → All (λ n. n < 2 ^ b) ns → All (λ n. n < 2 ^ b) (group b ns j)
unfolding group
group_all_of b ns j fit = All-take (λ n. n < 2 ^ b) (64 / b) (drop (64 / b * j) ns) (All-drop (λ n. n < 2 ^ b) (64 / b * j) ns fit)

-- entry i of the packed longs is number i, and 0 past the last one
pub packed_at-packed : (b : ℕ) (ns : List ℕ) (i : ℕ) → 4 ≤ b → b ≤ 16 → length ns ≡ 4096 → All (λ n. n < 2 ^ b) ns → packed_at b (packed b ns) i ≡ get_or ns i 0
packed_at-packed b ns i low high count fit = packed_at-entry b (packed b ns) i ∙ elim (cases_lt (i / (64 / b)) (longs_for b)) [
  | inl within ↦ (
      ap (λ n. entry_of b n (i % (64 / b))) (long_at-packed b ns (i / (64 / b)) fit within)
      ∙ entry_of-low_first b (group b ns (i / (64 / b))) (i % (64 / b)) (group_all_of b ns (i / (64 / b)) fit)
      ∙ group_at b i ns (some_in_long b low high))
  | inr past ↦ (
      ap (λ n. entry_of b n (i % (64 / b))) (long_at-past b ns (i / (64 / b)) past)
      ∙ entry_of-zero b (i % (64 / b))
      ∙ sym (get_or_past ns i 0 (subst (λ n. n ≤ i) (sym count) (past_end past))))
]
  where
    past_end : longs_for b ≤ i / (64 / b) → 4096 ≤ i
    past_end past = elim (cases_lt i 4096) [ inl lt ↦ absurd (let h : i / (64 / b) < longs_for b = slot_in_range b i low high lt in omega arith) | inr ge ↦ ge ]

-- each bit that holds no number is 0
pub packed-unused : (b : ℕ) (ns : List ℕ) (j : ℕ) → All (λ n. n < 2 ^ b) ns → long_at (packed b ns) j < 2 ^ (b * (64 / b))
packed-unused b ns j fit = elim (cases_lt j (longs_for b)) [
  | inl within ↦ subst (λ n. n < 2 ^ (b * (64 / b))) (sym (long_at-packed b ns j fit within)) (group_lt b ns j fit)
  | inr past ↦ subst (λ n. n < 2 ^ (b * (64 / b))) (sym (long_at-past b ns j past)) (pow_pos (b * (64 / b)))
]

pub IsPacked-packed : (b : ℕ) (ns : List ℕ) → 4 ≤ b → b ≤ 16 → length ns ≡ 4096 → All (λ n. n < 2 ^ b) ns → IsPacked b ns (packed b ns)
IsPacked-packed b ns low high count fit = record {
  count = length-packed b ns;
  entries = λ i _. packed_at-packed b ns i low high count fit;
  unused_entries = λ i past. packed_at-packed b ns i low high count fit ∙ get_or_past ns i 0 (subst (λ n. n ≤ i) (sym count) past);
  unused_bits = λ j. packed-unused b ns j fit;
}
