-- Entries that are looked through long by long.
use Rattle.std.proofs.Common.{◌≡◌, ℕ, zero, suc, ◌+◌, ◌-◌, ◌*◌, ◌/◌, ◌%◌, ◌^◌, ◌<◌, ◌≤◌, ◌==◌, nat_lt, ◌&&◌, min, Bool, true, false, ℤ, List, [], ◌∷◌, ◌++◌, length, map, take, drop, to_z, w64, bit_and, inl, inr, refl, sym, ap, ◌∙◌, subst, arith}
use Rattle.std.specs.List.{range_with_len, list_all}
use Rattle.std.proofs.lemmas.List.{same_lists, take_min}
use Rattle.std.proofs.lemmas.List.FromFn.{length-map-range_with_len, get_or-map-range_with_len, map-range_with_len_more}
use Rattle.std.proofs.lemmas.Bool.{lt-ltb, cases_lt, and_left}
use Rattle.std.proofs.lemmas.Nat.{mod-pow-add, div-add-mod', and_mask, one_shl}
use Rattle.std.proofs.lemmas.List.Folds.{list_all-append}
use Rattle.std.proofs.lemmas.List.FromFn.{take-map-range_with_len}
use Rattle.std.proofs.Math.Seq.{drop-append_seam}
use Rattle.std.proofs.Math.Nat.{mul-le-mul_left, mul-div-le, mod-one}
use Rattle.av_pack.specs.Packing.{packed_at, long_at, longs_for, unpacked, packed, packed_long, low_first}
use Rattle.av_pack.specs.Fields.{entry_of, entries_of}
use Rattle.av_pack.specs.Seen.{seen_with, seen_after}
use Rattle.av_pack.proofs.FirstUses.{seen_before}
use Rattle.av_pack.proofs.Slots.{some_in_long}
use Rattle.av_pack.proofs.Laws.{packed_at-lt}
use Rattle.av_pack.proofs.LowFirst.{low_first-push}
use Rattle.av_pack.proofs.Fields.{shl_one}
use Rattle.av_pack.proofs.Unpacked.{packed_at-in_long, map_range-append, longs_cover}

-- ---- where the entries of a long begin

-- how many entries a long holds
abbrev pub held : ℕ → ℕ → ℕ
held b j = min (64 / b) (4096 - 64 / b * j)

-- the entries of the longs before one
abbrev pub walked : ℕ → List ℤ → ℕ → List ℕ
walked b longs j = map (packed_at b longs) (range_with_len 0 (min 4096 (64 / b * j)))

-- the long before the last has no entry that is too many
pub begins_below : (b j : ℕ) → 4 ≤ b → b ≤ 16 → j < longs_for b → 64 / b * j < 4096
unfolding longs_for
begins_below b j low high within = by (64 / b) j (some_in_long b low high) within
  where
    by : (m j : ℕ) → 0 < m → j < Rattle.std.specs.Int.div_ceil 4096 m → m * j < 4096
    by m j some within =
        let split = div-add-mod' 4096 m in
        elim (cases_lt 0 (4096 % m)) [
          | inl more ↦ (let few : j ≤ 4096 / m = omega (arith, within) in let up : m * j ≤ m * (4096 / m) = mul-le-mul_left m few in omega (arith, up, split))
          | inr none ↦ (let few : j + 1 ≤ 4096 / m = omega (arith, within) in let up : m * (j + 1) ≤ m * (4096 / m) = mul-le-mul_left m few in omega (arith, up, split))
        ]

first_entries : (b j k : ℕ) (longs : List ℤ) → k ≤ 64 / b → entries_of b (long_at longs j) k ≡ map (packed_at b longs) (range_with_len (64 / b * j) k)
first_entries b j k longs few =
    let count : length (map (entry_of b (long_at longs j)) (range_with_len 0 k)) ≡ k = length-map-range_with_len (entry_of b (long_at longs j)) 0 k in
    same_lists _ _ (count ∙ sym (length-map-range_with_len (packed_at b longs) (64 / b * j) k))
    (λ i d h. let within : i < k = subst (λ n. i < n) count h in
    get_or-map-range_with_len (entry_of b (long_at longs j)) 0 k i i d within (omega arith)
    ∙ sym (packed_at-in_long b j i longs (omega arith))
    ∙ sym (get_or-map-range_with_len (packed_at b longs) (64 / b * j) k i (64 / b * j + i) d within refl))

pub walked-more : (b j n : ℕ) (longs : List ℤ) → 4 ≤ b → b ≤ 16 → j < longs_for b → n ≡ long_at longs j → walked b longs j ++ entries_of b n (held b j) ≡ walked b longs (j + 1)
walked-more b j n longs low high within en =
    let begins : 64 / b * j < 4096 = begins_below b j low high within in
    let next : 64 / b * (j + 1) ≡ 64 / b * j + 64 / b = omega arith in
    let here : min 4096 (64 / b * j) ≡ 64 / b * j = omega arith in
    let few : held b j ≤ 64 / b = omega arith in
    let end : 64 / b * j + held b j ≡ min 4096 (64 / b * (j + 1)) = omega (arith, next) in
    ap (λ x. walked b longs j ++ entries_of b x (held b j)) en
    ∙ ap (λ xs. walked b longs j ++ xs) (first_entries b j (held b j) longs few)
    ∙ ap (λ k. map (packed_at b longs) (range_with_len 0 k) ++ map (packed_at b longs) (range_with_len (64 / b * j) (held b j))) here
    ∙ map_range-append (packed_at b longs) (64 / b * j) (held b j)
    ∙ ap (λ k. map (packed_at b longs) (range_with_len 0 k)) end

pub walked-none : (b : ℕ) (longs : List ℤ) → walked b longs 0 ≡ []
walked-none b longs =
    let start : min 4096 (64 / b * 0) ≡ 0 = omega arith in
    ap (λ k. map (packed_at b longs) (range_with_len 0 k)) start

pub walked-all : (b j : ℕ) (longs : List ℤ) → 4 ≤ b → b ≤ 16 → j ≡ longs_for b → walked b longs j ≡ unpacked b longs
unfolding unpacked
walked-all b j longs low high all =
    let covers : 4096 ≤ 64 / b * longs_for b = longs_cover b low high in
    let whole : min 4096 (64 / b * longs_for b) ≡ 4096 = omega arith in
    ap (walked b longs) all ∙ ap (λ k. map (packed_at b longs) (range_with_len 0 k)) whole

-- those before a long, and the others
abbrev pub left : ℕ → List ℤ → ℕ → List ℕ
left b longs j = map (packed_at b longs) (range_with_len (min 4096 (64 / b * j)) (4096 - min 4096 (64 / b * j)))

pub walked-left : (b j : ℕ) (longs : List ℤ) → walked b longs j ++ left b longs j ≡ unpacked b longs
unfolding unpacked
walked-left b j longs =
    let whole : min 4096 (64 / b * j) + (4096 - min 4096 (64 / b * j)) ≡ 4096 = omega arith in
    map_range-append (packed_at b longs) (min 4096 (64 / b * j)) (4096 - min 4096 (64 / b * j)) ∙ ap (λ k. map (packed_at b longs) (range_with_len 0 k)) whole

-- ---- below a number

abbrev pub below : ℕ → List ℕ → Bool
below count ns = list_all (λ n. nat_lt n count) ns

-- the entries of a long from one on
abbrev pub others : ℕ → ℕ → ℕ → ℕ → List ℕ
others b n i few = map (entry_of b n) (range_with_len i (few - i))

others-next : (b n i few : ℕ) → i < few → others b n i few ≡ entry_of b n i ∷ others b n (i + 1) few
others-next b n i few within =
    let step : few - i ≡ suc (few - (i + 1)) = omega arith in
    ap (λ k. map (entry_of b n) (range_with_len i k)) step

others-none : (b n i few : ℕ) → few ≤ i → others b n i few ≡ []
others-none b n i few end =
    let none : few - i ≡ 0 = omega arith in
    ap (λ k. map (entry_of b n) (range_with_len i k)) none

and_if : (b c : Bool) → b ≡ true → (b && c) ≡ c
and_if true c h = refl
and_if false c h = cc

pub below-next : (b n i few v count : ℕ) → i < few → v ≡ n / 2 ^ (b * i) % 2 ^ b → nat_lt v count ≡ true → below count (others b n i few) ≡ below count (others b n (i + 1) few)
unfolding entry_of
below-next b n i few v count within ev h =
    ap (below count) (others-next b n i few within) ∙ and_if (nat_lt (entry_of b n i) count) (below count (others b n (i + 1) few)) (ap (λ x. nat_lt x count) (sym ev) ∙ h)

pub below-not : (b n i few v count : ℕ) → i < few → v ≡ n / 2 ^ (b * i) % 2 ^ b → nat_lt v count ≡ false → below count (others b n i few) ≡ false
unfolding entry_of
below-not b n i few v count within ev h =
    ap (below count) (others-next b n i few within) ∙ and_left (nat_lt (entry_of b n i) count) (below count (others b n (i + 1) few)) (ap (λ x. nat_lt x count) (sym ev) ∙ h)

pub below-end : (b n i few count : ℕ) → few ≤ i → below count (others b n i few) ≡ true
below-end b n i few count end = ap (below count) (others-none b n i few end)

-- the longs so far and one more
pub below-walked : (b j n count : ℕ) (longs : List ℤ) → 4 ≤ b → b ≤ 16 → j < longs_for b → n ≡ long_at longs j → below count (walked b longs j) ≡ true
    → below count (walked b longs (j + 1)) ≡ below count (entries_of b n (held b j))
below-walked b j n count longs low high within en so_far =
    ap (below count) (sym (walked-more b j n longs low high within en))
    ∙ list_all-append (λ x. nat_lt x count) (walked b longs j) (entries_of b n (held b j))
    ∙ and_if (below count (walked b longs j)) (below count (entries_of b n (held b j))) so_far

-- one of the first longs has an entry that is not below
pub below-refused : (b j count : ℕ) (longs : List ℤ) → below count (walked b longs j) ≡ false → below count (unpacked b longs) ≡ false
below-refused b j count longs h =
    ap (below count) (sym (walked-left b j longs))
    ∙ list_all-append (λ x. nat_lt x count) (walked b longs j) (left b longs j)
    ∙ and_left (below count (walked b longs j)) (below count (left b longs j)) h

all_small : (f : ℕ → ℕ) (count a n : ℕ) → ((i : ℕ) → i < a + n → f i < count) → below count (map f (range_with_len a n)) ≡ true
all_small f count a zero h = refl
all_small f count a (suc n) h = and_if (nat_lt (f a) count) (below count (map f (range_with_len (a + 1) n))) (lt-ltb (f a) count (h a (omega arith))) ∙ all_small f count (a + 1) n (λ i low. h i (omega arith))

-- a long whose entries are all below
pub below-at_once : (b n few count : ℕ) → few ≤ 64 / b → ((i : ℕ) → i < 64 / b → entry_of b n i < count) → below count (entries_of b n few) ≡ true
below-at_once b n few count within h = all_small (entry_of b n) count 0 few (λ i low. h i (omega (arith, low, within)))

-- no entry is too great
pub below-all : (b count : ℕ) (longs : List ℤ) → b ≤ 16 → 1 * 2 ^ b % 2 ^ 64 ≤ count → below count (unpacked b longs) ≡ true
unfolding unpacked
below-all b count longs high le =
    let fits : 2 ^ b ≤ count = subst (λ k. k ≤ count) (shl_one b high) le in
    all_small (packed_at b longs) count 0 4096 (λ i low. omega (arith, fits, packed_at-lt b longs i))

-- ---- in order

seen_after-append : (next : ℕ) (xs ys : List ℕ) → seen_after next (xs ++ ys) ≡ seen_after (seen_after next xs) ys
seen_after-append next [] ys = refl
seen_after-append next (x ∷ xs) ys = seen_after-append (seen_with next x) xs ys

-- one more entry of a long
pub seen_more : (b n start i v next new : ℕ) → v ≡ n / 2 ^ (b * i) % 2 ^ b → next ≡ seen_after start (entries_of b n i) → new ≡ seen_with next v → new ≡ seen_after start (entries_of b n (i + 1))
unfolding entry_of
seen_more b n start i v next new ev e is =
    is
    ∙ ap (λ k. seen_with k v) e
    ∙ ap (λ x. seen_with (seen_after start (entries_of b n i)) x) ev
    ∙ sym (seen_after-append start (entries_of b n i) (entry_of b n i ∷ []))
    ∙ ap (seen_after start) (sym (map-range_with_len_more (entry_of b n) 0 i i (omega arith)))

-- below which number all came, with the longs before one
pub record SeenSome (b : ℕ) (longs : List ℤ) (next j : ℕ) : Type 0 where
  pub next_is : next ≡ seen_after 0 (walked b longs j)
  pub few : next ≤ 65537

pub seen_none : (b : ℕ) (longs : List ℤ) → SeenSome b longs 0 0
seen_none b longs = record { next_is = sym (ap (seen_after 0) (walked-none b longs)); few = omega arith }

pub seen_long : (b j n next new : ℕ) (longs : List ℤ) → 4 ≤ b → b ≤ 16 → j < longs_for b → n ≡ long_at longs j → SeenSome b longs next j → new ≡ seen_after next (entries_of b n (held b j)) → new ≤ 65537 → SeenSome b longs new (j + 1)
seen_long b j n next new longs low high within en s is few = record {
  next_is =
      is
      ∙ ap (λ k. seen_after k (entries_of b n (held b j))) s.next_is
      ∙ sym (seen_after-append 0 (walked b longs j) (entries_of b n (held b j)))
      ∙ ap (seen_after 0) (walked-more b j n longs low high within en);
  few = few;
}

pub seen_all : (b j next count : ℕ) (longs : List ℤ) → 4 ≤ b → b ≤ 16 → j ≡ longs_for b → SeenSome b longs next j → (next == count) ≡ (seen_after 0 (unpacked b longs) == count)
seen_all b j next count longs low high all s = ap (λ k. k == count) (s.next_is ∙ ap (seen_after 0) (walked-all b j longs low high all))

seen_stays : (f : ℕ → ℕ) (next a n : ℕ) → ((i : ℕ) → i < a + n → f i < next) → seen_after next (map f (range_with_len a n)) ≡ next
seen_stays f next a zero h = refl
seen_stays f next a (suc n) h =
    ap (λ k. seen_after k (map f (range_with_len (a + 1) n))) (seen_before next (f a) (h a (omega arith)))
    ∙ seen_stays f next (a + 1) n (λ i low. h i (omega arith))

-- a long of entries that all came before
pub seen_none_new : (b n few next : ℕ) → few ≤ 64 / b → ((i : ℕ) → i < 64 / b → entry_of b n i < next) → seen_after next (entries_of b n few) ≡ next
seen_none_new b n few next within h = seen_stays (entry_of b n) next 0 few (λ i low. h i (omega (arith, low, within)))

-- those that are left change nothing
pub seen_enough : (b j next count : ℕ) (longs : List ℤ) → ((i : ℕ) → i < 4096 → packed_at b longs i < count) → count ≤ next → SeenSome b longs next j → (next == count) ≡ (seen_after 0 (unpacked b longs) == count)
seen_enough b j next count longs small enough s =
    let whole : min 4096 (64 / b * j) + (4096 - min 4096 (64 / b * j)) ≡ 4096 = omega arith in
    ap (λ k. k == count)
    (sym (seen_stays (packed_at b longs) next (min 4096 (64 / b * j)) (4096 - min 4096 (64 / b * j)) (λ i low. omega (arith, enough, small i (omega (arith, low, whole)))))
    ∙ ap (λ k. seen_after k (left b longs j)) s.next_is
    ∙ sym (seen_after-append 0 (walked b longs j) (left b longs j))
    ∙ ap (seen_after 0) (walked-left b j longs))

-- ---- without the bits that hold no entry

pub width_few : (b j : ℕ) → b * min (64 / b) (4096 - 64 / b * j) ≤ 64
width_few b j =
    let few : min (64 / b) (4096 - 64 / b * j) ≤ 64 / b = omega arith in
    let up : b * min (64 / b) (4096 - 64 / b * j) ≤ b * (64 / b) = mul-le-mul_left b few in
    omega (arith, up, mul-div-le 64 b)

pub masked : (n w : ℕ) → w < 64 → bit_and n (1 * 2 ^ w % 2 ^ 64 - 1) ≡ n % 2 ^ w
masked n w within = ap (λ m. bit_and n (m - 1)) (one_shl w 64 within) ∙ and_mask n w

low_first-entries : (b n k : ℕ) → low_first b (entries_of b n k) ≡ n % 2 ^ (b * k)
unfolding entry_of
low_first-entries b n zero =
    let none : b * 0 ≡ 0 = omega arith in
    sym (ap (λ e. n % 2 ^ e) none ∙ mod-one n)
low_first-entries b n (suc k) =
    let step : suc k ≡ k + 1 = omega arith in
    let power : b + b * k ≡ b * suc k = omega arith in
    let count : length (entries_of b n k) ≡ k = length-map-range_with_len (entry_of b n) 0 k in
    let turned : n % 2 ^ (b * k) + 2 ^ (b * k) * (n / 2 ^ (b * k) % 2 ^ b) ≡ n / 2 ^ (b * k) % 2 ^ b * 2 ^ (b * k) + n % 2 ^ (b * k) = omega arith in
    ap (λ m. low_first b (entries_of b n m)) step
    ∙ ap (low_first b) (map-range_with_len_more (entry_of b n) 0 k k (omega arith))
    ∙ low_first-push b (entries_of b n k) (entry_of b n k)
    ∙ ap (λ m. low_first b (entries_of b n k) + 2 ^ (b * m) * (n / 2 ^ (b * k) % 2 ^ b)) count
    ∙ ap (λ x. x + 2 ^ (b * k) * (n / 2 ^ (b * k) % 2 ^ b)) (low_first-entries b n k)
    ∙ turned
    ∙ sym (mod-pow-add n b (b * k))
    ∙ ap (λ e. n % 2 ^ e) power

-- the entries of a long among all
group_is : (b j : ℕ) (longs : List ℤ) → 4 ≤ b → b ≤ 16 → j < longs_for b → take (64 / b) (drop (64 / b * j) (unpacked b longs)) ≡ entries_of b (long_at longs j) (held b j)
group_is b j longs low high within =
    let begins : 64 / b * j < 4096 = begins_below b j low high within in
    let here : min 4096 (64 / b * j) ≡ 64 / b * j = omega arith in
    let few : held b j ≤ 64 / b = omega arith in
    let long : length (walked b longs j) ≡ 64 / b * j = length-map-range_with_len (packed_at b longs) 0 (min 4096 (64 / b * j)) ∙ here in
    let short : held b j ≤ 4096 - 64 / b * j = omega arith in
    let dropped : drop (64 / b * j) (unpacked b longs) ≡ left b longs j =
    ap (drop (64 / b * j)) (sym (walked-left b j longs)) ∙ ap (λ k. drop k (walked b longs j ++ left b longs j)) (sym long) ∙ drop-append_seam (walked b longs j) (left b longs j) in
    ap (take (64 / b)) (dropped ∙ ap (λ k. map (packed_at b longs) (range_with_len k (4096 - k))) here)
    ∙ take_least (packed_at b longs) (64 / b) (64 / b * j) (4096 - 64 / b * j)
    ∙ sym (first_entries b j (held b j) longs few)
  where
    take_least : (f : ℕ → ℕ) (m a n : ℕ) → take m (map f (range_with_len a n)) ≡ map f (range_with_len a (min m n))
    take_least f m a n =
        sym (take_min m (map f (range_with_len a n)))
        ∙ ap (λ k. take (min m k) (map f (range_with_len a n))) (length-map-range_with_len f a n)
        ∙ take-map-range_with_len f a n (min m n) (omega arith)

pub cleaned-none : (b : ℕ) (ns : List ℕ) (longs : List ℤ) → longs ≡ [] → longs ≡ map (packed_long b ns) (range_with_len 0 0)
cleaned-none b ns longs e = e

-- one more long
pub cleaned-more : (b j w : ℕ) (longs new : List ℤ) (long : ℤ) → 4 ≤ b → b ≤ 16 → j < longs_for b → w ≡ b * held b j → long ≡ to_z w64 (long_at longs j % 2 ^ w)
    → new ≡ map (packed_long b (unpacked b longs)) (range_with_len 0 j) → new ++ long ∷ [] ≡ map (packed_long b (unpacked b longs)) (range_with_len 0 (j + 1))
cleaned-more b j w longs new long low high within ew el e =
    let here : long ≡ packed_long b (unpacked b longs) j =
    el ∙ ap (λ k. to_z w64 (long_at longs j % 2 ^ k)) ew ∙ ap (to_z w64) (sym (low_first-entries b (long_at longs j) (held b j))) ∙ ap (λ ns. to_z w64 (low_first b ns)) (sym (group_is b j longs low high within)) in
    ap (λ xs. xs ++ long ∷ []) e
    ∙ ap (λ z. map (packed_long b (unpacked b longs)) (range_with_len 0 j) ++ z ∷ []) here
    ∙ sym (map-range_with_len_more (packed_long b (unpacked b longs)) 0 j j (omega arith))

pub cleaned-all : (b j : ℕ) (longs new : List ℤ) → j ≡ longs_for b → new ≡ map (packed_long b (unpacked b longs)) (range_with_len 0 j) → new ≡ packed b (unpacked b longs)
unfolding packed
cleaned-all b j longs new all e = e ∙ ap (λ k. map (packed_long b (unpacked b longs)) (range_with_len 0 k)) all
