-- The entries of the longs, one long after the other.
use Rattle.std.proofs.Common.{◌≡◌, ℕ, zero, suc, ◌+◌, ◌*◌, ◌/◌, ◌%◌, ◌^◌, ◌<◌, ◌≤◌, ℤ, List, [], ◌∷◌, ◌++◌, length, take, map, refl, sym, ap, ◌∙◌, subst, arith}
use Rattle.std.specs.List.{range_with_len}
use Rattle.std.proofs.lemmas.List.{append-nil, append_assoc, same_lists}
use Rattle.std.proofs.lemmas.List.FromFn.{length-map-range_with_len, get_or-map-range_with_len, map-range_with_len_more, take-map-range_with_len}
use Rattle.std.proofs.lemmas.Nat.{div-mul-add, mod-mul-add}
use Rattle.av_pack.specs.Packing.{packed_at, long_at, longs_for, unpacked}
use Rattle.av_pack.specs.Fields.{entry_of, entries_of}
use Rattle.av_pack.proofs.Slots.{some_in_long, div_ceil-covers}

-- one more entry of a long
pub entries_of-more : (b n i v : ℕ) (values old : List ℕ) → v ≡ n / 2 ^ (b * i) % 2 ^ b → values ≡ old ++ entries_of b n i → values ++ v ∷ [] ≡ old ++ entries_of b n (i + 1)
unfolding entry_of
entries_of-more b n i v values old ev e =
    ap (λ xs. xs ++ v ∷ []) e
    ∙ append_assoc old (entries_of b n i) (v ∷ [])
    ∙ ap (λ x. old ++ (entries_of b n i ++ x ∷ [])) ev
    ∙ ap (λ xs. old ++ xs) (sym (map-range_with_len_more (entry_of b n) 0 i i (omega arith)))

pub map_range-append : (f : ℕ → ℕ) (n k : ℕ) → map f (range_with_len 0 n) ++ map f (range_with_len n k) ≡ map f (range_with_len 0 (n + k))
map_range-append f n zero =
    let e : n ≡ n + 0 = omega arith in
    append-nil (map f (range_with_len 0 n)) ∙ ap (λ m. map f (range_with_len 0 m)) e
map_range-append f n (suc k) =
    let last : n + suc k ≡ (n + k) + 1 = omega arith in
    let step : suc k ≡ k + 1 = omega arith in
    ap (λ m. map f (range_with_len 0 n) ++ map f (range_with_len n m)) step
    ∙ ap (λ xs. map f (range_with_len 0 n) ++ xs) (map-range_with_len_more f n k (n + k) refl)
    ∙ sym (append_assoc (map f (range_with_len 0 n)) (map f (range_with_len n k)) (f (n + k) ∷ []))
    ∙ ap (λ xs. xs ++ f (n + k) ∷ []) (map_range-append f n k)
    ∙ sym (map-range_with_len_more f 0 (n + k) (n + k) (omega arith))
    ∙ ap (λ m. map f (range_with_len 0 m)) (sym last)

-- entry k of a long
pub packed_at-in_long : (b j k : ℕ) (longs : List ℤ) → k < 64 / b → packed_at b longs (64 / b * j + k) ≡ entry_of b (long_at longs j) k
unfolding packed_at entry_of
packed_at-in_long b j k longs within =
    let turned : 64 / b * j + k ≡ j * (64 / b) + k = omega arith in
    let row : (64 / b * j + k) / (64 / b) ≡ j = ap (λ n. n / (64 / b)) turned ∙ div-mul-add j (64 / b) k within in
    let column : (64 / b * j + k) % (64 / b) ≡ k = ap (λ n. n % (64 / b)) turned ∙ mod-mul-add j (64 / b) k within in
    ap (λ q. long_at longs q / 2 ^ (b * ((64 / b * j + k) % (64 / b))) % 2 ^ b) row
    ∙ ap (λ r. long_at longs j / 2 ^ (b * r) % 2 ^ b) column

entries_of_long : (b j : ℕ) (longs : List ℤ) → entries_of b (long_at longs j) (64 / b) ≡ map (packed_at b longs) (range_with_len (64 / b * j) (64 / b))
entries_of_long b j longs =
    let f = entry_of b (long_at longs j) in
    let m = 64 / b in
    let count : length (map (entry_of b (long_at longs j)) (range_with_len 0 (64 / b))) ≡ 64 / b = length-map-range_with_len (entry_of b (long_at longs j)) 0 (64 / b) in
    same_lists _ _ (count ∙ sym (length-map-range_with_len (packed_at b longs) (64 / b * j) (64 / b)))
    (λ k d h. let within : k < 64 / b = subst (λ n. k < n) count h in
    get_or-map-range_with_len (entry_of b (long_at longs j)) 0 (64 / b) k k d within (omega arith)
    ∙ sym (packed_at-in_long b j k longs within)
    ∙ sym (get_or-map-range_with_len (packed_at b longs) (64 / b * j) (64 / b) k (64 / b * j + k) d within refl))

-- the entries of one more long
pub unpacked-more : (b j n : ℕ) (longs : List ℤ) (values : List ℕ) → n ≡ long_at longs j → values ≡ map (packed_at b longs) (range_with_len 0 (64 / b * j))
    → values ++ entries_of b n (64 / b) ≡ map (packed_at b longs) (range_with_len 0 (64 / b * (j + 1)))
unpacked-more b j n longs values en e =
    let next : 64 / b * j + 64 / b ≡ 64 / b * (j + 1) = omega arith in
    ap (λ xs. xs ++ entries_of b n (64 / b)) e
    ∙ ap (λ x. map (packed_at b longs) (range_with_len 0 (64 / b * j)) ++ entries_of b x (64 / b)) en
    ∙ ap (λ xs. map (packed_at b longs) (range_with_len 0 (64 / b * j)) ++ xs) (entries_of_long b j longs)
    ∙ map_range-append (packed_at b longs) (64 / b * j) (64 / b)
    ∙ ap (λ m. map (packed_at b longs) (range_with_len 0 m)) next

pub longs_cover : (b : ℕ) → 4 ≤ b → b ≤ 16 → 4096 ≤ 64 / b * longs_for b
unfolding longs_for
longs_cover b low high = omega (arith, div_ceil-covers 4096 (64 / b) (some_in_long b low high))

-- all of them, but for those past the last place
pub unpacked-all : (b : ℕ) (longs : List ℤ) (values : List ℕ) → 4 ≤ b → b ≤ 16 → length longs ≡ longs_for b → values ≡ map (packed_at b longs) (range_with_len 0 (64 / b * length longs))
    → take 4096 values ≡ unpacked b longs
unfolding unpacked
unpacked-all b longs values low high count e =
    let cover : 4096 ≤ 64 / b * length longs = subst (λ n. 4096 ≤ 64 / b * n) (sym count) (longs_cover b low high) in
    ap (take 4096) e ∙ take-map-range_with_len (packed_at b longs) 0 (64 / b * length longs) 4096 cover
