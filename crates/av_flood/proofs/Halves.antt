-- Half bytes of light.
use Rattle.std.proofs.Common.{◌≡◌, ℕ, ℤ, pos, ◌+◌, ◌-◌, ◌*◌, ◌/◌, ◌%◌, ◌<◌, ◌≤◌, ⊎_elim, ◌+ℤ◌, ◌*ℤ◌, Bool, true, false, cond, suc, zero, List, [], ◌∷◌, ◌++◌, length, get_or, take, drop, replicate, refl, sym, ap, ◌∙◌, subst, arith}
use Rattle.std.specs.Prelude.{nat_le, count_by, All, slice_range, ◌==◌}
use Rattle.std.proofs.lemmas.Int.{ints}
use Rattle.std.proofs.lemmas.Bool.{cases_lt}
use Rattle.std.proofs.lemmas.Bool.Decides.{nat_tests}
use Rattle.std.proofs.lemmas.List.{get_or-take, get_or-drop, length-append, length-replicate, get_or_append_left, take_all}
use Rattle.std.proofs.lemmas.List.Elements.{All-take, All-drop}
use Rattle.std.proofs.lemmas.List.Sums.{sum_by-cons}
use Rattle.std.proofs.Math.Seq.{get_or-append_right}
use Rattle.av_types.specs.declared.position.ChunkPos.{ChunkPos}
use Rattle.av_types.specs.declared.position.Height.{Height}
use Rattle.av_pack.specs.Nibbles.{nibble_at}
use Rattle.av_flood.specs.Offsets.{IsNth}
use Rattle.av_flood.specs.Board.{corner, is_on, index_of, own_block, IsOnBoard, HasLightSoFar}
use Rattle.av_flood.proofs.Boards.{on_board_at, lit_raw}

low_half : (bytes : List ℕ) (k : ℕ) → nibble_at bytes (2 * k) ≡ get_or bytes k 0 % 16
unfolding nibble_at
low_half bytes k =
    let a : 2 * k / 2 ≡ k = omega arith in
    let b : 2 * k % 2 ≡ 0 = omega arith in
    ap (λ n. cond (2 * k % 2 == 0) (get_or bytes n 0 % 16) (get_or bytes n 0 / 16)) a ∙ ap (λ n. cond (n == 0) (get_or bytes k 0 % 16) (get_or bytes k 0 / 16)) b

high_half : (bytes : List ℕ) (k : ℕ) → nibble_at bytes (2 * k + 1) ≡ get_or bytes k 0 / 16
unfolding nibble_at
high_half bytes k =
    let a : (2 * k + 1) / 2 ≡ k = omega arith in
    let b : (2 * k + 1) % 2 ≡ 1 = omega arith in
    ap (λ n. cond ((2 * k + 1) % 2 == 0) (get_or bytes n 0 % 16) (get_or bytes n 0 / 16)) a ∙ ap (λ n. cond (n == 0) (get_or bytes k 0 % 16) (get_or bytes k 0 / 16)) b

-- a half byte is the low or the high half of a byte
by_halves : (P : ℕ → Type 0) (j : ℕ) → P (2 * (j / 2)) → P (2 * (j / 2) + 1) → P j
by_halves P j low high = ⊎_elim (λ h. subst P (let e : 2 * (j / 2) ≡ j = omega arith in e) low) (λ h. subst P (let e : 2 * (j / 2) + 1 ≡ j = omega arith in e) high) (cases_lt (j % 2) 1)

-- some bytes more
pub HasLightSoFar-appended : (light : ℕ → ℕ) (bytes more : List ℕ) → HasLightSoFar light bytes → ((k : ℕ) → k < length more → get_or more k 0 % 16 ≡ light (2 * (length bytes + k)))
    → ((k : ℕ) → k < length more → get_or more k 0 / 16 ≡ light (2 * (length bytes + k) + 1)) → HasLightSoFar light (bytes ++ more)
HasLightSoFar-appended light bytes more h low high =
    record {
      halves = λ j less. let all = length-append bytes more in by_halves (λ i. nibble_at new i ≡ light i) j
          (⊎_elim (λ l. low_half new (j / 2) ∙ ap (λ m. m % 16) (get_or_append_left bytes more 0 (j / 2) l) ∙ sym (low_half bytes (j / 2)) ∙ h.halves (2 * (j / 2)) (omega arith))
          (λ l. low_half new (j / 2) ∙ ap (λ m. m % 16) (get_or-append_right bytes more (j / 2) 0 l) ∙ low (j / 2 - length bytes) (omega (arith, all)) ∙ ap (λ m. light (2 * m)) (let g : length bytes + (j / 2 - length bytes) ≡ j / 2 = omega arith in g))
          (cases_lt (j / 2) (length bytes)))
          (⊎_elim (λ l. high_half new (j / 2) ∙ ap (λ m. m / 16) (get_or_append_left bytes more 0 (j / 2) l) ∙ sym (high_half bytes (j / 2)) ∙ h.halves (2 * (j / 2) + 1) (omega arith))
          (λ l. high_half new (j / 2) ∙ ap (λ m. m / 16) (get_or-append_right bytes more (j / 2) 0 l) ∙ high (j / 2 - length bytes) (omega (arith, all)) ∙ ap (λ m. light (2 * m + 1)) (let g : length bytes + (j / 2 - length bytes) ≡ j / 2 = omega arith in g))
          (cases_lt (j / 2) (length bytes)));
    }
  where
    new : List ℕ
    new = bytes ++ more

pub HasLightSoFar-none : (light : ℕ → ℕ) (bytes : List ℕ) → length bytes ≡ 0 → HasLightSoFar light bytes
HasLightSoFar-none light bytes e = record { halves = λ j less. absurd (omega arith) }

-- bytes of 0 where all is dark
pub get_or-zeros : (n i : ℕ) → get_or (replicate {A = ℕ} n 0) i 0 ≡ 0
get_or-zeros zero i = refl
get_or-zeros (suc n) zero = refl
get_or-zeros (suc n) (suc i) = get_or-zeros n i

get_or-append_zeros : (xs : List ℕ) (n i : ℕ) → length xs ≤ i → get_or (xs ++ replicate {A = ℕ} n 0) i 0 ≡ 0
get_or-append_zeros [] n i l = get_or-zeros n i
get_or-append_zeros (x ∷ xs) n zero l = absurd (omega arith)
get_or-append_zeros (x ∷ xs) n (suc i) l = get_or-append_zeros xs n i (omega arith)

length-zeros : (xs : List ℕ) (n : ℕ) → length (xs ++ replicate {A = ℕ} n 0) ≡ length xs + n
length-zeros xs n = simp (length-append, length-replicate)

pub HasLightSoFar-dark : (light : ℕ → ℕ) (bytes : List ℕ) (n : ℕ) → HasLightSoFar light bytes → ((j : ℕ) → 2 * length bytes ≤ j → j < 2 * length bytes + 2 * n → light j ≡ 0) → HasLightSoFar light (bytes ++ replicate {A = ℕ} n 0)
HasLightSoFar-dark light bytes n h dark =
    record {
      halves = λ j less. by_halves (λ i. nibble_at new i ≡ light i) j
          (⊎_elim (λ l. low_half new (j / 2) ∙ ap (λ m. m % 16) (get_or_append_left bytes (replicate {A = ℕ} n 0) 0 (j / 2) l) ∙ sym (low_half bytes (j / 2)) ∙ h.halves (2 * (j / 2)) (omega arith))
          (λ l. low_half new (j / 2) ∙ ap (λ m. m % 16) (get_or-append_zeros bytes n (j / 2) l) ∙ sym (dark (2 * (j / 2)) (omega arith) (omega (arith, length-zeros bytes n))))
          (cases_lt (j / 2) (length bytes)))
          (⊎_elim (λ l. high_half new (j / 2) ∙ ap (λ m. m / 16) (get_or_append_left bytes (replicate {A = ℕ} n 0) 0 (j / 2) l) ∙ sym (high_half bytes (j / 2)) ∙ h.halves (2 * (j / 2) + 1) (omega arith))
          (λ l. high_half new (j / 2) ∙ ap (λ m. m / 16) (get_or-append_zeros bytes n (j / 2) l) ∙ sym (dark (2 * (j / 2) + 1) (omega arith) (omega (arith, length-zeros bytes n))))
          (cases_lt (j / 2) (length bytes)));
    }
  where
    new : List ℕ
    new = bytes ++ replicate {A = ℕ} n 0

pub HasLightSoFar-resized : (light : ℕ → ℕ) (old new : List ℕ) (n m : ℕ) → new ≡ take n old ++ replicate (n - m) 0 → m ≡ length old → n ≡ m + 128
    → HasLightSoFar light old → ((j : ℕ) → 2 * m ≤ j → j < 2 * m + 256 → light j ≡ 0) → HasLightSoFar light new
HasLightSoFar-resized light old new n m e is long h dark =
    subst (HasLightSoFar light) (sym (e ∙ ap (λ xs. xs ++ replicate (n - m) 0) (take_all n old (omega arith))))
    (HasLightSoFar-dark light old (n - m) h (λ j low high. dark j (omega arith) (omega arith)))

-- none of a list is settled
pub none_settled : (xs : List ℕ) → count_by (λ n. nat_le 128 n) xs ≡ 0 → (i : ℕ) → get_or xs i 0 < 128
none_settled [] e i = omega arith
none_settled (x ∷ xs) e i = on (nat_le 128 x) refl (sym (sum_by-cons (λ n. cond (nat_le 128 n) 1 0) x xs) ∙ e) (none_settled xs) i where
  on : (b : Bool) → nat_le 128 x ≡ b → cond b 1 0 + count_by (λ n. nat_le 128 n) xs ≡ 0 → (count_by (λ n. nat_le 128 n) xs ≡ 0 → (j : ℕ) → get_or xs j 0 < 128) → (j : ℕ) → get_or (x ∷ xs) j 0 < 128
  on true f g rest j = absurd (omega arith)
  on false f g rest zero = grind (arith, nat_tests)
  on false f g rest (suc j) = rest (omega arith) j

pub dark_byte : (b : Bool) (xs : List ℕ) (i : ℕ) → count_by (λ n. nat_le 128 n) xs ≡ 0 → (let raw = cond b (get_or xs i 0) 0 in cond (nat_le 128 raw) raw 0 - 128 ≡ 0)
dark_byte b xs i e = lit_raw (cond b (get_or xs i 0) 0) ∙ on b where
  on : (t : Bool) → cond t (get_or xs i 0) 0 - 128 ≡ 0
  on true = let l = none_settled xs e i in omega arith
  on false = refl

pub dim_byte : (b : Bool) (xs : List ℕ) (i : ℕ) → All (λ n. n < 144) xs → cond b (get_or xs i 0) 0 < 144
dim_byte true xs i h = ⊎_elim (λ l. h i 0 l) (λ l. past xs i l) (cases_lt i (length xs)) where
  past : (ys : List ℕ) (k : ℕ) → length ys ≤ k → get_or ys k 0 < 144
  past [] k l = omega arith
  past (y ∷ ys) zero l = absurd (omega arith)
  past (y ∷ ys) (suc k) l = past ys k (omega arith)
dim_byte false xs i h = omega arith

-- a row of the chunk's blocks
parts_x : (y z x : ℕ) → z < 16 → x < 16 → (256 * y + 16 * z + x) % 16 ≡ x
parts_x y z x l m = omega arith

parts_y : (y z x : ℕ) → z < 16 → x < 16 → (256 * y + 16 * z + x) / 256 ≡ y
parts_y y z x l m = omega arith

parts_z : (y z x : ℕ) → z < 16 → x < 16 → (256 * y + 16 * z + x) / 16 % 16 ≡ z
parts_z y z x l m = let e : (256 * y + 16 * z + x) / 16 ≡ 16 * y + z = omega arith in omega arith

nth : (from : ℤ) (size n : ℕ) (x : ℤ) → n < size → x ≡ from +ℤ pos n → IsNth from size x n
nth from size n x l e = record { less = l; is = e }

pub own_on_board : (c : ChunkPos) (h : Height) (y z x : ℕ) → y < 16 * h.sections → z < 16 → x < 16 → IsOnBoard c h (own_block c h (256 * y + 16 * z + x)) (44 * (44 * (y + 1) + (z + 14)) + (x + 14))
own_on_board c h y z x yl zl xl =
    let p = own_block c h (256 * y + 16 * z + x) in
    let ex = parts_x y z x zl xl in let ey = parts_y y z x zl xl in let ez = parts_z y z x zl xl in
    on_board_at c h p (x + 14) y (z + 14)
    (nth (corner c h).x 44 (x + 14) p.x (omega arith) (ap (λ n. pos 16 *ℤ c.x +ℤ pos n) ex ∙ omega (arith, ints)))
    (nth (corner c h).z 44 (z + 14) p.z (omega arith) (ap (λ n. pos 16 *ℤ c.z +ℤ pos n) ez ∙ omega (arith, ints)))
    (nth (corner c h).y (16 * h.sections) y p.y yl (ap (λ n. pos 16 *ℤ h.min_section +ℤ pos n) ey))

pub own_row : (c : ChunkPos) (h : Height) (xs : List ℕ) (y z : ℕ) → y < 16 * h.sections → z < 16 → (start : ℕ) → start ≡ 44 * (44 * (y + 1) + z + 14) + 14 → (x : ℕ) → x < 16
    → (let raw = cond (is_on c h (own_block c h (256 * y + 16 * z + x))) (get_or xs (index_of c h (own_block c h (256 * y + 16 * z + x))) 0) 0 in
    get_or (slice_range xs start (start + 16)) x 0 - 128 ≡ cond (nat_le 128 raw) raw 0 - 128)
own_row c h xs y z yl zl start is x xl =
    let on_board = own_on_board c h y z x yl zl xl in
    let i : start + x ≡ 44 * (44 * (y + 1) + (z + 14)) + (x + 14) = omega arith in
    ap (λ n. n - 128) (in_range ∙ ap (λ j. get_or xs j 0) (i ∙ on_board.is) ∙ ap (λ b. cond b (get_or xs (index_of c h (own_block c h (256 * y + 16 * z + x))) 0) 0) (sym on_board.on)) ∙ sym (lit_raw _)
  where
    in_range : get_or (slice_range xs start (start + 16)) x 0 ≡ get_or xs (start + x) 0
    in_range = get_or-take (start + 16 - start) (drop start xs) x 0 (omega arith) ∙ get_or-drop start xs x 0

pub row_dim : (xs : List ℕ) (i j : ℕ) → All (λ n. n < 144) xs → All (λ n. n < 144) (slice_range xs i j)
row_dim xs i j h = All-take (λ n. n < 144) (j - i) (drop i xs) (All-drop (λ n. n < 144) i xs h)
