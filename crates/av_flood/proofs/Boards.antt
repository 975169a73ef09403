-- Places on a board.
use Rattle.std.proofs.Common.{IsTrue, ◌≡◌, ℕ, ℤ, pos, negsuc, ◌+◌, ◌-◌, ◌*◌, ◌<◌, ◌≤◌, ◌+ℤ◌, ◌-ℤ◌, ◌/◌, ◌%◌, ◌*ℤ◌, ◌<ℤ◌, ◌≤ℤ◌, ◌&&◌, Bool, true, false, cond, List, length, get_or, set, refl, sym, ap, ◌∙◌, subst, arith}
use Rattle.std.proofs.lemmas.Int.{ints}
use Rattle.std.specs.Prelude.{int_le, int_lt, nat_le}
use Rattle.std.proofs.lemmas.List.{get_or-set_same, get_or-set_other}
use Rattle.std.proofs.lemmas.Bool.{false≢true, and_parts, and_left, and_right, and_from}
use Rattle.std.proofs.lemmas.Bool.Decides.{nat_tests}
use Rattle.av_types.specs.declared.position.Pos.{Pos}
use Rattle.av_types.specs.declared.position.ChunkPos.{ChunkPos}
use Rattle.av_types.specs.declared.position.Height.{Height}
use Rattle.av_types.specs.Division.{divided}
use Rattle.av_types.specs.Positions.{chunk_of, same_pos}
use Rattle.av_types.proofs.SamePositions.{same_pos_is, same_pos-refl}
use Rattle.av_flood.specs.Offsets.{is_within, offset, IsNth, IsBeyond, away, apart}
use Rattle.av_flood.specs.Board.{corner, is_on, index_of, IsOff, IsOnBoard, IsSettled}
use Rattle.av_flood.specs.Blocks.{IsNear, IsFarFromEnds, MayBeLoaded, column_at}
use Rattle.av_flood.specs.Flooding.{Matters, IsNearAlong}

within_nth : (from x : ℤ) (size n : ℕ) → IsNth from size x n → is_within from size x ≡ true
within_nth from x size n h =
    let l = h.less in let e = h.is in
    and_from (int_le from x) (int_lt x (from +ℤ pos size)) (grind (arith, ints)) (grind (arith, ints))

offset_nth : (from x : ℤ) (size n : ℕ) → IsNth from size x n → n ≡ offset (x -ℤ from)
offset_nth from x size n h = let e = h.is in ap offset (let f : pos n ≡ x -ℤ from = omega (arith, ints) in f)

pub below_first : (from x : ℤ) (size : ℕ) → x <ℤ from → IsBeyond from size x
below_first from x size h = record { beyond = and_left (int_le from x) (int_lt x (from +ℤ pos size)) (grind (arith, ints)) }

pub after_last : (from x : ℤ) (size : ℕ) → (from +ℤ pos size) ≤ℤ x → IsBeyond from size x
after_last from x size h = record { beyond = and_right (int_le from x) (int_lt x (from +ℤ pos size)) (grind (arith, ints)) }

offset_back : (from x : ℤ) (size : ℕ) → is_within from size x ≡ true → x ≡ from +ℤ pos (offset (x -ℤ from))
offset_back from x size h = on (x -ℤ from) refl (and_parts (int_le from x) (int_lt x (from +ℤ pos size)) h).0 where
  on : (z : ℤ) → x -ℤ from ≡ z → int_le from x ≡ true → x ≡ from +ℤ pos (offset z)
  on (pos n) e l = omega (arith, ints)
  on (negsuc n) e l = absurd (grind (arith, ints))

offset_below : (from x : ℤ) (size : ℕ) → is_within from size x ≡ true → offset (x -ℤ from) < size
offset_below from x size h = on (offset (x -ℤ from)) (offset_back from x size h) (and_parts (int_le from x) (int_lt x (from +ℤ pos size)) h).1 where
  on : (n : ℕ) → x ≡ from +ℤ pos n → int_lt x (from +ℤ pos size) ≡ true → n < size
  on n e l = grind (arith, ints)

-- two blocks of the board at one place are one
same_offset : (from x y : ℤ) (size : ℕ) → is_within from size x ≡ true → is_within from size y ≡ true → offset (x -ℤ from) ≡ offset (y -ℤ from) → x ≡ y
same_offset from x y size h k e = offset_back from x size h ∙ ap (λ n. from +ℤ pos n) e ∙ sym (offset_back from y size k)

parted : (x y z a b c : ℕ) → x < 44 → z < 44 → a < 44 → c < 44 → 44 * (44 * (y + 1) + z) + x ≡ 44 * (44 * (b + 1) + c) + a → record { x_is : x ≡ a; y_is : y ≡ b; z_is : z ≡ c }
parted x y z a b c l m n o e =
    let q : 44 * (y + 1) + z ≡ 44 * (b + 1) + c = omega arith in
    record { x_is = omega arith; y_is = omega arith; z_is = omega arith }

pub same_index : (c : ChunkPos) (h : Height) (p q : Pos) → is_on c h p ≡ true → is_on c h q ≡ true → index_of c h p ≡ index_of c h q → p ≡ q
same_index c h p q on_p on_q e =
    let k = corner c h in
    let xz_p = (and_parts (is_within k.x 44 p.x && is_within k.z 44 p.z) (is_within k.y (16 * h.sections) p.y) on_p).0 in
    let xz_q = (and_parts (is_within k.x 44 q.x && is_within k.z 44 q.z) (is_within k.y (16 * h.sections) q.y) on_q).0 in
    let xp = (and_parts (is_within k.x 44 p.x) (is_within k.z 44 p.z) xz_p).0 in
    let zp = (and_parts (is_within k.x 44 p.x) (is_within k.z 44 p.z) xz_p).1 in
    let yp = (and_parts (is_within k.x 44 p.x && is_within k.z 44 p.z) (is_within k.y (16 * h.sections) p.y) on_p).1 in
    let xq = (and_parts (is_within k.x 44 q.x) (is_within k.z 44 q.z) xz_q).0 in
    let zq = (and_parts (is_within k.x 44 q.x) (is_within k.z 44 q.z) xz_q).1 in
    let yq = (and_parts (is_within k.x 44 q.x && is_within k.z 44 q.z) (is_within k.y (16 * h.sections) q.y) on_q).1 in
    let same = parted (offset (p.x -ℤ k.x)) (offset (p.y -ℤ k.y)) (offset (p.z -ℤ k.z)) (offset (q.x -ℤ k.x)) (offset (q.y -ℤ k.y)) (offset (q.z -ℤ k.z))
    (offset_below k.x p.x 44 xp) (offset_below k.z p.z 44 zp) (offset_below k.x q.x 44 xq) (offset_below k.z q.z 44 zq) e in
    let x = same_offset k.x p.x q.x 44 xp xq same.x_is in
    let y = same_offset k.y p.y q.y (16 * h.sections) yp yq same.y_is in
    let z = same_offset k.z p.z q.z 44 zp zq same.z_is in
    λ i. record { x = x i; y = y i; z = z i }

module _ (c : ChunkPos) (h : Height) (p : Pos) where
  pub off_x : IsBeyond (corner c h).x 44 p.x → IsOff c h p
  off_x e = record { off = and_left (is_within (corner c h).x 44 p.x && is_within (corner c h).z 44 p.z) (is_within (corner c h).y (16 * h.sections) p.y) (and_left (is_within (corner c h).x 44 p.x) (is_within (corner c h).z 44 p.z) e.beyond) }

  pub off_z : IsBeyond (corner c h).z 44 p.z → IsOff c h p
  off_z e = record { off = and_left (is_within (corner c h).x 44 p.x && is_within (corner c h).z 44 p.z) (is_within (corner c h).y (16 * h.sections) p.y) (and_right (is_within (corner c h).x 44 p.x) (is_within (corner c h).z 44 p.z) e.beyond) }

  pub off_y : IsBeyond (corner c h).y (16 * h.sections) p.y → IsOff c h p
  off_y e = record { off = and_right (is_within (corner c h).x 44 p.x && is_within (corner c h).z 44 p.z) (is_within (corner c h).y (16 * h.sections) p.y) e.beyond }

  pub on_board_at : (x y z : ℕ) → IsNth (corner c h).x 44 p.x x → IsNth (corner c h).z 44 p.z z → IsNth (corner c h).y (16 * h.sections) p.y y → IsOnBoard c h p (44 * (44 * (y + 1) + z) + x)
  on_board_at x y z a b d =
      let k = corner c h in
      let i = offset_nth k.x p.x 44 x a in
      let j = offset_nth k.y p.y (16 * h.sections) y d in
      let l = offset_nth k.z p.z 44 z b in
      record {
        on = and_from (is_within k.x 44 p.x && is_within k.z 44 p.z) (is_within k.y (16 * h.sections) p.y) (and_from (is_within k.x 44 p.x) (is_within k.z 44 p.z) (within_nth k.x p.x 44 x a) (within_nth k.z p.z 44 z b)) (within_nth k.y p.y (16 * h.sections) y d);
        is = λ n. 44 * (44 * (j n + 1) + l n) + i n;
        less = let f = a.less in let g = b.less in let m = d.less in omega arith;
      }

-- a board with one place set
pub light_set : (c : ChunkPos) (h : Height) (p : Pos) (xs : List ℕ) (n i : ℕ) → IsOnBoard c h p i → i < length xs → (q : Pos)
    → cond (is_on c h q) (get_or (set xs i n) (index_of c h q) 0) 0 ≡ cond (same_pos q p) n (cond (is_on c h q) (get_or xs (index_of c h q) 0) 0)
light_set c h p xs n i on_board less q = cases (same_pos q p) refl (is_on c h q) refl where
  cases : (b : Bool) → same_pos q p ≡ b → (d : Bool) → is_on c h q ≡ d
      → cond d (get_or (set xs i n) (index_of c h q) 0) 0 ≡ cond b n (cond d (get_or xs (index_of c h q) 0) 0)
  cases true e true f = ap (λ j. get_or (set xs i n) j 0) (ap (index_of c h) (same_pos_is q p e) ∙ sym on_board.is) ∙ get_or-set_same xs i n 0 less
  cases true e false f = absurd (false≢true (sym f ∙ ap (is_on c h) (same_pos_is q p e) ∙ on_board.on))
  cases false e true f = get_or-set_other xs i (index_of c h q) n 0 (λ j. false≢true (sym e ∙ ap (same_pos q) (same_index c h p q on_board.on f (sym on_board.is ∙ sym j)) ∙ same_pos-refl q))
  cases false e false f = refl

-- a block of the board stands where it is said to
pub on_board_of : (c : ChunkPos) (h : Height) (p : Pos) → is_on c h p ≡ true → IsOnBoard c h p (index_of c h p)
on_board_of c h p on =
    let k = corner c h in
    let xz = (and_parts (is_within k.x 44 p.x && is_within k.z 44 p.z) (is_within k.y (16 * h.sections) p.y) on).0 in
    let x = offset_below k.x p.x 44 (and_parts (is_within k.x 44 p.x) (is_within k.z 44 p.z) xz).0 in
    let z = offset_below k.z p.z 44 (and_parts (is_within k.x 44 p.x) (is_within k.z 44 p.z) xz).1 in
    let y = offset_below k.y p.y (16 * h.sections) (and_parts (is_within k.x 44 p.x && is_within k.z 44 p.z) (is_within k.y (16 * h.sections) p.y) on).1 in
    record { on = on; is = refl; less = omega arith }

pub raw_at : (c : ChunkPos) (h : Height) (p : Pos) (xs : List ℕ) (i : ℕ) → IsOnBoard c h p i → get_or xs i 0 ≡ cond (is_on c h p) (get_or xs (index_of c h p) 0) 0
raw_at c h p xs i on_board = ap (λ j. get_or xs j 0) on_board.is ∙ ap (λ b. cond b (get_or xs (index_of c h p) 0) 0) (sym on_board.on)

-- so many steps from the ends
pub record IsStepped (c : ChunkPos) (h : Height) (p : Pos) (i : ℕ) : Type 0 where
  pub x : ℕ
  pub z : ℕ
  pub y : ℕ
  pub nth_x : IsNth (corner c h).x 44 p.x x
  pub nth_z : IsNth (corner c h).z 44 p.z z
  pub nth_y : IsNth (corner c h).y (16 * h.sections) p.y y
  pub is : i ≡ 44 * (44 * (y + 1) + z) + x

pub stepped : (c : ChunkPos) (h : Height) (p : Pos) (i : ℕ) → IsOnBoard c h p i → IsStepped c h p i
stepped c h p i on_board =
    let k = corner c h in
    let xz = (and_parts (is_within k.x 44 p.x && is_within k.z 44 p.z) (is_within k.y (16 * h.sections) p.y) on_board.on).0 in
    let x = (and_parts (is_within k.x 44 p.x) (is_within k.z 44 p.z) xz).0 in
    let z = (and_parts (is_within k.x 44 p.x) (is_within k.z 44 p.z) xz).1 in
    let y = (and_parts (is_within k.x 44 p.x && is_within k.z 44 p.z) (is_within k.y (16 * h.sections) p.y) on_board.on).1 in
    record {
      x = offset (p.x -ℤ k.x);
      z = offset (p.z -ℤ k.z);
      y = offset (p.y -ℤ k.y);
      nth_x = record { less = offset_below k.x p.x 44 x; is = offset_back k.x p.x 44 x };
      nth_z = record { less = offset_below k.z p.z 44 z; is = offset_back k.z p.z 44 z };
      nth_y = record { less = offset_below k.y p.y (16 * h.sections) y; is = offset_back k.y p.y (16 * h.sections) y };
      is = on_board.is;
    }

-- what of a byte is light, and whether there is any
pub lit_raw : (b : ℕ) → cond (nat_le 128 b) b 0 - 128 ≡ b - 128
lit_raw b = on (nat_le 128 b) refl where
  on : (t : Bool) → nat_le 128 b ≡ t → cond t b 0 - 128 ≡ b - 128
  on true e = refl
  on false e = grind (arith, nat_tests)

pub byte_low : (b : ℕ) → b < 128 → cond (nat_le 128 b) b 0 ≡ 0
byte_low b l = on (nat_le 128 b) refl where
  on : (t : Bool) → nat_le 128 b ≡ t → cond t b 0 ≡ 0
  on true e = grind (arith, nat_tests)
  on false e = refl

seen_raw : (b : ℕ) → nat_le 128 (cond (nat_le 128 b) b 0) ≡ nat_le 128 b
seen_raw b = on (nat_le 128 b) refl where
  on : (t : Bool) → nat_le 128 b ≡ t → nat_le 128 (cond t b 0) ≡ nat_le 128 b
  on true e = refl
  on false e = sym e

pub not_seen : (b : ℕ) → nat_le 128 (cond (nat_le 128 b) b 0) ≡ false → b < 128
not_seen b e = let f : nat_le 128 b ≡ false = sym (seen_raw b) ∙ e in grind (arith, nat_tests)

-- what a settled block makes of lights, of which blocks have theirs, and of bytes
module _ (old new : Pos → ℕ) (p : Pos) (n : ℕ) (set : IsSettled old new p (128 + n)) where
  pub settled_light : (q : Pos) → cond (nat_le 128 (new q)) (new q) 0 - 128 ≡ cond (same_pos q p) n (cond (nat_le 128 (old q)) (old q) 0 - 128)
  settled_light q = lit_raw (new q) ∙ on (same_pos q p) (set q) where
    on : (b : Bool) → new q ≡ cond b (128 + n) (old q) → new q - 128 ≡ cond b n (cond (nat_le 128 (old q)) (old q) 0 - 128)
    on true e = omega arith
    on false e = ap (λ m. m - 128) e ∙ sym (lit_raw (old q))

  high : nat_le 128 (128 + n) ≡ true
  high = grind (arith, nat_tests)

  pub settled_settled : (q : Pos) → nat_le 128 (cond (nat_le 128 (new q)) (new q) 0) ≡ cond (same_pos q p) true (nat_le 128 (cond (nat_le 128 (old q)) (old q) 0))
  settled_settled q = seen_raw (new q) ∙ on (same_pos q p) (set q) where
    on : (b : Bool) → new q ≡ cond b (128 + n) (old q) → nat_le 128 (new q) ≡ cond b true (nat_le 128 (cond (nat_le 128 (old q)) (old q) 0))
    on true e = ap (nat_le 128) e ∙ high
    on false e = ap (nat_le 128) e ∙ sym (seen_raw (old q))

  pub settled_byte : IsSettled (λ q. cond (nat_le 128 (old q)) (old q) 0) (λ q. cond (nat_le 128 (new q)) (new q) 0) p (128 + n)
  settled_byte q = on (same_pos q p) (set q) where
    on : (b : Bool) → new q ≡ cond b (128 + n) (old q) → cond (nat_le 128 (new q)) (new q) 0 ≡ cond b (128 + n) (cond (nat_le 128 (old q)) (old q) 0)
    on true e = ap (λ m. cond (nat_le 128 m) m 0) e ∙ ap (λ t. cond t (128 + n) 0) high
    on false e = ap (λ m. cond (nat_le 128 m) m 0) e

-- where light matters is on the board
pub on_board : (c : ChunkPos) (h : Height) (n : ℕ) (p : Pos) → n ≤ 15 → Matters c n p → IsNear h p → IsTrue (is_on c h p)
on_board c h n p most m near =
    let k = corner c h in
    and_from (is_within k.x 44 p.x && is_within k.z 44 p.z) (is_within k.y (16 * h.sections) p.y)
    (and_from (is_within k.x 44 p.x) (is_within k.z 44 p.z) (along (pos 16 *ℤ c.x) p.x m.over_x (let l = m.less in omega arith) m.along_x) (along (pos 16 *ℤ c.z) p.z m.over_z (let l = m.less in omega arith) m.along_z))
    (between k.y p.y (16 * h.sections) near.low near.high)
  where
    between : (from x : ℤ) (size : ℕ) → from ≤ℤ x → x <ℤ (from +ℤ pos size) → is_within from size x ≡ true
    between from x size l g = and_from (int_le from x) (int_lt x (from +ℤ pos size)) (grind (arith, ints)) (grind (arith, ints))

    along : (from x : ℤ) (k : ℕ) → k ≤ 14 → IsNearAlong from k x → is_within (from -ℤ pos 14) 44 x ≡ true
    along from x k few a = let l = a.low in let g = a.high in between (from -ℤ pos 14) x 44 (omega (arith, ints)) (omega (arith, ints))

pub inner_near : (h : Height) (p : Pos) → IsNear h p → IsFarFromEnds p
inner_near h p near =
    let a = near.west in let b = near.east in let c = near.north in let d = near.south in let e = near.low in let f = near.high in
    let i = h.lowest in let j = h.highest in
    record { west = omega (arith, ints); east = omega (arith, ints); north = omega (arith, ints); south = omega (arith, ints); low = omega (arith, ints); high = omega (arith, ints) }

pub pos_is : (a b c d e f : ℤ) → a ≡ d → b ≡ e → c ≡ f → (let l : Pos = record { x = a; y = b; z = c } in let r : Pos = record { x = d; y = e; z = f } in l ≡ r)
pos_is a b c d e f x y z = λ i. record { x = x i; y = y i; z = z i }

record IsQuotient (x q : ℤ) : Type 0 where
  low : (pos 16 *ℤ q) ≤ℤ x
  high : x <ℤ (pos 16 *ℤ q +ℤ pos 16)

quotient : (x : ℤ) → IsQuotient x (divided x 16)
quotient (pos n) = record { low = omega (arith, ints); high = omega (arith, ints) }
quotient (negsuc n) = record { low = omega (arith, ints); high = omega (arith, ints) }

between : (from x : ℤ) (size : ℕ) → from ≤ℤ x → x <ℤ (from +ℤ pos size) → is_within from size x ≡ true
between from x size l g = and_from (int_le from x) (int_lt x (from +ℤ pos size)) (grind (arith, ints)) (grind (arith, ints))

-- which of the three chunks along an axis
record IsNumber (from : ℤ) (size : ℕ) (q : ℤ) (n : ℕ) : Type 0 where
  less : n < size
  is : q ≡ from +ℤ pos n

number_of : (from q : ℤ) (size : ℕ) → from ≤ℤ q → q <ℤ (from +ℤ pos size) → (n : ℕ) × IsNumber from size q n
number_of from q size l g =
    let w = between from q size l g in
    (offset (q -ℤ from), record { less = offset_below from q size w; is = offset_back from q size w })

near_three : (x c : ℤ) (n : ℕ) → n ≤ 14 → IsNearAlong (pos 16 *ℤ c) n x → (m : ℕ) × IsNumber (c -ℤ pos 1) 3 (divided x 16) m
near_three x c n most a =
    let i = quotient x in let il = i.low in let ih = i.high in let l = a.low in let h = a.high in
    number_of (c -ℤ pos 1) (divided x 16) 3 (omega (arith, ints)) (omega (arith, ints))

-- what holds of the blocks of the nine chunks holds wherever light matters
pub at_column : (c : ChunkPos) (n : ℕ) (P : Pos → Type 0) (p : Pos) → n ≤ 15 → Matters c n p → ((k : ℕ) → k < 9 → chunk_of p ≡ column_at c k → P p) → P p
at_column c n P p most m all =
    let x = near_three p.x c.x m.over_x (let l = m.less in omega arith) m.along_x in
    let z = near_three p.z c.z m.over_z (let l = m.less in omega arith) m.along_z in
    let xl = x.1.less in let zl = z.1.less in
    let k = 3 * z.0 + x.0 in
    let e : x.0 ≡ k % 3 = omega arith in
    let f : z.0 ≡ k / 3 = omega arith in
    all k (omega arith) (λ i. record { x = (x.1.is ∙ ap (λ a. c.x -ℤ pos 1 +ℤ pos a) e) i; z = (z.1.is ∙ ap (λ a. c.z -ℤ pos 1 +ℤ pos a) f) i })

-- a loaded block's chunk is one in which loaded blocks can lie
near_end : (x : ℤ) → negsuc 30719999 ≤ℤ x → negsuc 1920030 ≤ℤ divided x 16
near_end (pos n) h = omega (arith, ints)
near_end (negsuc n) h = omega (arith, ints)

far_end : (x : ℤ) → x ≤ℤ pos 30720511 → divided x 16 ≤ℤ pos 1920031
far_end (pos n) h = omega (arith, ints)
far_end (negsuc n) h = omega (arith, ints)

pub near_chunk : (h : Height) (p : Pos) → IsNear h p → MayBeLoaded (chunk_of p)
near_chunk h p near = record { west = near_end p.x near.west; east = far_end p.x near.east; north = near_end p.z near.north; south = far_end p.z near.south }

-- the chunk's own blocks
near_own : (x c : ℤ) → divided x 16 ≡ c → IsNearAlong (pos 16 *ℤ c) 0 x
near_own x c e = subst (λ d. IsNearAlong (pos 16 *ℤ d) 0 x) e (let i = quotient x in let l = i.low in let h = i.high in record { low = omega (arith, ints); high = omega (arith, ints) })

pub matters_own : (c : ChunkPos) (p : Pos) → chunk_of p ≡ c → Matters c 1 p
matters_own c p e = record { over_x = 0; over_z = 0; less = omega arith; along_x = near_own p.x c.x (ap (λ d. d.x) e); along_z = near_own p.z c.z (ap (λ d. d.z) e) }

-- light of more than its steps to the chunk matters at a block, and no other does
column_x : (x z y : ℕ) → x < 44 → z < 44 → (44 * (44 * (y + 1) + z) + x) % 1936 % 44 ≡ x
column_x x z y l m = let e : (44 * (44 * (y + 1) + z) + x) % 1936 ≡ 44 * z + x = omega arith in omega arith

column_z : (x z y : ℕ) → x < 44 → z < 44 → (44 * (44 * (y + 1) + z) + x) % 1936 / 44 ≡ z
column_z x z y l m = let e : (44 * (44 * (y + 1) + z) + x) % 1936 ≡ 44 * z + x = omega arith in omega arith

apart_is : (x z y i : ℕ) → x < 44 → z < 44 → i ≡ 44 * (44 * (y + 1) + z) + x → apart (i % 1936) ≡ away x + away z
apart_is x z y i l m e = λ k. away (let f : i % 1936 % 44 ≡ x = ap (λ j. j % 1936 % 44) e ∙ column_x x z y l m in f k) + away (let f : i % 1936 / 44 ≡ z = ap (λ j. j % 1936 / 44) e ∙ column_z x z y l m in f k)

pub apart_at : (x z : ℕ) → x < 44 → z < 44 → apart (44 * z + x) ≡ away x + away z
apart_at x z l m = λ k. away (let f : (44 * z + x) % 44 ≡ x = omega arith in f k) + away (let f : (44 * z + x) / 44 ≡ z = omega arith in f k)

near_away : (from x : ℤ) (n : ℕ) → IsNth (from -ℤ pos 14) 44 x n → IsNearAlong from (away n) x
near_away from x n h = let l = h.less in let e = h.is in record { low = omega (arith, ints); high = omega (arith, ints) }

away_least : (from x : ℤ) (n k : ℕ) → IsNth (from -ℤ pos 14) 44 x n → IsNearAlong from k x → away n ≤ k
away_least from x n k h a = let l = h.less in let e = h.is in let f = a.low in let g = a.high in omega (arith, ints)

pub matters_above : (c : ChunkPos) (h : Height) (p : Pos) (i v : ℕ) → IsOnBoard c h p i → apart (i % 1936) < v → Matters c v p
matters_above c h p i v on_board less =
    let s = stepped c h p i on_board in
    record {
      over_x = away s.x;
      over_z = away s.z;
      less = let e = apart_is s.x s.z s.y i s.nth_x.less s.nth_z.less s.is in omega (arith, e);
      along_x = near_away _ _ _ s.nth_x;
      along_z = near_away _ _ _ s.nth_z;
    }

pub matters_only : (c : ChunkPos) (h : Height) (p : Pos) (i v : ℕ) → IsOnBoard c h p i → Matters c v p → apart (i % 1936) < v
matters_only c h p i v on_board m =
    let s = stepped c h p i on_board in
    let e = apart_is s.x s.z s.y i s.nth_x.less s.nth_z.less s.is in
    let a = away_least _ _ _ _ s.nth_x m.along_x in
    let b = away_least _ _ _ _ s.nth_z m.along_z in
    let l = m.less in
    omega (arith, e, a, b)

pub apart_most : (i : ℕ) → apart (i % 1936) ≤ 28
apart_most i = let a : i % 1936 / 44 < 44 = omega arith in let b : i % 1936 % 44 < 44 = omega arith in omega arith
