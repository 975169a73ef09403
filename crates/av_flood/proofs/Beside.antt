-- The blocks beside one of the board.
use Rattle.std.proofs.Common.{IsTrue, ◌≡◌, ℕ, ℤ, pos, ◌+◌, ◌-◌, ◌*◌, ◌/◌, ◌%◌, ◌<◌, ◌≤◌, ◌⊎◌, inl, inr, ◌+ℤ◌, ◌-ℤ◌, ◌<ℤ◌, ◌≤ℤ◌, true, ◌&&◌, sym, subst, ◌∙◌, arith}
use Rattle.std.proofs.lemmas.Int.{ints}
use Rattle.std.proofs.lemmas.Bool.{cases_lt, and_parts}
use Rattle.std.specs.Prelude.{int_le, int_lt}
use Rattle.av_types.specs.declared.position.Pos.{Pos}
use Rattle.av_types.specs.declared.position.ChunkPos.{ChunkPos}
use Rattle.av_types.specs.declared.position.Height.{Height}
use Rattle.av_flood.specs.Offsets.{is_within, IsNth, IsBeyond, apart}
use Rattle.av_flood.specs.Light.{below, above, north, south, west, east}
use Rattle.av_flood.specs.Board.{corner, is_on, IsOff, IsOnBoard}
use Rattle.av_flood.specs.Quiet.{IsBeside}
use Rattle.av_flood.specs.Spots.{IsSpot}
use Rattle.av_flood.proofs.Boards.{below_first, after_last, off_x, off_y, off_z, on_board_at, IsStepped, stepped}

within_low : (from x : ℤ) (size : ℕ) → is_within from size x ≡ true → from ≤ℤ x
within_low from x size h = let l : int_le from x ≡ true = (and_parts (int_le from x) (int_lt x (from +ℤ pos size)) h).0 in grind (arith, ints)

within_high : (from x : ℤ) (size : ℕ) → is_within from size x ≡ true → x <ℤ (from +ℤ pos size)
within_high from x size h = let l : int_lt x (from +ℤ pos size) ≡ true = (and_parts (int_le from x) (int_lt x (from +ℤ pos size)) h).1 in grind (arith, ints)

-- a coordinate is one of so many from the first
pub record IsBetween (from : ℤ) (size : ℕ) (x : ℤ) : Type 0 where
  pub low : from ≤ℤ x
  pub high : x <ℤ (from +ℤ pos size)

pub record IsOn (c : ChunkPos) (h : Height) (p : Pos) : Type 0 where
  pub x : IsBetween (corner c h).x 44 p.x
  pub z : IsBetween (corner c h).z 44 p.z
  pub y : IsBetween (corner c h).y (16 * h.sections) p.y

pub between_ends : (c : ChunkPos) (h : Height) (p : Pos) → IsTrue (is_on c h p) → IsOn c h p
between_ends c h p on =
    let k = corner c h in
    let xz = (and_parts (is_within k.x 44 p.x && is_within k.z 44 p.z) (is_within k.y (16 * h.sections) p.y) on).0 in
    let x = (and_parts (is_within k.x 44 p.x) (is_within k.z 44 p.z) xz).0 in
    let z = (and_parts (is_within k.x 44 p.x) (is_within k.z 44 p.z) xz).1 in
    let y = (and_parts (is_within k.x 44 p.x && is_within k.z 44 p.z) (is_within k.y (16 * h.sections) p.y) on).1 in
    record {
      x = record { low = within_low k.x p.x 44 x; high = within_high k.x p.x 44 x };
      z = record { low = within_low k.z p.z 44 z; high = within_high k.z p.z 44 z };
      y = record { low = within_low k.y p.y (16 * h.sections) y; high = within_high k.y p.y (16 * h.sections) y };
    }

-- the one before the nth, and the one after it
nth_before : (from x : ℤ) (size n : ℕ) → IsNth from size x n → 0 < n → IsNth from size (x -ℤ pos 1) (n - 1)
nth_before from x size n h positive = let l = h.less in let e = h.is in record { less = omega arith; is = omega (arith, ints) }

nth_after : (from x : ℤ) (size n : ℕ) → IsNth from size x n → n + 1 < size → IsNth from size (x +ℤ pos 1) (n + 1)
nth_after from x size n h less = let e = h.is in record { less = less; is = omega (arith, ints) }

before_first : (from x : ℤ) (size n : ℕ) → IsNth from size x n → n ≡ 0 → IsBeyond from size (x -ℤ pos 1)
before_first from x size n h none = let e = h.is in below_first from (x -ℤ pos 1) size (omega (arith, ints))

past_last : (from x : ℤ) (size n : ℕ) → IsNth from size x n → n + 1 ≡ size → IsBeyond from size (x +ℤ pos 1)
past_last from x size n h last = let e = h.is in after_last from (x +ℤ pos 1) size (omega (arith, ints))

-- the bytes at the ends of a layer
apart_x : (i : ℕ) → (i % 1936 % 44 ≡ 0) ⊎ (i % 1936 % 44 ≡ 43) → 14 ≤ apart (i % 1936)
apart_x i (inl e) = omega arith
apart_x i (inr e) = omega arith

apart_z : (i : ℕ) → (i % 1936 / 44 ≡ 0) ⊎ (i % 1936 / 44 ≡ 43) → 14 ≤ apart (i % 1936)
apart_z i (inl e) = omega arith
apart_z i (inr e) = omega arith

-- the block on each side of one of the board, and where its byte stands
in_row : (j : ℕ) → j % 1936 % 44 ≡ j % 44
in_row j = omega arith

module _ (c : ChunkPos) (h : Height) (p : Pos) (i : ℕ) (on_board : IsOnBoard c h p i) where
  s : IsStepped c h p i
  s = stepped c h p i on_board

  here : (q : Pos) (x y z j : ℕ) → IsNth (corner c h).x 44 q.x x → IsNth (corner c h).z 44 q.z z → IsNth (corner c h).y (16 * h.sections) q.y y → j ≡ 44 * (44 * (y + 1) + z) + x → IsSpot c h record { pos = q; index = j }
  here q x y z j a b d e = inl (subst (IsOnBoard c h q) (sym e) (on_board_at c h q x y z a b d))

  off : (q : Pos) (j : ℕ) → IsOff c h q → j < 30976 * h.sections + 3872 → IsBeside (30976 * h.sections + 1936) j ⊎ (14 ≤ apart (j % 1936)) → IsSpot c h record { pos = q; index = j }
  off q j o l e = inr (record { off = o.off; less = l; edge = e })

  pub below_is : (q : Pos) (j : ℕ) → q ≡ below p → j ≡ i - 1936 → IsSpot c h record { pos = q; index = j }
  below_is q j is e = subst (λ r. IsSpot c h record { pos = r; index = j }) (sym is) (on (cases_lt 0 s.y)) where
    on : (0 < s.y) ⊎ (s.y ≤ 0) → IsSpot c h record { pos = below p; index = j }
    on (inl l) = let f = s.is in here (below p) s.x (s.y - 1) s.z j s.nth_x s.nth_z (nth_before _ _ _ _ s.nth_y l) (omega arith)
    on (inr l) = let f = s.is in let m = on_board.less in let a = s.nth_x.less in let b = s.nth_z.less in
        off (below p) j (off_y c h (below p) (before_first _ _ _ _ s.nth_y (omega arith))) (omega arith) (inl (inl (omega arith)))

  pub above_is : (q : Pos) (j : ℕ) → q ≡ above p → j ≡ i + 1936 → IsSpot c h record { pos = q; index = j }
  above_is q j is e = subst (λ r. IsSpot c h record { pos = r; index = j }) (sym is) (on (cases_lt (s.y + 1) (16 * h.sections))) where
    on : (s.y + 1 < 16 * h.sections) ⊎ (16 * h.sections ≤ s.y + 1) → IsSpot c h record { pos = above p; index = j }
    on (inl l) = let f = s.is in here (above p) s.x (s.y + 1) s.z j s.nth_x s.nth_z (nth_after _ _ _ _ s.nth_y l) (omega arith)
    on (inr l) = let f = s.is in let m = on_board.less in let k = s.nth_y.less in
        off (above p) j (off_y c h (above p) (past_last _ _ _ _ s.nth_y (omega arith))) (omega arith) (inl (inr (omega arith)))

  pub north_is : (q : Pos) (j : ℕ) → q ≡ north p → j ≡ i - 44 → IsSpot c h record { pos = q; index = j }
  north_is q j is e = subst (λ r. IsSpot c h record { pos = r; index = j }) (sym is) (on (cases_lt 0 s.z)) where
    on : (0 < s.z) ⊎ (s.z ≤ 0) → IsSpot c h record { pos = north p; index = j }
    on (inl l) = let f = s.is in here (north p) s.x s.y (s.z - 1) j s.nth_x (nth_before _ _ _ _ s.nth_z l) s.nth_y (omega arith)
    on (inr l) = let f = s.is in let m = on_board.less in let a = s.nth_x.less in
        let r : j % 1936 ≡ 1892 + s.x = omega arith in
        off (north p) j (off_z c h (north p) (before_first _ _ _ _ s.nth_z (omega arith))) (omega arith) (inr (apart_z j (inr (omega arith))))

  pub south_is : (q : Pos) (j : ℕ) → q ≡ south p → j ≡ i + 44 → IsSpot c h record { pos = q; index = j }
  south_is q j is e = subst (λ r. IsSpot c h record { pos = r; index = j }) (sym is) (on (cases_lt (s.z + 1) 44)) where
    on : (s.z + 1 < 44) ⊎ (44 ≤ s.z + 1) → IsSpot c h record { pos = south p; index = j }
    on (inl l) = let f = s.is in here (south p) s.x s.y (s.z + 1) j s.nth_x (nth_after _ _ _ _ s.nth_z l) s.nth_y (omega arith)
    on (inr l) = let f = s.is in let m = on_board.less in let a = s.nth_x.less in let b = s.nth_z.less in
        let r : j % 1936 ≡ s.x = omega arith in
        off (south p) j (off_z c h (south p) (past_last _ _ _ _ s.nth_z (omega arith))) (omega arith) (inr (apart_z j (inl (omega arith))))

  pub west_is : (q : Pos) (j : ℕ) → q ≡ west p → j ≡ i - 1 → IsSpot c h record { pos = q; index = j }
  west_is q j is e = subst (λ r. IsSpot c h record { pos = r; index = j }) (sym is) (on (cases_lt 0 s.x)) where
    on : (0 < s.x) ⊎ (s.x ≤ 0) → IsSpot c h record { pos = west p; index = j }
    on (inl l) = let f = s.is in here (west p) (s.x - 1) s.y s.z j (nth_before _ _ _ _ s.nth_x l) s.nth_z s.nth_y (omega arith)
    on (inr l) = let f = s.is in let m = on_board.less in
        let r : j % 44 ≡ 43 = omega arith in
        off (west p) j (off_x c h (west p) (before_first _ _ _ _ s.nth_x (omega arith))) (omega arith) (inr (apart_x j (inr (in_row j ∙ r))))

  pub east_is : (q : Pos) (j : ℕ) → q ≡ east p → j ≡ i + 1 → IsSpot c h record { pos = q; index = j }
  east_is q j is e = subst (λ r. IsSpot c h record { pos = r; index = j }) (sym is) (on (cases_lt (s.x + 1) 44)) where
    on : (s.x + 1 < 44) ⊎ (44 ≤ s.x + 1) → IsSpot c h record { pos = east p; index = j }
    on (inl l) = let f = s.is in here (east p) (s.x + 1) s.y s.z j (nth_after _ _ _ _ s.nth_x l) s.nth_z s.nth_y (omega arith)
    on (inr l) = let f = s.is in let m = on_board.less in let a = s.nth_x.less in
        let r : j % 44 ≡ 0 = omega arith in
        off (east p) j (off_x c h (east p) (past_last _ _ _ _ s.nth_x (omega arith))) (omega arith) (inr (apart_x j (inl (in_row j ∙ r))))
