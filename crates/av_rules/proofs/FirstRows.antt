-- The first row of each bucket of names.
use Rattle.std.proofs.Common.{◌≡◌, ◌≢◌, ℕ, zero, suc, ◌+◌, ◌-◌, ◌^◌, ◌<◌, ◌≤◌, ◌==◌, ◌&&◌, ◌||◌, List, [], ◌∷◌, length, drop, set, min, slice_index, Bool, true, false, not, cond, refl, ap, ◌∙◌, sym, subst, arith}
use Rattle.std.specs.Str.{bytes_eq}
use Rattle.std.specs.List.{list_any, position_or_len}
use Rattle.std.proofs.lemmas.Bool.{true≢false}
use Rattle.std.proofs.lemmas.Slice.Eq.{bytes_eq-Decides}
use Rattle.std.proofs.lemmas.Bool.Decides.{Decides-eqb}
use Rattle.std.proofs.lemmas.List.{get_or-set_same, get_or-set_other}
use Rattle.std.proofs.lemmas.List.Sums.{prefix_len-le-length}
use Rattle.std.proofs.Math.Nat.{min-le_left}
use Rattle.std.proofs.lemmas.Nat.{and_le_r}
use Rattle.av_state.specs.BlockState.{BlockState}
use Rattle.av_rules.specs.FirstRows.{bucket_of, head_for, AreFirstRows}
use Rattle.av_rules.specs.Rows.{TableRow, first_row, is_for, has_properties}

-- whether a row's name falls into bucket b
abbrev pub falls : ℕ → ℕ → TableRow → Bool
falls count b t = bucket_of count t.name == b

-- ---- the search may begin at the head of the name's bucket

-- where each row of the state's name passes, rows before the first that passes are not for it
module _ (s : BlockState) (p : TableRow → Bool) (named : (t : TableRow) → bytes_eq t.name s.name ≡ true → p t ≡ true) where
  apart : (t : TableRow) → p t ≡ false → bytes_eq t.name s.name ≡ false
  apart t h = by (bytes_eq t.name s.name) refl
    where
      by : (b : Bool) → bytes_eq t.name s.name ≡ b → b ≡ false
      by true e = absurd (true≢false (sym (named t e) ∙ h))
      by false e = refl

  skip_one : (t : TableRow) (ts : List TableRow) (n : ℕ) (b : Bool) → p t ≡ b → suc n ≤ cond (not b) (1 + position_or_len p ts) 0
      → (n ≤ position_or_len p ts → first_row (drop n ts) s ≡ first_row ts s) → first_row (drop n ts) s ≡ first_row (t ∷ ts) s
  skip_one t ts n true e low more = absurd (omega (arith, low))
  skip_one t ts n false e low more = more (omega (arith, low)) ∙ sym (ap (λ c. cond (c && has_properties s.properties t.properties) t.row (first_row ts s)) (apart t e))

  pub skip : (rows : List TableRow) (n : ℕ) → n ≤ position_or_len p rows → first_row (drop n rows) s ≡ first_row rows s
  skip rows zero h = refl
  skip [] (suc n) h = refl
  skip (t ∷ ts) (suc n) h = skip_one t ts n (p t) refl h (λ k. skip ts n k)

  abbrev is_own : TableRow → Bool
  is_own t = is_for t s

  pass_one : (t : TableRow) (ts : List TableRow) (n : ℕ) (b : Bool) → p t ≡ b → suc n ≤ cond (not b) (1 + position_or_len p ts) 0
      → (n ≤ position_or_len p ts → list_any is_own (drop n ts) ≡ list_any is_own ts) → list_any is_own (drop n ts) ≡ list_any is_own (t ∷ ts)
  pass_one t ts n true e low more = absurd (omega (arith, low))
  pass_one t ts n false e low more = more (omega (arith, low)) ∙ sym (ap (λ c. (c && has_properties s.properties t.properties) || list_any is_own ts) (apart t e))

  pub pass : (rows : List TableRow) (n : ℕ) → n ≤ position_or_len p rows → list_any is_own (drop n rows) ≡ list_any is_own rows
  pass rows zero h = refl
  pass [] (suc n) h = refl
  pass (t ∷ ts) (suc n) h = pass_one t ts n (p t) refl h (λ k. pass ts n k)

module _ (rows : List TableRow) (heads : List ℕ) (firsts : AreFirstRows rows heads) (some : 0 < length heads) where
  -- a row that has the state's name falls into the bucket of that name
  own_falls : (s : BlockState) (t : TableRow) → bytes_eq t.name s.name ≡ true → falls (length heads) (bucket_of (length heads) s.name) t ≡ true
  own_falls s t e =
      let b = bucket_of (length heads) s.name in
      (Decides-eqb (bucket_of (length heads) t.name) b).1 (ap (bucket_of (length heads)) ((bytes_eq-Decides t.name s.name).0 e))

  head_low : (name : List ℕ) → head_for heads name ≤ position_or_len (falls (length heads) (bucket_of (length heads) name)) rows
  head_low name =
      let b = bucket_of (length heads) name in
      let low : b ≤ length heads - 1 = and_le_r _ (length heads - 1) in
      let is = firsts b (omega (arith, low, some)) in
      let least = min-le_left (position_or_len (falls (length heads) b) rows) (2 ^ 32 - 1) in
      omega (arith, is, least)

  pub head_within : (name : List ℕ) → head_for heads name ≤ length rows
  head_within name =
      let low = head_low name in
      let most = prefix_len-le-length (λ t. not (falls (length heads) (bucket_of (length heads) name) t)) rows in
      omega (arith, low, most)

  pub row_from_head : (s : BlockState) → first_row (drop (head_for heads s.name) rows) s ≡ first_row rows s
  row_from_head s = skip s (falls (length heads) (bucket_of (length heads) s.name)) (own_falls s) rows (head_for heads s.name) (head_low s.name)

  pub any_from_head : (s : BlockState) → list_any (λ t. is_for t s) (drop (head_for heads s.name) rows) ≡ list_any (λ t. is_for t s) rows
  any_from_head s = pass s (falls (length heads) (bucket_of (length heads) s.name)) (own_falls s) rows (head_for heads s.name) (head_low s.name)

-- ---- a row is stored, from the last to the first

-- each bucket has the first of the rows from i on
abbrev pub AreFirstFrom : ℕ → List TableRow → ℕ → List ℕ → Type 0
AreFirstFrom count rows i heads = (b : ℕ) → b < count → slice_index heads b ≡ min (i + position_or_len (falls count b) (drop i rows)) (2 ^ 32 - 1)

-- the row of index i is stored over those behind it
module _ (count : ℕ) (rows : List TableRow) (i : ℕ) (heads : List ℕ) (t : TableRow) (long : count ≡ length heads) (within : bucket_of count t.name < count) (parts : drop i rows ≡ t ∷ drop (suc i) rows)
    (firsts : AreFirstFrom count rows (suc i) heads) where
  abbrev head : ℕ
  head = min i (2 ^ 32 - 1)

  abbrev after : List ℕ
  after = set heads (bucket_of count t.name) head

  one : (b : ℕ) → b < count → (c : Bool) → falls count b t ≡ c → slice_index after b ≡ min (i + cond (not c) (1 + position_or_len (falls count b) (drop (suc i) rows)) 0) (2 ^ 32 - 1)
  one b low true e =
      let same : bucket_of count t.name ≡ b = (Decides-eqb (bucket_of count t.name) b).0 e in
      let here : slice_index after (bucket_of count t.name) ≡ head = get_or-set_same heads (bucket_of count t.name) head 0 (subst (λ k. bucket_of count t.name < k) long within) in
      let none : i ≡ i + 0 = omega arith in
      sym (ap (slice_index after) same) ∙ here ∙ ap (λ n. min n (2 ^ 32 - 1)) none
  one b low false e =
      let other : b ≢ bucket_of count t.name = λ k. true≢false (sym ((Decides-eqb (bucket_of count t.name) b).1 (sym k)) ∙ e) in
      let rest = position_or_len (falls count b) (drop (suc i) rows) in
      let next : suc i + rest ≡ i + (1 + rest) = omega arith in
      get_or-set_other heads (bucket_of count t.name) b head 0 other ∙ firsts b low ∙ ap (λ n. min n (2 ^ 32 - 1)) next

  pub one_more : AreFirstFrom count rows i after
  one_more b low = one b low (falls count b t) refl ∙ sym (ap (λ rest. min (i + position_or_len (falls count b) rest) (2 ^ 32 - 1)) parts)
