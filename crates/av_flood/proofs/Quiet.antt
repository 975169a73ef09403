-- Bytes of a board in whose layers nothing was touched.
use Rattle.std.proofs.Common.{◌≡◌, ◌≢◌, ℕ, ◌+◌, ◌-◌, ◌*◌, ◌/◌, ◌%◌, ◌<◌, ◌≤◌, ◌⊎◌, inl, inr, ⊎_elim, Bool, true, false, cond, suc, zero, List, [], ◌∷◌, ◌++◌, length, get_or, set, take, drop, replicate, refl, sym, ap, ◌∙◌, subst, arith}
use Rattle.std.specs.Prelude.{nat_le, count_by, All}
use borrow.Rule.Slice.PartMut.{put_mid}
use Rattle.std.proofs.lemmas.Bool.{cases_lt, false≢true}
use Rattle.std.proofs.lemmas.Bool.Decides.{eqb_tells, nat_tests}
use Rattle.std.proofs.lemmas.List.{get_or-set_same, get_or-set_other, get_or_default, get_or-append_right, get_or_append_left, get_or-take, get_or-drop, length-take-le, length-append, length-drop, take_at, take_all, get_or_past}
use Rattle.std.proofs.lemmas.List.Sums.{sum_by-cons, sum_by-set}
use Rattle.std.proofs.lemmas.List.Elements.{All-from_get_or}
use Rattle.av_types.specs.declared.position.Pos.{Pos}
use Rattle.av_types.specs.declared.position.ChunkPos.{ChunkPos}
use Rattle.av_types.specs.declared.position.Height.{Height}
use Rattle.av_flood.specs.Offsets.{apart}
use Rattle.av_flood.specs.Board.{is_on, index_of, own_block}
use Rattle.av_flood.specs.Flooding.{Matters}
use Rattle.av_flood.specs.Quiet.{IsQuiet, IsBeside, IsFenced, AreDark}
use Rattle.av_flood.specs.Spots.{IsEnd}
use Rattle.av_flood.proofs.Boards.{on_board_of, matters_only, apart_most, lit_raw}
use Rattle.av_flood.proofs.Halves.{own_on_board}

-- one byte set, and its layer noted
pub IsQuiet-set : (touched : List Bool) (light : List ℕ) (i v : ℕ) → 1936 ≤ i → (i - 1936) / 1936 < length touched → IsQuiet touched light → IsQuiet (set touched ((i - 1936) / 1936) true) (set light i v)
IsQuiet-set touched light i v low less h =
    record {
      quiet = λ j e. ⊎_elim
          (λ s. absurd (false≢true (sym e ∙ ap (λ k. get_or (set touched ((i - 1936) / 1936) true) k true) s.1 ∙ get_or-set_same touched ((i - 1936) / 1936) true true less)))
          (λ s. get_or-set_other light i (1936 + j) v 0 (λ same. s.1 (ap (λ k. k / 1936) (let f : j ≡ i - 1936 = omega (arith, same) in f))) ∙ h.quiet j (sym (get_or-set_other touched ((i - 1936) / 1936) (j / 1936) true true s.1) ∙ e))
          (eqb_tells (j / 1936) ((i - 1936) / 1936));
    }

pub IsFenced-set : (n : ℕ) (light : List ℕ) (i v : ℕ) → 1936 ≤ i → i < n → i < length light → apart (i % 1936) ≤ v → IsFenced n light → IsFenced n (set light i v)
IsFenced-set n light i v low high less most h =
    record {
      beside = λ j b. get_or-set_other light i j v 64 (apart_from j b) ∙ h.beside j b;
      far = λ j. ⊎_elim
          (λ s. let e : get_or (set light i v) j 64 ≡ v = ap (λ k. get_or (set light i v) k 64) s.1 ∙ get_or-set_same light i v 64 less in let a : apart (j % 1936) ≡ apart (i % 1936) = ap (λ k. apart (k % 1936)) s.1 in omega (arith, e, a, most))
          (λ s. let e = get_or-set_other light i j v 64 s.1 in let a = h.far j in omega (arith, e, a)) (eqb_tells j i);
    }
  where
    apart_from : (j : ℕ) → IsBeside n j → j ≡ i → ⊥
    apart_from j (inl l) e = omega arith
    apart_from j (inr l) e = omega arith

-- beyond the board a byte says that no light is of use
pub no_end : (c : ChunkPos) (h : Height) (p : Pos) (i : ℕ) (xs : List ℕ) → IsFenced (30976 * h.sections + 1936) xs → IsEnd c h p i → get_or xs i 64 < 14 → ⊥
no_end c h p i xs fenced e less = ⊎_elim (λ b. let f = fenced.beside i b in omega (arith, f)) (λ b. let f = fenced.far i in omega (arith, f, b)) e.edge

-- the bytes of a new board, layer by layer
same_default : (n i a : ℕ) → get_or (replicate {A = ℕ} n a) i a ≡ a
same_default zero i a = refl
same_default (suc n) zero a = refl
same_default (suc n) (suc i) a = same_default n i a

pub first_layer : (n m : ℕ) (old new : List ℕ) → new ≡ take n old ++ replicate m 64 → old ≡ [] → (i : ℕ) → get_or new i 64 ≡ 64
first_layer n m old new e none i = ap (λ xs. get_or xs i 64) (e ∙ ap (λ xs. take n xs ++ replicate m 64) none) ∙ on n where
  on : (k : ℕ) → get_or (take k [] ++ replicate {A = ℕ} m 64) i 64 ≡ 64
  on zero = same_default m i 64
  on (suc k) = same_default m i 64

pub next_layer : (n : ℕ) (old dark : List ℕ) → length old ≡ 1936 * n + 1936 → length dark ≡ 1936 → ((i : ℕ) → i < 1936 → get_or dark i 0 ≡ apart i) → ((i : ℕ) → i < 1936 * n → get_or old (1936 + i) 0 ≡ apart (i % 1936))
    → (i : ℕ) → i < 1936 * (n + 1) → get_or (old ++ dark) (1936 + i) 0 ≡ apart (i % 1936)
next_layer n old dark long size is before i less =
    ⊎_elim (λ l. get_or_append_left old dark 0 (1936 + i) (omega (arith, long)) ∙ before i l)
    (λ l. let k = i - 1936 * n in
    let same : k ≡ i % 1936 = omega arith in
    get_or-append_right old dark (1936 * n + 1936) (1936 + i) 0 long (omega arith) ∙ ap (λ j. get_or dark j 0) (let e : 1936 + i - (1936 * n + 1936) ≡ k = omega arith in e) ∙ is k (omega arith) ∙ ap apart same)
    (cases_lt i (1936 * n))

pub last_layer : (n k m : ℕ) (old new : List ℕ) → new ≡ take k old ++ replicate m 64 → length old ≤ k → length old ≡ 1936 * n + 1936 → ((i : ℕ) → i < 1936 → get_or old i 64 ≡ 64)
    → ((i : ℕ) → i < 1936 * n → get_or old (1936 + i) 0 ≡ apart (i % 1936)) → AreDark n new
last_layer n k m old new e short long first before =
    record {
      beside = λ i b. ap (λ xs. get_or xs i 64) is ∙ outside i b;
      within = λ i l. ap (λ xs. get_or xs (1936 + i) 0) is ∙ get_or_append_left old (replicate m 64) 0 (1936 + i) (omega (arith, long)) ∙ before i l;
    }
  where
    is : new ≡ old ++ replicate m 64
    is = e ∙ ap (λ xs. xs ++ replicate m 64) (take_all k old short)

    outside : (i : ℕ) → IsBeside (1936 * n + 1936) i → get_or (old ++ replicate m 64) i 64 ≡ 64
    outside i (inl l) = get_or_append_left old (replicate m 64) 64 i (omega (arith, long)) ∙ first i l
    outside i (inr l) = get_or-append_right old (replicate m 64) (1936 * n + 1936) i 64 long l ∙ same_default m (i - (1936 * n + 1936)) 64

pub AreDark-fenced : (n : ℕ) (light : List ℕ) → length light ≡ 1936 * n + 3872 → AreDark n light → IsFenced (1936 * n + 1936) light
AreDark-fenced n light long dark =
    record {
      beside = dark.beside;
      far = λ i. let most = apart_most i in
          ⊎_elim (λ l. let e = dark.beside i (inl l) in omega (arith, e, most))
          (λ l. ⊎_elim (λ m. inside i l m) (λ m. let e = dark.beside i (inr m) in omega (arith, e, most)) (cases_lt i (1936 * n + 1936))) (cases_lt i 1936);
    }
  where
    inside : (i : ℕ) → 1936 ≤ i → i < 1936 * n + 1936 → apart (i % 1936) ≤ get_or light i 64
    inside i l m =
        let k = i - 1936 in
        let e : 1936 + k ≡ i = omega arith in
        let f : k % 1936 ≡ i % 1936 = omega arith in
        let g : get_or light i 64 ≡ apart (i % 1936) = get_or_default light i 64 0 (omega (arith, long)) ∙ ap (λ j. get_or light j 0) (sym e) ∙ dark.within k (omega arith) ∙ ap apart f in
        omega (arith, g)

pub AreDark-quiet : (touched : List Bool) (n : ℕ) (light : List ℕ) → length touched ≡ n → AreDark n light → IsQuiet touched light
AreDark-quiet touched n light long dark =
    record {
      quiet = λ i e. dark.within i (⊎_elim (λ l. omega (arith, l, long)) (λ l. absurd (false≢true (sym e ∙ get_or_past touched (i / 1936) true l))) (cases_lt (i / 1936) (length touched)));
    }

-- a layer made dark
record IsDarkened (light light' : List ℕ) (s : ℕ) : Type 0 where
  here : (j d : ℕ) → j / 1936 ≡ s → get_or light' (1936 + j) d ≡ apart (j % 1936)
  others : (j d : ℕ) → (j < 1936 * (s + 1)) ⊎ (1936 * (s + 1) + 1936 ≤ j) → get_or light' j d ≡ get_or light j d

IsQuiet-darkened : (touched : List Bool) (light light' : List ℕ) (s : ℕ) → IsDarkened light light' s → IsQuiet touched light → IsQuiet (set touched s false) light'
IsQuiet-darkened touched light light' s d h =
    record {
      quiet = λ j e. ⊎_elim (λ a. d.here j 0 a.1)
          (λ a. d.others (1936 + j) 0 (away_from j a.1) ∙ h.quiet j (sym (get_or-set_other touched s (j / 1936) false true a.1) ∙ e))
          (eqb_tells (j / 1936) s);
    }
  where
    away_from : (j : ℕ) → j / 1936 ≢ s → (1936 + j < 1936 * (s + 1)) ⊎ (1936 * (s + 1) + 1936 ≤ 1936 + j)
    away_from j ne = ⊎_elim (λ l. inl l) (λ l. inr (⊎_elim (λ m. absurd (ne (omega arith))) (λ m. m) (cases_lt (1936 + j) (1936 * (s + 1) + 1936)))) (cases_lt (1936 + j) (1936 * (s + 1)))

IsFenced-darkened : (n s : ℕ) (light light' : List ℕ) → 1936 * (s + 1) + 1936 ≤ n → IsDarkened light light' s → IsFenced n light → IsFenced n light'
IsFenced-darkened n s light light' within d h =
    record {
      beside = λ j b. d.others j 64 (beyond j b) ∙ h.beside j b;
      far = λ j. ⊎_elim (λ l. kept j (inl l)) (λ l. ⊎_elim (λ m. dark j l m) (λ m. kept j (inr m)) (cases_lt j (1936 * (s + 1) + 1936))) (cases_lt j (1936 * (s + 1)));
    }
  where
    beyond : (j : ℕ) → IsBeside n j → (j < 1936 * (s + 1)) ⊎ (1936 * (s + 1) + 1936 ≤ j)
    beyond j (inl l) = inl (omega arith)
    beyond j (inr l) = inr (omega arith)

    kept : (j : ℕ) → (j < 1936 * (s + 1)) ⊎ (1936 * (s + 1) + 1936 ≤ j) → apart (j % 1936) ≤ get_or light' j 64
    kept j b = let e = d.others j 64 b in let f = h.far j in omega (arith, e, f)

    dark : (j : ℕ) → 1936 * (s + 1) ≤ j → j < 1936 * (s + 1) + 1936 → apart (j % 1936) ≤ get_or light' j 64
    dark j l m =
        let k = j - 1936 in
        let e : 1936 + k ≡ j = omega arith in
        let f : k % 1936 ≡ j % 1936 = omega arith in
        let g : get_or light' j 64 ≡ apart (j % 1936) = ap (λ i. get_or light' i 64) (sym e) ∙ d.here k 64 (omega arith) ∙ ap apart f in
        omega (arith, g)

-- a slice written over a layer
pub darkened : (touched : List Bool) (light dark light' : List ℕ) (s n : ℕ) → length dark ≡ 1936 → 1936 * (s + 1) + 1936 ≤ n → n ≤ length light → ((i : ℕ) → i < 1936 → get_or dark i 0 ≡ apart i)
    → light' ≡ put_mid (1936 * (s + 1)) 1936 light dark → IsQuiet touched light → IsFenced n light → IsQuiet (set touched s false) light' × IsFenced n light'
darkened touched light dark light' s n long within short is e quiet fenced =
    (IsQuiet-darkened touched light light' s d quiet, IsFenced-darkened n s light light' within d fenced)
  where
    front : length (take (1936 * (s + 1)) light) ≡ 1936 * (s + 1)
    front = length-take-le (1936 * (s + 1)) light (omega arith)

    behind : (j d : ℕ) → 1936 * (s + 1) ≤ j → get_or (put_mid (1936 * (s + 1)) 1936 light dark) j d ≡ get_or (dark ++ drop 1936 (drop (1936 * (s + 1)) light)) (j - 1936 * (s + 1)) d
    behind j d l = get_or-append_right (take (1936 * (s + 1)) light) (dark ++ drop 1936 (drop (1936 * (s + 1)) light)) (1936 * (s + 1)) j d front l

    d : IsDarkened light light' s
    d = record {
      here = λ j d h.
          let k = 1936 + j - 1936 * (s + 1) in
          let less : k < 1936 = omega arith in
          let same : k ≡ j % 1936 = omega arith in
          ap (λ xs. get_or xs (1936 + j) d) e ∙ behind (1936 + j) d (omega arith) ∙ get_or_append_left dark (drop 1936 (drop (1936 * (s + 1)) light)) d k (omega arith)
          ∙ get_or_default dark k d 0 (omega arith) ∙ is k less ∙ ap apart same;
      others = λ j d. ⊎_elim
          (λ l. ap (λ xs. get_or xs j d) e ∙ get_or_append_left (take (1936 * (s + 1)) light) (dark ++ drop 1936 (drop (1936 * (s + 1)) light)) d j (omega (arith, front)) ∙ get_or-take (1936 * (s + 1)) light j d l)
          (λ l. let k = j - 1936 * (s + 1) in let m = k - 1936 in
          let at : 1936 * (s + 1) + (1936 + m) ≡ j = omega arith in
          ap (λ xs. get_or xs j d) e ∙ behind j d (omega arith) ∙ get_or-append_right dark (drop 1936 (drop (1936 * (s + 1)) light)) 1936 k d long (omega arith)
          ∙ get_or-drop 1936 (drop (1936 * (s + 1)) light) m d ∙ get_or-drop (1936 * (s + 1)) light (1936 + m) d ∙ ap (λ i. get_or light i d) at);
    }

-- what a slice of a list leaves in it
pub written_back : (len a b : ℕ) (light now dark new : List ℕ) → length light ≡ len → a + 1936 ≤ len → b ≡ 1936 → now ≡ light → new ≡ dark → length dark ≡ 1936
    → take len (put_mid a b now new ++ drop (length (put_mid a b now new)) light) ≡ put_mid a 1936 light dark
written_back len a b light now dark new long within e f g size = take_at (put_mid a b now new) (drop (length (put_mid a b now new)) light) len (ap length same ∙ whole) ∙ same where
  same : put_mid a b now new ≡ put_mid a 1936 light dark
  same i = put_mid a (e i) (f i) (g i)

  whole : length (put_mid a 1936 light dark) ≡ len
  whole =
      let front = length-take-le a light (omega arith) in
      let behind = length-append dark (drop 1936 (drop a light)) in
      let rest = length-drop 1936 (drop a light) in
      let after = length-drop a light in
      length-append (take a light) (dark ++ drop 1936 (drop a light)) ∙ omega (arith, front, behind, rest, after)

-- a board with no byte settled has no light
pub count_low : (xs : List ℕ) → ((i : ℕ) → get_or xs i 0 < 128) → count_by (λ n. nat_le 128 n) xs ≡ 0
count_low [] h = refl
count_low (x ∷ xs) h =
    sum_by-cons (λ n. cond (nat_le 128 n) 1 0) x xs ∙ ap (λ b. cond b 1 0 + count_by (λ m. nat_le 128 m) xs) (low x (h 0)) ∙ none_more (count_by (λ m. nat_le 128 m) xs) (count_low xs (λ i. h (suc i)))
  where
    none_more : (n : ℕ) → n ≡ 0 → 0 + n ≡ 0
    none_more n e = omega arith

    low : (n : ℕ) → n < 128 → nat_le 128 n ≡ false
    low n e = grind (arith, nat_tests)

pub dim_low : (xs : List ℕ) → ((i : ℕ) → get_or xs i 0 < 128) → All (λ n. n < 144) xs
dim_low xs h = All-from_get_or (λ n. n < 144) xs 0 (λ i less. let e = h i in omega arith)

-- one byte set, and how many are settled
abbrev weight : ℕ → ℕ
weight n = cond (nat_le 128 n) 1 0

weight_low : (n : ℕ) → n < 128 → weight n ≡ 0
weight_low n l = grind (arith, nat_tests)

weight_high : (n : ℕ) → 128 ≤ n → weight n ≡ 1
weight_high n l = grind (arith, nat_tests)

pub count_low_set : (xs : List ℕ) (i v : ℕ) → i < length xs → get_or xs i 0 < 128 → v < 128 → count_by (λ n. nat_le 128 n) (set xs i v) ≡ count_by (λ n. nat_le 128 n) xs
count_low_set xs i v within low less =
    let a = weight_low (get_or xs i 0) low in
    let b = weight_low v less in
    let e = sum_by-set weight xs i v 0 within in
    omega (arith, a, b, e)

pub count_high_set : (xs : List ℕ) (i v : ℕ) → i < length xs → get_or xs i 0 < 128 → 128 ≤ v → count_by (λ n. nat_le 128 n) (set xs i v) ≡ count_by (λ n. nat_le 128 n) xs + 1
count_high_set xs i v within low most =
    let a = weight_low (get_or xs i 0) low in
    let b = weight_high v most in
    let e = sum_by-set weight xs i v 0 within in
    omega (arith, a, b, e)

-- of bytes that are settled between two places alone there are no more than between these
pub count_between : (xs : List ℕ) (a b : ℕ) → ((i : ℕ) → (i < a) ⊎ (b ≤ i) → get_or xs i 0 < 128) → count_by (λ n. nat_le 128 n) xs ≤ b - a
count_between [] a b low = omega arith
count_between (x ∷ xs) a b low = on (nat_le 128 x) refl (sum_by-cons (λ n. cond (nat_le 128 n) 1 0) x xs) (count_between xs (a - 1) (b - 1) (λ i e. low (suc i) (⊎_elim (λ l. inl (omega arith)) (λ l. inr (omega arith)) e))) where
  on : (t : Bool) → nat_le 128 x ≡ t → count_by (λ n. nat_le 128 n) (x ∷ xs) ≡ cond (nat_le 128 x) 1 0 + count_by (λ n. nat_le 128 n) xs → count_by (λ n. nat_le 128 n) xs ≤ (b - 1) - (a - 1)
      → count_by (λ n. nat_le 128 n) (x ∷ xs) ≤ b - a
  on true e is rest =
      let f : count_by (λ n. nat_le 128 n) (x ∷ xs) ≡ 1 + count_by (λ n. nat_le 128 n) xs = is ∙ ap (λ t. cond t 1 0 + count_by (λ n. nat_le 128 n) xs) e in
      let first : a ≡ 0 = ⊎_elim (λ l. absurd (high e (low 0 (inl l)))) (λ l. omega arith) (cases_lt 0 a) in
      let some : 0 < b = ⊎_elim (λ l. l) (λ l. absurd (high e (low 0 (inr l)))) (cases_lt 0 b) in
      omega (arith, f, first, some, rest)
    where
      high : nat_le 128 x ≡ true → x < 128 → ⊥
      high t l = grind (arith, nat_tests)
  on false e is rest =
      let f : count_by (λ n. nat_le 128 n) (x ∷ xs) ≡ 0 + count_by (λ n. nat_le 128 n) xs = is ∙ ap (λ t. cond t 1 0 + count_by (λ n. nat_le 128 n) xs) e in
      omega (arith, f, rest)

pub count_within : (n : ℕ) (light : List ℕ) → IsFenced (n + 1936) light → count_by (λ m. nat_le 128 m) light ≤ n
count_within n light fenced = let few = count_between light 1936 (n + 1936) beside in omega (arith, few) where
  beside : (i : ℕ) → (i < 1936) ⊎ (n + 1936 ≤ i) → get_or light i 0 < 128
  beside i b = ⊎_elim (λ l. let e = get_or_default light i 0 64 l in let f = fenced.beside i b in omega (arith, e, f)) (λ l. let e = get_or_past light i 0 l in omega (arith, e)) (cases_lt i (length light))

-- all layers are dark
module _ (touched : List Bool) (light : List ℕ) (n m : ℕ) (quiet : IsQuiet touched light) (fenced : IsFenced (1936 * n + 1936) light) (done : (s : ℕ) → s < m → get_or touched s true ≡ false)
    (long : length light ≡ 1936 * n + 3872) (most : n ≤ m) where
  dark_within : (i : ℕ) → 1936 ≤ i → i < 1936 * n + 1936 → get_or light i 0 ≡ apart (i % 1936)
  dark_within i low high =
      let k = i - 1936 in
      let e : 1936 + k ≡ i = omega arith in
      let f : k % 1936 ≡ i % 1936 = omega arith in
      ap (λ j. get_or light j 0) (sym e) ∙ quiet.quiet k (done (k / 1936) (omega arith)) ∙ ap apart f

  pub all_low : (i : ℕ) → get_or light i 0 < 128
  all_low i =
      ⊎_elim (λ l. ⊎_elim (λ a. beside i l (inl a)) (λ a. ⊎_elim (λ b. let e = dark_within i a b in let f = apart_most i in omega (arith, e, f)) (λ b. beside i l (inr b)) (cases_lt i (1936 * n + 1936))) (cases_lt i 1936))
      (λ l. let e = get_or_past light i 0 l in omega (arith, e)) (cases_lt i (length light))
    where
      beside : (i : ℕ) → i < length light → IsBeside (1936 * n + 1936) i → get_or light i 0 < 128
      beside i l b = let e = get_or_default light i 0 64 l in let f = fenced.beside i b in omega (arith, e, f)

  pub all_fresh : (c : ChunkPos) (h : Height) → n ≡ 16 * h.sections → (p : Pos)
      → (cond (is_on c h p) (get_or light (index_of c h p) 0) 0 < 128) × ((v : ℕ) → v ≤ cond (is_on c h p) (get_or light (index_of c h p) 0) 0 → Matters c v p → ⊥)
  all_fresh c h size p = on (is_on c h p) refl where
    on : (b : Bool) → is_on c h p ≡ b → (cond b (get_or light (index_of c h p) 0) 0 < 128) × ((v : ℕ) → v ≤ cond b (get_or light (index_of c h p) 0) 0 → Matters c v p → ⊥)
    on true e =
        let on_board = on_board_of c h p e in
        let low : 1936 ≤ index_of c h p = omega arith in
        let high = on_board.less in
        let is : get_or light (index_of c h p) 0 ≡ apart (index_of c h p % 1936) = dark_within (index_of c h p) low (omega arith) in
        (all_low (index_of c h p), λ v l m. let less = matters_only c h p (index_of c h p) v on_board m in omega (arith, is, less))
    on false e = (omega arith, λ v l m. let less = m.less in omega arith)

-- the chunk's blocks of a quiet layer are dark
in_layer : (y z x : ℕ) → z < 16 → x < 16 → (44 * (44 * (y + 1) + (z + 14)) + (x + 14) - 1936) / 1936 ≡ y
in_layer y z x zl xl = omega arith

whole : (j : ℕ) → 256 * (j / 256) + 16 * (j / 16 % 16) + j % 16 ≡ j
whole j = let a : j / 256 ≡ j / 16 / 16 = omega arith in omega arith

low_cond : (b : Bool) (n : ℕ) → n < 128 → cond b n 0 - 128 ≡ 0
low_cond true n l = omega arith
low_cond false n l = refl

pub dark_layer : (c : ChunkPos) (h : Height) (touched : List Bool) (light : List ℕ) (y : ℕ) → IsQuiet touched light → y < 16 * h.sections → get_or touched y true ≡ false
    → (j : ℕ) → 256 * y ≤ j → j < 256 * y + 256 → (let raw = cond (is_on c h (own_block c h j)) (get_or light (index_of c h (own_block c h j)) 0) 0 in cond (nat_le 128 raw) raw 0 - 128 ≡ 0)
dark_layer c h touched light y quiet within untouched j low high =
    let z = j / 16 % 16 in let x = j % 16 in
    let zl : z < 16 = omega arith in let xl : x < 16 = omega arith in
    let here : j / 256 ≡ y = omega arith in
    let on_board = own_on_board c h y z x within zl xl in
    let p = own_block c h (256 * y + 16 * z + x) in
    let i = 44 * (44 * (y + 1) + (z + 14)) + (x + 14) in
    let k = i - 1936 in
    let e : 1936 + k ≡ i = omega arith in
    let none : get_or light (index_of c h p) 0 ≡ apart (k % 1936)
    = ap (λ n. get_or light n 0) (sym on_board.is ∙ sym e) ∙ quiet.quiet k (ap (λ n. get_or touched n true) (in_layer y z x zl xl) ∙ untouched) in
    let most = apart_most k in
    let dark : cond (is_on c h p) (get_or light (index_of c h p) 0) 0 - 128 ≡ 0 = low_cond (is_on c h p) (get_or light (index_of c h p) 0) (omega (arith, none, most)) in
    lit_raw _ ∙ subst (λ n. cond (is_on c h (own_block c h n)) (get_or light (index_of c h (own_block c h n)) 0) 0 - 128 ≡ 0) (ap (λ n. 256 * n + 16 * z + x) (sym here) ∙ whole j) dark

-- whatever stands for what is not there
pub read_as : (xs : List Bool) (i : ℕ) (b : Bool) → i < length xs → b ≡ get_or xs i b → b ≡ false → get_or xs i true ≡ false
read_as [] i b l e f = absurd (omega arith)
read_as (x ∷ xs) zero b l e f = sym e ∙ f
read_as (x ∷ xs) (suc i) b l e f = read_as xs i b (omega arith) e f
