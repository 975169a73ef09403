-- Slots that tell the first number of the fingerprints that fall there.
use Rattle.std.proofs.Common.{◌≡◌, ◌≢◌, ◌⊎◌, ℕ, ◌+◌, ◌-◌, ◌/◌, ◌^◌, ◌<◌, ◌≤◌, List, [], ◌∷◌, ◌++◌, length, get_or, set, Bool, true, false, All, inl, inr, ap, ◌∙◌, sym, subst, arith, length-append, get_or-set_same, get_or-set_other}
use Rattle.std.proofs.lemmas.Bool.{cases_order, cases_lt, false≢true}
use Rattle.std.proofs.lemmas.List.{get_or_append_left, get_or_past, length-set}
use Rattle.std.proofs.lemmas.Nat.{pow-add}
use Rattle.std.proofs.Math.Nat.{div-div-eq-div-mul}
use Rattle.std.proofs.Math.Pow.{shr_lt}
use Rattle.std.proofs.Math.Seq.{get_or-append_seam}
use Rattle.av_state.specs.declared.slots.Slots.{Slots}
use Rattle.av_state.specs.Index.{slot_of, told, HasTaken, AreSeated, AreFree, AreFirst, IsOwn, TellTheSame}

-- a slot that tells more than 0 is there
there : (s : Slots) (f n : ℕ) → n < told s f → slot_of s f < length s.numbers.items
there s f n more = elim (cases_lt (slot_of s f) (length s.numbers.items)) [
  | inl h ↦ h
  | inr past ↦ (let zero : told s f ≡ 0 = get_or_past s.numbers.items (slot_of s f) 0 past in absurd (omega (arith, zero, more)))
]

module _ (old new : Slots) (shift : new.shift ≡ old.shift) where
  slot-same : (f : ℕ) → slot_of new f ≡ slot_of old f
  slot-same f = ap (λ k. f / 2 ^ k) shift

  told-same : (f : ℕ) → new.numbers.items ≡ old.numbers.items → told new f ≡ told old f
  told-same f e = ap (λ xs. get_or xs (slot_of new f) 0) e ∙ ap (λ i. get_or old.numbers.items i 0) (slot-same f)

  module _ (f n : ℕ) (e : new.numbers.items ≡ set old.numbers.items (slot_of old f) n) where
    told-set : (g : ℕ) → told new g ≡ get_or (set old.numbers.items (slot_of old f) n) (slot_of old g) 0
    told-set g = ap (λ xs. get_or xs (slot_of new g) 0) e ∙ ap (λ i. get_or (set old.numbers.items (slot_of old f) n) i 0) (slot-same g)

    told-own : slot_of old f < length old.numbers.items → told new f ≡ n
    told-own h = told-set f ∙ get_or-set_same old.numbers.items (slot_of old f) n 0 h

    told-other : (g : ℕ) → slot_of old g ≢ slot_of old f → told new g ≡ told old g
    told-other g far = told-set g ∙ get_or-set_other old.numbers.items (slot_of old f) (slot_of old g) n 0 far

    -- a smaller number's slot is another one, where the slot told none so small
    apart : (g m : ℕ) → n < told old f → told old g ≤ m → m < n → slot_of old g ≢ slot_of old f
    apart g m free low less same = (let e : told old g ≡ told old f = ap (λ i. get_or old.numbers.items i 0) same in absurd (omega (arith, e, free, low, less)))

-- slots that tell the same
pub seated-same : (prints order : List ℕ) (old new : Slots) → TellTheSame old new → AreSeated prints old order → AreSeated prints new order
seated-same prints order old new same seated =
    let t : (n : ℕ) → told new (get_or prints n 0) ≡ told old (get_or prints n 0) = λ n. told-same old new same.shift (get_or prints n 0) same.numbers in
    record {
      first = λ n h. (let e = t n in let low = seated.first n h in omega (arith, e, low));
      whole = λ n h other. seated.whole n h (λ is. other (t n ∙ is));
    }

-- ---- one more number

module _ (prints order : List ℕ) (old new : Slots) (f : ℕ) (shift : new.shift ≡ old.shift) (seated : AreSeated prints old order) where
  abbrev more : List ℕ
  more = prints ++ f ∷ []

  long : length more ≡ length prints + 1
  long = length-append prints (f ∷ [])

  before : (n : ℕ) → n < length prints → get_or more n 0 ≡ get_or prints n 0
  before n h = get_or_append_left prints (f ∷ []) 0 n h

  last : get_or more (length prints) 0 ≡ f
  last = get_or-append_seam prints f [] 0

  -- its slot tells it
  pub seated-taken : length prints < told old f → new.numbers.items ≡ set old.numbers.items (slot_of old f) (length prints) → AreSeated more new order
  seated-taken free e = record { first = first; whole = whole }
    where
      same : (n : ℕ) → n < length prints → told new (get_or more n 0) ≡ told old (get_or prints n 0)
      same n h =
          let low = seated.first n h in
          ap (told new) (before n h) ∙ told-other old new shift f (length prints) e (get_or prints n 0) (apart old new shift f (length prints) e (get_or prints n 0) n free low h)

      at_last : told new (get_or more (length prints) 0) ≡ length prints
      at_last = ap (told new) last ∙ told-own old new shift f (length prints) e (there old f (length prints) free)

      first : (n : ℕ) → n < length more → told new (get_or more n 0) ≤ n
      first n h = elim (cases_lt n (length prints)) [
        | inl less ↦ (let e = same n less in let low = seated.first n less in omega (arith, e, low))
        | inr not ↦ (
            let is : n ≡ length prints = omega (arith, long, h, not) in
            let e : told new (get_or more n 0) ≡ length prints = ap (λ k. told new (get_or more k 0)) is ∙ at_last in
            omega (arith, e, is))
      ]

      whole : (n : ℕ) → n < length more → told new (get_or more n 0) ≢ n → All (λ m. m ≡ n → ⊥) order → ⊥
      whole n h other = elim (cases_lt n (length prints)) [
        | inl less ↦ seated.whole n less (λ is. other (same n less ∙ is))
        | inr not ↦ (
            let is : n ≡ length prints = omega (arith, long, h, not) in
            absurd (other (ap (λ k. told new (get_or more k 0)) is ∙ at_last ∙ sym is)))
      ]

  -- its slot tells a smaller one, and it stands in the order
  pub seated-left : (order' : List ℕ) → told old f ≤ length prints → new.numbers.items ≡ old.numbers.items
      → ((n : ℕ) → All (λ m. m ≡ n → ⊥) order' → All (λ m. m ≡ n → ⊥) order) → (All (λ m. m ≡ length prints → ⊥) order' → ⊥) → AreSeated more new order'
  seated-left order' low e fewer here = record { first = first; whole = whole }
    where
      same : (n : ℕ) → n < length prints → told new (get_or more n 0) ≡ told old (get_or prints n 0)
      same n h = ap (told new) (before n h) ∙ told-same old new shift (get_or prints n 0) e

      first : (n : ℕ) → n < length more → told new (get_or more n 0) ≤ n
      first n h = elim (cases_lt n (length prints)) [
        | inl less ↦ (let e = same n less in let low = seated.first n less in omega (arith, e, low))
        | inr not ↦ (
            let is : n ≡ length prints = omega (arith, long, h, not) in
            let t : told new (get_or more n 0) ≡ told old f = ap (λ k. told new (get_or more k 0)) is ∙ ap (told new) last ∙ told-same old new shift f e in
            omega (arith, t, is, low))
      ]

      whole : (n : ℕ) → n < length more → told new (get_or more n 0) ≢ n → All (λ m. m ≡ n → ⊥) order' → ⊥
      whole n h other none = elim (cases_lt n (length prints)) [
        | inl less ↦ seated.whole n less (λ is. other (same n less ∙ is)) (fewer n none)
        | inr not ↦ (
            let is : n ≡ length prints = omega (arith, long, h, not) in
            here (subst (λ k. All (λ m. m ≡ k → ⊥) order') is none))
      ]

-- ---- twice as many slots

-- half of an index among twice as many is the index
halved : (f shift : ℕ) → f / 2 ^ (shift + 1) ≡ f / 2 ^ shift / 2
halved f shift = ap (λ k. f / k) (pow-add 2 shift 1) ∙ sym (div-div-eq-div-mul f (2 ^ shift) 2)

pub seated-doubled : (prints order : List ℕ) (old new : Slots) → length prints < 65535 → AreSeated prints old order → AreFirst prints (length prints) new → old.shift ≡ new.shift + 1 → AreSeated prints new order
seated-doubled prints order old new few seated firsts shift = record { first = firsts.first; whole = whole }
  where
    f : ℕ → ℕ
    f n = get_or prints n 0

    half : (n : ℕ) → slot_of old (f n) ≡ slot_of new (f n) / 2
    half n = ap (λ k. f n / 2 ^ k) shift ∙ halved (f n) new.shift

    -- who shares a slot now did so before
    shared : (k n : ℕ) → slot_of new (f k) ≡ slot_of new (f n) → told old (f n) ≡ told old (f k)
    shared k n e = ap (λ i. get_or old.numbers.items i 0) (half n ∙ ap (λ i. i / 2) (sym e) ∙ sym (half k))

    owned : (n : ℕ) → n < length prints → slot_of new (f (told new (f n))) ≡ slot_of new (f n)
    owned n h = elim (firsts.own (slot_of new (f n)) (firsts.within n h)) [
      | inl free ↦ (let low = firsts.first n h in absurd (omega (arith, free, low, h, few)))
      | inr own ↦ own.1
    ]

    whole : (n : ℕ) → n < length prints → told new (f n) ≢ n → All (λ m. m ≡ n → ⊥) order → ⊥
    whole n h other = elim (cases_order (told new (f n)) n) [
      | inl is ↦ absurd (other is)
      | inr far ↦ elim far [
        | inl less ↦ (
            let k = told new (f n) in
            let e : told old (f n) ≡ told old (f k) = shared k n (owned n h) in
            let low : told old (f k) ≤ k = seated.first k (omega (arith, less, h)) in
            seated.whole n h (λ is. absurd (omega (arith, e, low, less, is))))
        | inr more ↦ (let low = firsts.first n h in absurd (omega (arith, low, more)))
      ]
    ]

-- ---- the first of each slot

pub first-none : (prints : List ℕ) (s : Slots) → AreFree s → AreFirst prints 0 s
first-none prints s e = record {
  whole = e.whole;
  within = λ n h. absurd (omega (arith, h));
  first = λ n h. absurd (omega (arith, h));
  own = λ i h. inl (e.free i h);
}

module _ (prints : List ℕ) (count : ℕ) (old new : Slots) (f : ℕ) (shift : new.shift ≡ old.shift) (small : old.shift < 64) (bound : f < 2 ^ 64) (is : get_or prints count 0 ≡ f) (firsts : AreFirst prints count old) where
  here : slot_of old f < length old.numbers.items
  here =
      let e : 64 - old.shift + old.shift ≡ 64 = omega (arith, small) in
      subst (λ n. slot_of old f < n) (sym firsts.whole) (shr_lt (64 - old.shift) old.shift (subst (λ k. f < 2 ^ k) (sym e) bound))

  falls : (n : ℕ) → n < count + 1 → slot_of old (get_or prints n 0) < length old.numbers.items
  falls n h = elim (cases_lt n count) [
    | inl less ↦ firsts.within n less
    | inr not ↦ (let e : n ≡ count = omega (arith, h, not) in subst (λ k. slot_of old (get_or prints k 0) < length old.numbers.items) (sym e) (subst (λ g. slot_of old g < length old.numbers.items) (sym is) here))
  ]

  first-left : told old f ≤ count → new.numbers.items ≡ old.numbers.items → AreFirst prints (count + 1) new
  first-left low e = record {
    whole = ap length e ∙ firsts.whole ∙ ap (λ k. 2 ^ (64 - k)) (sym shift);
    within = λ n h. subst (λ i. i < length new.numbers.items) (sym (slot-same old new shift (get_or prints n 0))) (subst (λ xs. slot_of old (get_or prints n 0) < length xs) (sym e) (falls n h));
    first = λ n h. elim (cases_lt n count) [
      | inl less ↦ (let t = told-same old new shift (get_or prints n 0) e in let b = firsts.first n less in omega (arith, t, b))
      | inr not ↦ (
          let c : n ≡ count = omega (arith, h, not) in
          let t : told new (get_or prints n 0) ≡ told old f = told-same old new shift (get_or prints n 0) e ∙ ap (λ k. told old (get_or prints k 0)) c ∙ ap (told old) is in
          omega (arith, t, low, c))
    ];
    own = λ i h. (
        let v : get_or new.numbers.items i 0 ≡ get_or old.numbers.items i 0 = ap (λ xs. get_or xs i 0) e in
        subst (λ n. IsOwn prints (count + 1) new i n) (sym v) (weaker i (get_or old.numbers.items i 0) (firsts.own i (subst (λ xs. i < length xs) e h))));
  }
    where
      weaker : (i n : ℕ) → IsOwn prints count old i n → IsOwn prints (count + 1) new i n
      weaker i n own = elim own [
        | inl free ↦ inl free
        | inr o ↦ inr (omega (arith, o.0), slot-same old new shift (get_or prints n 0) ∙ o.1)
      ]

  first-taken : count < told old f → new.numbers.items ≡ set old.numbers.items (slot_of old f) count → AreFirst prints (count + 1) new
  first-taken free e = record { whole = ap length e ∙ length-set old.numbers.items (slot_of old f) count ∙ firsts.whole ∙ ap (λ k. 2 ^ (64 - k)) (sym shift); within = within; first = first; own = own }
    where
      long : length new.numbers.items ≡ length old.numbers.items
      long = ap length e ∙ length-set old.numbers.items (slot_of old f) count

      within : (n : ℕ) → n < count + 1 → slot_of new (get_or prints n 0) < length new.numbers.items
      within n h = subst (λ i. i < length new.numbers.items) (sym (slot-same old new shift (get_or prints n 0))) (subst (λ k. slot_of old (get_or prints n 0) < k) (sym long) (falls n h))

      first : (n : ℕ) → n < count + 1 → told new (get_or prints n 0) ≤ n
      first n h = elim (cases_lt n count) [
        | inl less ↦ (
            let low = firsts.first n less in
            let t = told-other old new shift f count e (get_or prints n 0) (apart old new shift f count e (get_or prints n 0) n free low less) in
            omega (arith, t, low))
        | inr not ↦ (
            let c : n ≡ count = omega (arith, h, not) in
            let t : told new (get_or prints n 0) ≡ count = ap (λ k. told new (get_or prints k 0)) c ∙ ap (told new) is ∙ told-own old new shift f count e here in
            omega (arith, t, c))
      ]

      own : (i : ℕ) → i < length new.numbers.items → IsOwn prints (count + 1) new i (get_or new.numbers.items i 0)
      own i h = elim (cases_order i (slot_of old f)) [
        | inl at ↦ (
            let v : get_or new.numbers.items i 0 ≡ count = ap (λ xs. get_or xs i 0) e ∙ ap (λ j. get_or (set old.numbers.items (slot_of old f) count) j 0) at ∙ get_or-set_same old.numbers.items (slot_of old f) count 0 here in
            subst (λ n. IsOwn prints (count + 1) new i n) (sym v) (inr (omega arith, slot-same old new shift (get_or prints count 0) ∙ ap (slot_of old) is ∙ sym at)))
        | inr far ↦ (
            let v : get_or new.numbers.items i 0 ≡ get_or old.numbers.items i 0 = ap (λ xs. get_or xs i 0) e ∙ get_or-set_other old.numbers.items (slot_of old f) i count 0 (apart_from far) in
            subst (λ n. IsOwn prints (count + 1) new i n) (sym v) (weaker i (get_or old.numbers.items i 0) (firsts.own i (subst (λ k. i < k) long h))))
      ]
        where
          apart_from : (i < slot_of old f) ⊎ (slot_of old f < i) → i ≢ slot_of old f
          apart_from far at = elim far [ inl less ↦ absurd (omega (arith, less, at)) | inr more ↦ absurd (omega (arith, more, at)) ]

          weaker : (i n : ℕ) → IsOwn prints count old i n → IsOwn prints (count + 1) new i n
          weaker i n own = elim own [
            | inl none ↦ inl none
            | inr o ↦ inr (omega (arith, o.0), slot-same old new shift (get_or prints n 0) ∙ o.1)
          ]

  pub first-more : (b : Bool) → HasTaken old new f count b → AreFirst prints (count + 1) new
  first-more true (HasTaken.taken free e) = first-taken free e
  first-more false (HasTaken.left low e) = first-left low (ap (λ s. s.numbers.items) e)

-- ---- what a slot took

pub took : (old new : Slots) (f n : ℕ) (b : Bool) → HasTaken old new f n b → b ≡ true → (n < told old f) × (new.numbers.items ≡ set old.numbers.items (slot_of old f) n)
took old new f n true (HasTaken.taken free e) is = (free, e)
took old new f n false taken is = absurd (false≢true is)

pub left : (old new : Slots) (f n : ℕ) (b : Bool) → HasTaken old new f n b → b ≡ false → (told old f ≤ n) × (new ≡ old)
left old new f n true taken is = absurd (false≢true (sym is))
left old new f n false (HasTaken.left low e) is = (low, e)
