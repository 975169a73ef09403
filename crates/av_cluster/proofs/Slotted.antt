-- Keys that slots lead to, and a tree where a slot is taken.
use Rattle.std.proofs.Common.{◌≡◌, ◌≢◌, ℕ, zero, suc, ◌<◌, ◌≤◌, ◌+◌, ◌-◌, ◌&&◌, Bool, true, false, cond, List, [], ◌∷◌, ◌++◌, length, get_or, set, Option, Some, None, refl, sym, ap, ◌∙◌, subst, inl, inr, arith, length-append, get_or-set_same, get_or-set_other}
use Rattle.std.specs.Map.{keys_of, lookup}
use Rattle.std.specs.Ordering.{is_eq, int_eq}
use Rattle.std.proofs.lemmas.Bool.{cases_eq}
use Rattle.std.proofs.lemmas.List.{get_or_append_left, get_or_default, get_or-map, length-set}
use Rattle.std.proofs.lemmas.List.Elements.{All-set, All-weaker}
use Rattle.std.proofs.lemmas.Map.Entries.{length-keys_of}
use Rattle.std.proofs.lemmas.Nat.{mod_below}
use Rattle.std.proofs.lemmas.Option.{slice_get_within}
use Rattle.std.proofs.Math.Seq.{get_or-append_seam}
use Rattle.std.proofs.Math.Bool.{and_assoc}
use Rattle.av_cluster.specs.Indices.{key_cmp, slot_of, index_by, index_in, AreIndexed, AreSlots}
use Rattle.av_cluster.specs.Joining.{key_of, same_key}
use Rattle.av_types.specs.declared.position.SectionPos.{SectionPos}
use Rattle.av_cluster.proofs.Indexed.{Key, cmp_tells, key_is, same_laws, found_owner, indexed_more, keys_more}

by_others : (n : ℕ) (ks : List Key) (f g : Key → Option ℕ) (q : Key) → g q ≡ f q → index_by n ks g q ≡ index_by n ks f q
by_others zero ks f g q e = refl
by_others (suc i) ks f g q e = ap (λ r. cond (same_key q (get_or ks i q)) (Some i) r) e

by_more : (n : ℕ) (ks : List Key) (k : Key) (f : Key → Option ℕ) (q : Key) → n ≤ length ks → index_by n (ks ++ k ∷ []) f q ≡ index_by n ks f q
by_more zero ks k f q low = refl
by_more (suc i) ks k f q low = ap (λ x. cond (same_key q x) (Some i) (f q)) (get_or_append_left ks (k ∷ []) q i (omega arith))

-- a key that no slot finds, whose slot is taken, is not the one there
taken : (n : ℕ) (ks : List Key) (k : Key) (f g : Key → Option ℕ) (i : ℕ) → n ≢ 0 → n ≤ length ks → index_by n ks f k ≡ None → g k ≡ Some i → index_by n (ks ++ k ∷ []) g k ≡ Some i
taken zero ks k f g i full low none e = absurd (full refl)
taken (suc j) ks k f g i full low none e = ap (λ x. cond (same_key k x) (Some j) (g k)) (get_or_append_left ks (k ∷ []) k j (omega arith)) ∙ by (same_key k (get_or ks j k)) none where
  by : (b : Bool) → cond b (Some j) (f k) ≡ None → cond b (Some j) (g k) ≡ Some i
  by true h = cc
  by false h = e

-- ---- what a slot leads to

by_found : (n : ℕ) (es : List (Key × ℕ)) (f : Key → Option ℕ) (k : Key) (x : Key × ℕ) → n ≢ 0 → n ≤ length es → x ≡ get_or es (n - 1) x → index_by n (keys_of es) f k ≡ cond (same_key k x.0) (Some (n - 1)) (f k)
by_found zero es f k x some low at = absurd (some refl)
by_found (suc i) es f k x some low at =
    let is : suc i - 1 ≡ i = omega arith in
    let key : get_or (keys_of es) i k ≡ x.0 = get_or-map (λ y. y.0) es i x k (omega arith) ∙ ap (λ n. (get_or es n x).0) (sym is) ∙ ap (λ y. y.0) (sym at) in
    ap (λ y. cond (same_key k y) (Some i) (f k)) key ∙ ap (λ n. cond (same_key k x.0) (Some n) (f k)) (sym is)

-- sections are compared as their keys are
pub compared : (s t : SectionPos) (k : Key) → key_of s ≡ k → int_eq s.x t.x && (int_eq s.y t.y && int_eq s.z t.z) ≡ same_key (key_of t) k
compared s t k e = sym (and_assoc (int_eq s.x t.x) (int_eq s.y t.y) (int_eq s.z t.z)) ∙ same_laws.symm (key_of s) (key_of t) ∙ ap (same_key (key_of t)) e

pub led : (slots : List ℕ) (f : Key → Option ℕ) (es : List (Key × ℕ)) (k : Key) (n : ℕ) (x : Key × ℕ) (b : Bool) → AreSlots slots f es → n ≡ get_or slots (slot_of (length slots) k) 0 → n ≢ 0 → x ≡ get_or es (n - 1) x → same_key k x.0 ≡ b
    → index_in slots (keys_of es) f k ≡ cond b (Some (n - 1)) (f k)
led slots f es k n x b s is some at e =
    let low : n ≤ length es = subst (λ m. m ≤ length es) (sym is) (s.within (slot_of (length slots) k) 0 (mod_below _ (length slots) s.some)) in
    ap (λ m. index_by m (keys_of es) f k) (sym is) ∙ by_found n es f k x some low at ∙ ap (λ c. cond c (Some (n - 1)) (f k)) e

-- ---- one more key

module _ (slots : List ℕ) (f : Key → Option ℕ) (es : List (Key × ℕ)) (k : Key) (o : ℕ) (s : AreSlots slots f es) (none : lookup (same_key k) es ≡ None) where
  abbrev a : AreIndexed (index_in slots (keys_of es) f) es
  a = s.indexed

  abbrev ks : List Key
  ks = keys_of es

  abbrev slot : Key → ℕ
  slot q = slot_of (length slots) q

  in_slots : (q : Key) → slot q < length slots
  in_slots q = mod_below _ (length slots) s.some

  within_at : (q : Key) → get_or slots (slot q) 0 ≤ length ks
  within_at q = omega (arith, s.within (slot q) 0 (in_slots q), length-keys_of es)

  -- the key was not found
  fresh : index_in slots ks f k ≡ None
  fresh = by (index_in slots ks f k) refl where
    by : (r : Option ℕ) → index_in slots ks f k ≡ r → r ≡ None
    by None e = refl
    by (Some i) e =
        let x = get_or es i (k, 0) in
        let low = slice_get_within ks i k (a.found k i e) in
        let there = found_owner (index_in slots ks f) es k i x a e (get_or_default es i (k, 0) x (omega (arith, low, length-keys_of es))) in
        let no : None ≡ Some x.1 = sym none ∙ there in cc

  same : (q : Key) → same_key k q ≡ true → k ≡ q
  same q e = key_is k q e

  -- ---- the slot is taken, and the tree has the key

  module _ (g : Key → Option ℕ) (full : get_or slots (slot k) 0 ≢ 0) (says : (q : Key) → g q ≡ cond (is_eq (key_cmp k q)) (Some (length es)) (f q)) where
    told : (q : Key) (b : Bool) → same_key k q ≡ b → g q ≡ cond b (Some (length es)) (f q)
    told q b e = says q ∙ ap (λ c. cond c (Some (length es)) (f q)) (cmp_tells k q ∙ e)

    index_full : (q : Key) → index_in slots (ks ++ k ∷ []) g q ≡ cond (same_key k q) (Some (length es)) (index_in slots ks f q)
    index_full q = by (same_key k q) refl where
      by : (b : Bool) → same_key k q ≡ b → index_in slots (ks ++ k ∷ []) g q ≡ cond b (Some (length es)) (index_in slots ks f q)
      by true e =
          let own = taken (get_or slots (slot k) 0) ks k f g (length es) full (within_at k) fresh (told k true (same_laws.refl k)) in
          subst (λ p. index_in slots (ks ++ k ∷ []) g p ≡ Some (length es)) (same q e) own
      by false e = by_more (get_or slots (slot q) 0) ks k g q (within_at q) ∙ by_others (get_or slots (slot q) 0) ks f g q (told q false e)

    pub slots_full : AreSlots slots g (es ++ (k, o) ∷ [])
    slots_full = record {
      some = s.some;
      within = All-weaker (λ n. n ≤ length es) (λ n. n ≤ length (es ++ (k, o) ∷ [])) (λ n low. omega (arith, low, length-append es ((k, o) ∷ []))) slots s.within;
      free = λ q e. free q e (same_key k q) refl;
      indexed = subst (λ l. AreIndexed (index_in slots l g) (es ++ (k, o) ∷ [])) (sym (keys_more (index_in slots ks f) (index_in slots (ks ++ k ∷ []) g) es k o a none index_full)) (indexed_more (index_in slots ks f) (index_in slots (ks ++ k ∷ []) g) es k o a none index_full);
    }
      where
        free : (q : Key) → get_or slots (slot q) 0 ≡ 0 → (b : Bool) → same_key k q ≡ b → g q ≡ None
        free q e true h = absurd (full (ap (λ p. get_or slots (slot p) 0) (same q h) ∙ e))
        free q e false h = told q false h ∙ s.free q e

  -- ---- the slot is free, and has the key

  module _ (empty : get_or slots (slot k) 0 ≡ 0) where
    abbrev now : List ℕ
    now = set slots (slot k) (length es + 1)

    long : length now ≡ length slots
    long = length-set slots (slot k) (length es + 1)

    here : (q : Key) → slot q ≡ slot k → get_or now (slot q) 0 ≡ length es + 1
    here q e = ap (λ p. get_or now p 0) e ∙ get_or-set_same slots (slot k) (length es + 1) 0 (in_slots k)

    there : (q : Key) → slot q ≢ slot k → get_or now (slot q) 0 ≡ get_or slots (slot q) 0
    there q ne = get_or-set_other slots (slot k) (slot q) (length es + 1) 0 ne

    index_now : (q : Key) → index_by (get_or now (slot q) 0) (ks ++ k ∷ []) f q ≡ cond (same_key k q) (Some (length es)) (index_in slots ks f q)
    index_now q = elim (cases_eq (slot q) (slot k)) [
      | inl e ↦ (
          let zero_at : get_or slots (slot q) 0 ≡ 0 = ap (λ p. get_or slots p 0) e ∙ empty in
          let next : get_or now (slot q) 0 ≡ suc (length es) = here q e ∙ omega arith in
          let last : get_or (ks ++ k ∷ []) (length es) q ≡ k = ap (λ n. get_or (ks ++ k ∷ []) n q) (sym (length-keys_of es)) ∙ get_or-append_seam ks k [] q in
          ap (λ n. index_by n (ks ++ k ∷ []) f q) next ∙ ap (λ x. cond (same_key q x) (Some (length es)) (f q)) last
          ∙ ap (λ b. cond b (Some (length es)) (f q)) (same_laws.symm q k) ∙ ap (λ r. cond (same_key k q) (Some (length es)) r) (s.free q zero_at)
          ∙ ap (λ n. cond (same_key k q) (Some (length es)) (index_by n ks f q)) (sym zero_at))
      | inr ne ↦ (
          let apart : same_key k q ≡ false = differ q ne (same_key k q) refl in
          ap (λ n. index_by n (ks ++ k ∷ []) f q) (there q ne) ∙ by_more (get_or slots (slot q) 0) ks k f q (within_at q)
          ∙ ap (λ b. cond b (Some (length es)) (index_in slots ks f q)) (sym apart))
    ]
      where
        differ : (q : Key) → slot q ≢ slot k → (b : Bool) → same_key k q ≡ b → b ≡ false
        differ q ne true e = absurd (ne (ap slot (sym (same q e))))
        differ q ne false e = refl

    index_free : (q : Key) → index_in now (ks ++ k ∷ []) f q ≡ cond (same_key k q) (Some (length es)) (index_in slots ks f q)
    index_free q = ap (λ n. index_by (get_or now (slot_of n q) 0) (ks ++ k ∷ []) f q) long ∙ index_now q

    pub slots_free : AreSlots now f (es ++ (k, o) ∷ [])
    slots_free = record {
      some = omega (arith, long, s.some);
      within = All-set (λ n. n ≤ length (es ++ (k, o) ∷ [])) slots (slot k) (length es + 1) (omega (arith, length-append es ((k, o) ∷ []))) (All-weaker (λ n. n ≤ length es) (λ n. n ≤ length (es ++ (k, o) ∷ [])) (λ n low. omega (arith, low, length-append es ((k, o) ∷ []))) slots s.within);
      free = λ q e. free q (ap (λ n. get_or now (slot_of n q) 0) (sym long) ∙ e);
      indexed = subst (λ l. AreIndexed (index_in now l f) (es ++ (k, o) ∷ [])) (sym (keys_more (index_in slots ks f) (index_in now (ks ++ k ∷ []) f) es k o a none index_free)) (indexed_more (index_in slots ks f) (index_in now (ks ++ k ∷ []) f) es k o a none index_free);
    }
      where
        free : (q : Key) → get_or now (slot q) 0 ≡ 0 → f q ≡ None
        free q e = elim (cases_eq (slot q) (slot k)) [
          | inl h ↦ absurd (omega (arith, here q h, e))
          | inr ne ↦ s.free q (sym (there q ne) ∙ e)
        ]
