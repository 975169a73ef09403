-- Sections in a list by their keys, and where each is said to stand.
use Rattle.std.proofs.Common.{◌≡◌, ℕ, ℤ, ◌<◌, ◌+◌, Bool, true, false, cond, ◌&&◌, List, [], ◌∷◌, ◌++◌, length, get_or, slice_get, Option, Some, None, Less, Equal, Greater, refl, sym, ap, ◌∙◌, subst, arith, length-append}
use Rattle.std.specs.Cmp.{IsEquivalence}
use Rattle.std.specs.List.{AllPairs, IsDistinct}
use Rattle.std.specs.Map.{keys_of, lookup}
use Rattle.std.specs.declared.cmp.Ordering.{Ordering}
use Rattle.std.specs.Ordering.{int_cmp, int_eq, is_eq, ordering_then}
use Rattle.std.proofs.lemmas.Cmp.{int_eq_equiv, on_equiv, and_equiv}
use Rattle.std.proofs.lemmas.List.{map-append, get_or-map, get_or_append_left, get_or_default}
use Rattle.std.proofs.lemmas.List.Edits.{insert_end}
use Rattle.std.proofs.lemmas.List.Quantifiers.{all_pairs_push}
use Rattle.std.proofs.lemmas.Map.{lookup-insert, none_passes_from_lookup}
use Rattle.std.proofs.lemmas.Map.Entries.{lookup_from_place, length-keys_of}
use Rattle.std.proofs.lemmas.Map.Keys.{IsDistinct-from_apart}
use Rattle.std.proofs.lemmas.Option.{slice_get-get_or, slice_get_within, get_or_from_slice_get}
use Rattle.std.proofs.Math.Seq.{get_or-append_seam}
use Rattle.av_types.specs.declared.position.SectionPos.{SectionPos}
use Rattle.av_cluster.specs.Indices.{key_cmp, AreIndexed}
use Rattle.av_cluster.specs.Joining.{key_of, same_key, owner_in}
use Rattle.av_cluster.proofs.Joinings.{same_keyed}

abbrev pub Key : Type 0
Key = ℤ × ℤ × ℤ

tied : (a b : Ordering) → is_eq (ordering_then a b) ≡ is_eq a && is_eq b
tied Less b = refl
tied Equal b = refl
tied Greater b = refl

-- the order tells keys apart
pub cmp_tells : (a b : Key) → is_eq (key_cmp a b) ≡ same_key a b
cmp_tells a b = tied (ordering_then (int_cmp a.0 b.0) (int_cmp a.1 b.1)) (int_cmp a.2 b.2) ∙ ap (λ t. t && int_eq a.2 b.2) (tied (int_cmp a.0 b.0) (int_cmp a.1 b.1))

pub same_laws : IsEquivalence same_key
same_laws = and_equiv (and_equiv (on_equiv (λ t. t.0) int_eq_equiv) (on_equiv (λ t. t.1) int_eq_equiv)) (on_equiv (λ t. t.2) int_eq_equiv)

pub key_is : (a b : Key) → same_key a b ≡ true → a ≡ b
key_is a b e = ap key_of (same_keyed (record { x = a.0; y = a.1; z = a.2 }) (record { x = b.0; y = b.1; z = b.2 }) e)

pub are_distinct : (ks : List Key) → AllPairs (λ a b. same_key a b ≡ false) ks → IsDistinct same_key ks
are_distinct ks h = IsDistinct-from_apart same_key ks (λ i j d l m. h i j d l m)

-- the entry at an index is the one that is found by its key
pub stands : (es : List (Key × ℕ)) (i : ℕ) (x : Key × ℕ) → IsDistinct same_key (keys_of es) → i < length es → x ≡ get_or es i x → lookup (same_key x.0) es ≡ Some x.1
stands es i x h low at = lookup_from_place same_laws es i x.0 x.1 h (slice_get-get_or es i x low ∙ ap Some (sym at))

pub entry_owner : (es fs : List (Key × ℕ)) (i : ℕ) (d : Key × ℕ) (s : SectionPos) → fs ≡ es → IsDistinct same_key (keys_of es) → i < length fs → key_of s ≡ (get_or fs i d).0 → owner_in es s ≡ Some (get_or fs i d).1
entry_owner es fs i d s e h low key =
    let x = get_or fs i d in
    let within : i < length es = subst (λ l. i < length l) e low in
    ap (λ q. lookup (same_key q) es) key ∙ stands es i x h within (ap (λ l. get_or l i d) e ∙ get_or_default es i d x within)

-- and it is where its key is said to stand
pub found_there : (f : Key → Option ℕ) (es : List (Key × ℕ)) (k : Key) (i : ℕ) → AreIndexed f es → f k ≡ Some i → i < length es
found_there f es k i a e = omega (arith, slice_get_within (keys_of es) i k (a.found k i e), length-keys_of es)

pub found_owner : (f : Key → Option ℕ) (es : List (Key × ℕ)) (k : Key) (i : ℕ) (x : Key × ℕ) → AreIndexed f es → f k ≡ Some i → x ≡ get_or es i x → lookup (same_key k) es ≡ Some x.1
found_owner f es k i x a e at =
    let low = found_there f es k i a e in
    let key : x.0 ≡ k = ap (λ y. y.0) at ∙ sym (get_or-map (λ y. y.0) es i x x.0 low) ∙ get_or_from_slice_get (keys_of es) i k x.0 (a.found k i e) in
    ap (λ q. lookup (same_key q) es) (sym key) ∙ stands es i x (are_distinct (keys_of es) a.distinct) low at

-- ---- one more

pub lookup_pushed : (es : List (Key × ℕ)) (k : Key) (o : ℕ) (q : Key) → lookup (same_key k) es ≡ None → lookup (same_key q) (es ++ (k, o) ∷ []) ≡ cond (same_key k q) (Some o) (lookup (same_key q) es)
lookup_pushed es k o q none = ap (lookup (same_key q)) (sym (insert_end es (k, o))) ∙ lookup-insert same_laws k o q es (length es) (none_passes_from_lookup (same_key k) es none)

module _ (f g : Key → Option ℕ) (es : List (Key × ℕ)) (k : Key) (o : ℕ) (a : AreIndexed f es) (none : lookup (same_key k) es ≡ None) (says : (q : Key) → g q ≡ cond (same_key k q) (Some (length es)) (f q)) where
  pub keys_more : keys_of (es ++ (k, o) ∷ []) ≡ keys_of es ++ k ∷ []
  keys_more = map-append (λ x. x.0) es ((k, o) ∷ [])

  given : (q : Key) (b : Bool) → same_key k q ≡ b → g q ≡ cond b (Some (length es)) (f q)
  given q b e = says q ∙ ap (λ c. cond c (Some (length es)) (f q)) e

  -- no key before is the new one
  apart : (i : ℕ) (d : Key) → i < length (keys_of es) → same_key (get_or (keys_of es) i d) k ≡ false
  apart i d low = by (same_key (get_or (keys_of es) i d) k) refl where
    by : (b : Bool) → same_key (get_or (keys_of es) i d) k ≡ b → b ≡ false
    by false e = refl
    by true e =
        let within : i < length es = omega (arith, low, length-keys_of es) in
        let x = get_or es i (d, 0) in
        let key : x.0 ≡ k = sym (get_or-map (λ y. y.0) es i (d, 0) d within) ∙ key_is (get_or (keys_of es) i d) k e in
        let there : lookup (same_key k) es ≡ Some x.1 = ap (λ q. lookup (same_key q) es) (sym key) ∙ stands es i x (are_distinct (keys_of es) a.distinct) within (get_or_default es i (d, 0) x within) in
        let no : None ≡ Some x.1 = sym none ∙ there in cc

  found_more : (q : Key) (i : ℕ) → g q ≡ Some i → slice_get (keys_of es ++ k ∷ []) i ≡ Some q
  found_more q i h = by (same_key k q) refl where
    longer : length (keys_of es ++ k ∷ []) ≡ length es + 1
    longer = length-append (keys_of es) (k ∷ []) ∙ ap (λ n. n + 1) (length-keys_of es)

    by : (b : Bool) → same_key k q ≡ b → slice_get (keys_of es ++ k ∷ []) i ≡ Some q
    by true e =
        let last : i ≡ length (keys_of es) = (let n = given q true e in let m : length es ≡ i = cc in sym m ∙ sym (length-keys_of es)) in
        slice_get-get_or (keys_of es ++ k ∷ []) i k (omega (arith, last, longer, length-keys_of es))
        ∙ ap Some (ap (λ n. get_or (keys_of es ++ k ∷ []) n k) last ∙ get_or-append_seam (keys_of es) k [] k ∙ key_is k q e)
    by false e =
        let old = a.found q i (sym (given q false e) ∙ h) in
        let low = slice_get_within (keys_of es) i q old in
        slice_get-get_or (keys_of es ++ k ∷ []) i q (omega (arith, low, longer, length-keys_of es))
        ∙ ap Some (get_or_append_left (keys_of es) (k ∷ []) q i low ∙ get_or_from_slice_get (keys_of es) i q q old)

  missing_more : (q : Key) → g q ≡ None → lookup (same_key q) (es ++ (k, o) ∷ []) ≡ None
  missing_more q h = by (same_key k q) refl where
    by : (b : Bool) → same_key k q ≡ b → lookup (same_key q) (es ++ (k, o) ∷ []) ≡ None
    by true e = let n = given q true e in cc
    by false e = lookup_pushed es k o q none ∙ ap (λ c. cond c (Some o) (lookup (same_key q) es)) e ∙ a.missing q (sym (given q false e) ∙ h)

  pub indexed_more : AreIndexed g (es ++ (k, o) ∷ [])
  indexed_more = record {
    distinct = subst (AllPairs (λ x y. same_key x y ≡ false)) (sym keys_more) (all_pairs_push (λ x y. same_key x y ≡ false) (keys_of es) k a.distinct apart);
    found = λ q i h. ap (λ ks. slice_get ks i) keys_more ∙ found_more q i h;
    missing = missing_more;
  }
