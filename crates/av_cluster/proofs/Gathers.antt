-- Entries put into parts.
use Rattle.std.proofs.Common.{◌≡◌, ℕ, zero, suc, ◌+◌, ◌-◌, ◌<◌, ◌≤◌, nat_eq, Bool, true, false, cond, List, [], ◌∷◌, ◌++◌, length, take, filter, map, get_or, set, slice_get, Some, ◌⊎◌, inl, inr, refl, sym, ap, ◌∙◌, subst, arith}
use Rattle.std.proofs.lemmas.List.{append-nil, length-map, map-set, get_or-map, get_or_append_left, get_or_push, get_or_past}
use Rattle.std.proofs.lemmas.List.Elements.{filter-append}
use Rattle.std.proofs.Math.Seq.{map-set_same, take-length}
use Rattle.std.proofs.lemmas.Bool.{cases_lt, cases_eq, ne_eqb, eq-eqb}
use Rattle.av_types.specs.declared.tick.Entry.{Entry}
use Rattle.av_play.specs.declared.event.DueEntry.{DueEntry}
use Rattle.av_cells.specs.World.{World}
use Rattle.av_play.specs.Parts.{numbered, part_at, IsPlan}
use Rattle.av_play.specs.Labels.{AreLabelled}
use Rattle.av_play.specs.Groups.{AreFirst, rank, grouped}
use Rattle.av_play.proofs.Lists.{take_one_more}
use Rattle.av_play.proofs.Groups.{labels_plan}
use Rattle.av_cluster.specs.Gathering.{part_by, IsGathered, AreAlone}
use Rattle.av_cluster.specs.Forest.{first, IsFalling, AreSame}
use Rattle.av_cluster.proofs.Forests.{first_below, first_twice, first_of_own}

-- a list that grows at its end
length_push : {X : Type 0} (xs : List X) (y : X) → length (xs ++ y ∷ []) ≡ suc (length xs)
length_push [] y = refl
length_push (x ∷ xs) y = ap suc (length_push xs y)

pub alone_none : AreAlone [] 0
alone_none = record { count = refl; own = λ k l. absurd (omega arith) }

pub alone_more : (ps qs : List ℕ) (n m : ℕ) → AreAlone ps n → qs ≡ ps ++ n ∷ [] → m ≡ suc n → AreAlone qs m
alone_more ps qs n m h e g = record { count = ap length e ∙ length_push ps n ∙ ap suc h.count ∙ sym g; own = λ k l. ap (λ xs. get_or xs k 0) e ∙ by k (cases_eq k n) (omega arith) } where
  by : (k : ℕ) → (k ≡ n) ⊎ (¬ (k ≡ n)) → k ≤ n → get_or (ps ++ n ∷ []) k 0 ≡ k
  by k (inl f) l = get_or_push ps n 0 k (sym (f ∙ sym h.count)) ∙ sym f
  by k (inr f) l = let c = h.count in get_or_append_left ps (n ∷ []) 0 k (omega arith) ∙ h.own k (omega arith)

pub alone_falling : (ps : List ℕ) (n : ℕ) → AreAlone ps n → IsFalling ps
alone_falling ps n h i = by (cases_eq (n - i) 0) where
  by : (n - i ≡ 0) ⊎ (¬ (n - i ≡ 0)) → get_or ps i 0 ≤ i
  by (inl f) = let c = h.count in let g = get_or_past ps i 0 (omega arith) in omega arith
  by (inr f) = let g = h.own i (omega arith) in omega arith

pub alone_first : (ps : List ℕ) (n : ℕ) → AreAlone ps n → (k : ℕ) → k < n → first ps k ≡ k
alone_first ps n h k l = first_of_own ps k (h.own k l)

-- ranks
rank_one_more : (label : ℕ → ℕ) (i : ℕ) → rank label i ≤ rank label (suc i)
rank_one_more label i = by (nat_eq (label i) i) where
  by : (b : Bool) → rank label i ≤ cond b (suc (rank label i)) (rank label i)
  by true = omega arith
  by false = omega arith

rank_rises : (label : ℕ → ℕ) (i d : ℕ) → rank label i ≤ rank label (d + i)
rank_rises label i zero = let e : i ≡ 0 + i = omega arith in subst (λ j. rank label i ≤ rank label j) e (omega arith)
rank_rises label i (suc d) = let e : suc (d + i) ≡ suc d + i = omega arith in let f = rank_rises label i d in let g = rank_one_more label (d + i) in subst (λ j. rank label i ≤ rank label j) e (omega arith)

rank_of_first : (label : ℕ → ℕ) (i : ℕ) → label i ≡ i → rank label (suc i) ≡ suc (rank label i)
rank_of_first label i e = ap (λ j. cond (nat_eq j i) (suc (rank label i)) (rank label i)) e ∙ ap (λ b. cond b (suc (rank label i)) (rank label i)) (eq-eqb i i refl)

rank_of_other : (label : ℕ → ℕ) (i : ℕ) → ¬ (label i ≡ i) → rank label (suc i) ≡ rank label i
rank_of_other label i f = ap (λ b. cond b (suc (rank label i)) (rank label i)) (ne_eqb (label i) i f)

rank_below : (label : ℕ → ℕ) (i j : ℕ) → label i ≡ i → i < j → rank label i < rank label j
rank_below label i j e l =
    let s = rank_of_first label i e in
    let f : (j - suc i) + suc i ≡ j = omega arith in
    let r : rank label (suc i) ≤ rank label j = subst (λ m. rank label (suc i) ≤ rank label m) f (rank_rises label (suc i) (j - suc i)) in
    omega arith

-- one more entry of a part
module _ (p : ℕ → ℕ) (xs : List DueEntry) (x : DueEntry) where
  group_other : (n : ℕ) → nat_eq (p x.index) n ≡ false → filter (λ y. nat_eq (p y.index) n) (xs ++ x ∷ []) ≡ filter (λ y. nat_eq (p y.index) n) xs
  group_other n e =
      filter-append (λ (y : DueEntry). nat_eq (p y.index) n) xs (x ∷ []) ∙ ap (λ b. filter (λ (y : DueEntry). nat_eq (p y.index) n) xs ++ cond b (x ∷ []) []) e ∙ append-nil (filter (λ (y : DueEntry). nat_eq (p y.index) n) xs)

  group_own : (n : ℕ) → nat_eq (p x.index) n ≡ true → filter (λ y. nat_eq (p y.index) n) (xs ++ x ∷ []) ≡ filter (λ y. nat_eq (p y.index) n) xs ++ x ∷ []
  group_own n e = filter-append (λ (y : DueEntry). nat_eq (p y.index) n) xs (x ∷ []) ∙ ap (λ b. filter (λ (y : DueEntry). nat_eq (p y.index) n) xs ++ cond b (x ∷ []) []) e

  grouped_others : (from count : ℕ) → ((n : ℕ) → from ≤ n → n < from + count → nat_eq (p x.index) n ≡ false) → grouped p (xs ++ x ∷ []) from count ≡ grouped p xs from count
  grouped_others from zero h = refl
  grouped_others from (suc count) h = λ i. group_other from (h from (omega arith) (omega arith)) i ∷ grouped_others (suc from) count (λ n l m. h n (omega arith) (omega arith)) i

  grouped_own : (from count j : ℕ) → j < count → p x.index ≡ from + j → grouped p (xs ++ x ∷ []) from count ≡ set (grouped p xs from count) j (get_or (grouped p xs from count) j [] ++ x ∷ [])
  grouped_own from zero j l e = absurd (omega arith)
  grouped_own from (suc count) zero l e =
      λ i. group_own from (let f : p x.index ≡ from = omega arith in ap (λ m. nat_eq m from) f ∙ eq-eqb from from refl) i ∷ grouped_others (suc from) count (λ n a b. ne_eqb (p x.index) n (λ f. omega arith)) i
  grouped_own from (suc count) (suc j) l e =
      λ i. group_other from (ne_eqb (p x.index) from (λ f. omega arith)) i ∷ grouped_own (suc from) count j (omega arith) (omega arith) i

grouped_next : (p : ℕ → ℕ) (xs : List DueEntry) (from count : ℕ) → grouped p xs from (suc count) ≡ grouped p xs from count ++ filter (λ y. nat_eq (p y.index) (from + count)) xs ∷ []
grouped_next p xs from zero = let e : from ≡ from + 0 = omega arith in ap (λ n. filter (λ (y : DueEntry). nat_eq (p y.index) n) xs ∷ []) e
grouped_next p xs from (suc count) = let e : suc from + count ≡ from + suc count = omega arith in ap (λ l. filter (λ (y : DueEntry). nat_eq (p y.index) from) xs ∷ l) (grouped_next p xs (suc from) count ∙ ap (λ n. grouped p xs (suc from) count ++ filter (λ (y : DueEntry). nat_eq (p y.index) n) xs ∷ []) e)

length_grouped : (p : ℕ → ℕ) (xs : List DueEntry) (from count : ℕ) → length (grouped p xs from count) ≡ count
length_grouped p xs from zero = refl
length_grouped p xs from (suc count) = ap suc (length_grouped p xs (suc from) count)

-- of the entries before an index none has a number as great as its rank
none_of : (p : ℕ → ℕ) (m r n : ℕ) (es : List Entry) → ((k : ℕ) → m ≤ k → k < m + n → p k < r) → filter (λ (y : DueEntry). nat_eq (p y.index) r) (take n (numbered m es)) ≡ []
none_of p m r zero es h = refl
none_of p m r (suc n) [] h = refl
none_of p m r (suc n) (e ∷ es) h =
    let l = h m (omega arith) (omega arith) in
    ap (λ b. cond b (record { index = m; entry = e } ∷ filter (λ (y : DueEntry). nat_eq (p y.index) r) (take n (numbered (suc m) es))) (filter (λ (y : DueEntry). nat_eq (p y.index) r) (take n (numbered (suc m) es)))) (ne_eqb (p m) r (λ f. omega arith))
    ∙ none_of p (suc m) r n es (λ k a b. h k (omega arith) (omega arith))

module _ (es : List Entry) (label : ℕ → ℕ) (firsts : AreFirst (length es) label) (n : ℕ) (numbers : List ℕ) (parts : List (List DueEntry)) (h : IsGathered es label n numbers parts) (x : DueEntry) (there : slice_get (numbered 0 es) n ≡ Some x) (index : x.index ≡ n) (inside : n < length es) where
  part_below : (k : ℕ) → k < n → part_by label k < rank label n
  part_below k l = let f = firsts k (omega arith) in let a = f.0 in rank_below label (label k) n f.1 (omega arith)

  next_all : take (suc n) (numbered 0 es) ≡ take n (numbered 0 es) ++ x ∷ []
  next_all = take_one_more (numbered 0 es) n x there

  pub count_parts : length parts ≡ rank label n
  count_parts = ap length h.parts_are ∙ length_grouped (part_by label) (take n (numbered 0 es)) 0 (rank label n)

  numbers_next : (c : ℕ) → c ≡ part_by label n → (k : ℕ) → k < suc n → get_or (numbers ++ c ∷ []) k 0 ≡ part_by label k
  numbers_next c e k l = by (cases_eq k n) where
    by : (k ≡ n) ⊎ (¬ (k ≡ n)) → get_or (numbers ++ c ∷ []) k 0 ≡ part_by label k
    by (inl f) = get_or_push numbers c 0 k (sym (f ∙ sym h.count)) ∙ e ∙ ap (part_by label) (sym f)
    by (inr f) = let g = h.count in get_or_append_left numbers (c ∷ []) 0 k (omega arith) ∙ h.numbers_are k (omega arith)

  -- the first entry of a part
  pub gathered_first : label n ≡ n → (c : ℕ) → c ≡ length parts → IsGathered es label (suc n) (numbers ++ c ∷ []) (parts ++ (x ∷ []) ∷ [])
  gathered_first e c g =
      record {
        parts_are = sym (ap (grouped (part_by label) (take (suc n) (numbered 0 es)) 0) (rank_of_first label n e) ∙ ap (λ l. grouped (part_by label) l 0 (suc (rank label n))) next_all ∙ grown ∙ ap (λ l. l ++ (x ∷ []) ∷ []) (sym h.parts_are));
        count = length_push numbers c ∙ ap suc h.count;
        numbers_are = numbers_next c (g ∙ count_parts ∙ ap (rank label) (sym e));
      }
    where
      own : part_by label x.index ≡ rank label n
      own = ap (part_by label) index ∙ ap (rank label) e

      grown : grouped (part_by label) (take n (numbered 0 es) ++ x ∷ []) 0 (suc (rank label n)) ≡ grouped (part_by label) (take n (numbered 0 es)) 0 (rank label n) ++ (x ∷ []) ∷ []
      grown =
          grouped_next (part_by label) (take n (numbered 0 es) ++ x ∷ []) 0 (rank label n)
          ∙ (λ i. grouped_others (part_by label) (take n (numbered 0 es)) x 0 (rank label n) (λ m a b. ne_eqb (part_by label x.index) m (λ f. let o = own in omega arith)) i ++ last i ∷ [])
        where
          last : filter (λ (y : DueEntry). nat_eq (part_by label y.index) (0 + rank label n)) (take n (numbered 0 es) ++ x ∷ []) ≡ x ∷ []
          last =
              let z : 0 + rank label n ≡ rank label n = omega arith in
              group_own (part_by label) (take n (numbered 0 es)) x (0 + rank label n) (ap (λ m. nat_eq m (0 + rank label n)) (own ∙ sym z) ∙ eq-eqb (0 + rank label n) (0 + rank label n) refl)
              ∙ ap (λ l. l ++ x ∷ []) (none_of (part_by label) 0 (0 + rank label n) n es (λ k a b. let r = part_below k (omega arith) in omega arith))

  -- a further entry of a part
  pub gathered_next : ¬ (label n ≡ n) → (c : ℕ) → c ≡ get_or numbers (label n) 0 → (c < length parts) × IsGathered es label (suc n) (numbers ++ c ∷ []) (set parts c (get_or parts c [] ++ x ∷ []))
  gathered_next f c g = (
    let r = count_parts in let s = below in omega arith,
    record {
      parts_are = sym (ap (grouped (part_by label) (take (suc n) (numbered 0 es)) 0) (rank_of_other label n f) ∙ ap (λ l. grouped (part_by label) l 0 (rank label n)) next_all ∙ grouped_own (part_by label) (take n (numbered 0 es)) x 0 (rank label n) c below own ∙ ap (λ l. set l c (get_or l c [] ++ x ∷ [])) (sym h.parts_are));
      count = length_push numbers c ∙ ap suc h.count;
      numbers_are = numbers_next c number;
    },
  )
    where
      before : label n < n
      before = let a = (firsts n inside).0 in omega arith

      number : c ≡ part_by label n
      number = g ∙ h.numbers_are (label n) before ∙ ap (rank label) ((firsts n inside).1)

      below : c < rank label n
      below = let r = rank_below label (label n) n (firsts n inside).1 before in let m = number in omega arith

      own : part_by label x.index ≡ 0 + c
      own = let m = number in let e = ap (part_by label) index in omega arith

pub gathered_none : (es : List Entry) (label : ℕ → ℕ) → IsGathered es label 0 [] []
gathered_none es label = record { parts_are = refl; count = refl; numbers_are = λ k l. absurd (omega arith) }

pub label_below : (es : List Entry) (label : ℕ → ℕ) → AreFirst (length es) label → (n : ℕ) → n < length es → ¬ (label n ≡ n) → label n < n
label_below es label h n l f = let a = (h n l).0 in omega arith

-- one of some structs exchanged, one of whose lists has grown
pub grown_at : {X Z : Type 0} (f : X → List Z) (xs : List X) (i : ℕ) (d new : X) (z : Z) → i < length (map f xs) → d ≡ get_or xs i d → f new ≡ f d ++ z ∷ [] → map f (set xs i new) ≡ set (map f xs) i (get_or (map f xs) i [] ++ z ∷ [])
grown_at f xs i d new z l is e =
    let h : i < length xs = (let m = length-map xs f in omega arith) in
    map-set f xs i new ∙ ap (set (map f xs) i) (e ∙ ap (λ ys. ys ++ z ∷ []) (sym (get_or-map f xs i d [] h ∙ ap f (sym is))))

pub kept_at : {X Y : Type 0} (f : X → Y) (xs : List X) (i : ℕ) (d new : X) → d ≡ get_or xs i d → f new ≡ f d → map f (set xs i new) ≡ map f xs
kept_at f xs i d new is e = map-set_same f xs i new d (e ∙ ap f is)

pub are_first : (ps : List ℕ) → IsFalling ps → (n : ℕ) → AreFirst n (first ps)
are_first ps f n i l = (first_below ps f i, first_twice ps f i)

pub gathered_as : (es : List Entry) (old new : List ℕ) → AreSame old new → (n : ℕ) (numbers : List ℕ) (parts : List (List DueEntry)) → IsGathered es (first new) n numbers parts → IsGathered es (first old) n numbers parts
gathered_as es old new s n numbers parts h = subst (λ (l : ℕ → ℕ). IsGathered es l n numbers parts) (λ i k. s.same_first k i) h

pub gathered_back : (es : List Entry) (old new : List ℕ) → AreSame old new → (n : ℕ) (numbers : List ℕ) (parts : List (List DueEntry)) → IsGathered es (first old) n numbers parts → IsGathered es (first new) n numbers parts
gathered_back es old new s n numbers parts h = subst (λ (l : ℕ → ℕ). IsGathered es l n numbers parts) (λ i k. sym (s.same_first k) i) h

-- a part's number is one of a part
pub numbers_inside : (es : List Entry) (label : ℕ → ℕ) → AreFirst (length es) label → (numbers : List ℕ) (parts : List (List DueEntry)) → IsGathered es label (length es) numbers parts → (k : ℕ) → k < length numbers → get_or numbers k 0 < length parts
numbers_inside es label firsts numbers parts h k l =
    let c = h.count in let m = h.numbers_are k (omega arith) in let f = firsts k (omega arith) in let a = f.0 in
    let r = rank_below label (label k) (length es) f.1 (omega arith) in
    let g = ap length h.parts_are ∙ length_grouped (part_by label) (take (length es) (numbered 0 es)) 0 (rank label (length es)) in
    omega arith

length_numbered : (n : ℕ) (es : List Entry) → length (numbered n es) ≡ length es
length_numbered n [] = refl
length_numbered n (e ∷ es) = ap suc (length_numbered (suc n) es)

pub gathered_all : (w : World) (es : List Entry) (label : ℕ → ℕ) → AreLabelled w (numbered 0 es) label → AreFirst (length es) label → (numbers : List ℕ) (parts : List (List DueEntry)) → IsGathered es label (length es) numbers parts → IsPlan w es parts
gathered_all w es label a f numbers parts h =
    let all : take (length es) (numbered 0 es) ≡ numbered 0 es = ap (λ n. take n (numbered 0 es)) (sym (length_numbered 0 es)) ∙ take-length (numbered 0 es) in
    subst (IsPlan w es) (sym (h.parts_are ∙ ap (λ l. grouped (part_by label) l 0 (rank label (length es))) all)) (labels_plan w es label a f)

grouped_at : (p : ℕ → ℕ) (all : List DueEntry) (from count n : ℕ) → n < count → part_at (grouped p all from count) n ≡ filter (λ x. nat_eq (p x.index) (from + n)) all
grouped_at p all from zero n h = absurd (omega arith)
grouped_at p all from (suc count) zero h = let e : from ≡ from + 0 = omega arith in ap (λ i. filter (λ (x : DueEntry). nat_eq (p x.index) i) all) e
grouped_at p all from (suc count) (suc n) h = let e : suc from + n ≡ from + suc n = omega arith in grouped_at p all (suc from) count n (omega arith) ∙ ap (λ i. filter (λ (x : DueEntry). nat_eq (p x.index) i) all) e

grouped_past : (p : ℕ → ℕ) (all : List DueEntry) (from count n : ℕ) → count ≤ n → part_at (grouped p all from count) n ≡ []
grouped_past p all from zero n h = refl
grouped_past p all from (suc count) zero h = absurd (omega arith)
grouped_past p all from (suc count) (suc n) h = grouped_past p all (suc from) count n (omega arith)

pub parts_each : (es : List Entry) (label : ℕ → ℕ) → AreFirst (length es) label → (numbers : List ℕ) (parts : List (List DueEntry)) → IsGathered es label (length es) numbers parts → (n : ℕ) → part_at parts n ≡ filter (λ x. nat_eq (part_by label x.index) n) (numbered 0 es)
parts_each es label f numbers parts h n = ap (λ l. part_at l n) h.parts_are ∙ by (cases_lt n (rank label (length es))) where
  all : take (length es) (numbered 0 es) ≡ numbered 0 es
  all = ap (λ m. take m (numbered 0 es)) (sym (length_numbered 0 es)) ∙ take-length (numbered 0 es)

  below : (k : ℕ) → k < length es → part_by label k < rank label (length es)
  below k l = let g = f k l in let a = g.0 in rank_below label (label k) (length es) g.1 (omega arith)

  by : (n < rank label (length es)) ⊎ (rank label (length es) ≤ n) → part_at (grouped (part_by label) (take (length es) (numbered 0 es)) 0 (rank label (length es))) n ≡ filter (λ x. nat_eq (part_by label x.index) n) (numbered 0 es)
  by (inl l) = let e : 0 + n ≡ n = omega arith in grouped_at (part_by label) (take (length es) (numbered 0 es)) 0 (rank label (length es)) n l ∙ (λ i. filter (λ (x : DueEntry). nat_eq (part_by label x.index) (e i)) (all i))
  by (inr l) =
      grouped_past (part_by label) (take (length es) (numbered 0 es)) 0 (rank label (length es)) n l
      ∙ sym (ap (filter (λ (x : DueEntry). nat_eq (part_by label x.index) n)) (sym all) ∙ none_of (part_by label) 0 n (length es) es (λ k a b. let c = below k (omega arith) in omega arith))
