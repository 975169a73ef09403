-- Labels give a plan.
use Rattle.std.proofs.Common.{◌≡◌, ℕ, zero, suc, ◌+◌, ◌<◌, ◌≤◌, ◌-◌, nat_eq, Bool, true, false, cond, List, [], ◌∷◌, length, filter, ◌⊎◌, inl, inr, refl, sym, ap, ◌∙◌, subst, arith}
use Rattle.std.specs.List.{AllByRecursion, Contains}
use Rattle.std.proofs.lemmas.Bool.Decides.{nat_tests}
use Rattle.std.proofs.lemmas.List.Elements.{All-contains, All-from_recursion}
use Rattle.std.proofs.lemmas.Bool.{false_from_ne_true, cases_lt, eqb-true, eq-eqb, cases_order}
use Rattle.av_types.proofs.Each.{each_then}
use Rattle.av_types.specs.declared.tick.Entry.{Entry}
use Rattle.av_cells.specs.World.{World}
use Rattle.av_play.specs.declared.event.DueEntry.{DueEntry}
use Rattle.av_play.specs.Parts.{numbered, part_at, count_of, IsPlan, HasEntry, BeginsBefore}
use Rattle.av_play.specs.Labels.{AreLabelled}
use Rattle.av_play.specs.Groups.{AreFirst, rank, grouped}
use Rattle.av_play.proofs.Trace.{known_all}
use Rattle.av_play.proofs.Chains.{labels_together}

count_grouped : (part_of : ℕ → ℕ) (all : List DueEntry) (from count : ℕ) → count_of (grouped part_of all from count) ≡ count
count_grouped part_of all from zero = refl
count_grouped part_of all from (suc count) = ap suc (count_grouped part_of all (suc from) count)

grouped_at : (part_of : ℕ → ℕ) (all : List DueEntry) (from count n : ℕ) → n < count → part_at (grouped part_of all from count) n ≡ filter (λ x. nat_eq (part_of x.index) (from + n)) all
grouped_at part_of all from zero n h = absurd (omega arith)
grouped_at part_of all from (suc count) zero h = let e : from ≡ from + 0 = omega arith in ap (λ i. filter (λ x. nat_eq (part_of x.index) i) all) e
grouped_at part_of all from (suc count) (suc n) h = let e : suc from + n ≡ from + suc n = omega arith in grouped_at part_of all (suc from) count n (omega arith) ∙ ap (λ i. filter (λ x. nat_eq (part_of x.index) i) all) e

grouped_past : (part_of : ℕ → ℕ) (all : List DueEntry) (from count n : ℕ) → count ≤ n → part_at (grouped part_of all from count) n ≡ []
grouped_past part_of all from zero n h = refl
grouped_past part_of all from (suc count) zero h = absurd (omega arith)
grouped_past part_of all from (suc count) (suc n) h = grouped_past part_of all (suc from) count n (omega arith)

rank_one_more : (label : ℕ → ℕ) (i : ℕ) → rank label i ≤ rank label (suc i)
rank_one_more label i = by (nat_eq (label i) i) where
  by : (b : Bool) → rank label i ≤ cond b (suc (rank label i)) (rank label i)
  by true = omega arith
  by false = omega arith

rank_rises : (label : ℕ → ℕ) (i d : ℕ) → rank label i ≤ rank label (d + i)
rank_rises label i zero = let e : i ≡ 0 + i = omega arith in subst (λ j. rank label i ≤ rank label j) e (omega arith)
rank_rises label i (suc d) = let e : suc (d + i) ≡ suc d + i = omega arith in let f = rank_rises label i d in let g = rank_one_more label (d + i) in subst (λ j. rank label i ≤ rank label j) e (omega arith)

-- a first entry's rank is below that of each later index
first_below : (label : ℕ → ℕ) (i j : ℕ) → nat_eq (label i) i ≡ true → i < j → rank label i < rank label j
first_below label i zero h l = absurd (omega arith)
first_below label i (suc j) h l =
    let step : rank label (suc i) ≡ suc (rank label i) = ap (λ b. cond b (suc (rank label i)) (rank label i)) h in
    let e : (suc j - suc i) + suc i ≡ suc j = omega arith in
    let r : rank label (suc i) ≤ rank label (suc j) = subst (λ m. rank label (suc i) ≤ rank label m) e (rank_rises label (suc i) (suc j - suc i)) in
    omega arith

-- below every index with more ranks there is a first entry of that rank
find_first : (label : ℕ → ℕ) (j n : ℕ) → n < rank label j → (l : ℕ) × (l < j) × (label l ≡ l) × (rank label l ≡ n)
find_first label zero n h = absurd (omega arith)
find_first label (suc j) n h = by (nat_eq (label j) j) refl h (cases_lt n (rank label j)) (find_first label j n) where
  by : (b : Bool) → nat_eq (label j) j ≡ b → n < cond b (suc (rank label j)) (rank label j) → (n < rank label j) ⊎ (rank label j ≤ n)
      → (n < rank label j → (l : ℕ) × (l < j) × (label l ≡ l) × (rank label l ≡ n)) → (l : ℕ) × (l < suc j) × (label l ≡ l) × (rank label l ≡ n)
  by b e f (inl g) earlier = let r = earlier g in (r.0, omega arith, r.2, r.3)
  by true e f (inr g) earlier = (j, omega arith, eqb-true (label j) j e, omega arith)
  by false e f (inr g) earlier = absurd (omega arith)

abbrev BeginsAt : ℕ → List DueEntry → Type 0
BeginsAt l [] = ⊥
BeginsAt l (x ∷ xs) = x.index ≡ l

begins : (b : ℕ → Bool) (n : ℕ) (es : List Entry) (l : ℕ) → n ≤ l → l < n + length es → b l ≡ true → ((i : ℕ) → n ≤ i → i < l → b i ≡ false) → BeginsAt l (filter (λ x. b x.index) (numbered n es))
begins b n [] l low high h f = absurd (omega arith)
begins b n (e ∷ es) l low high h f = by (nat_eq n l) refl (begins b (suc n) es l) where
  by : (c : Bool) → nat_eq n l ≡ c → (suc n ≤ l → l < suc n + length es → b l ≡ true → ((i : ℕ) → suc n ≤ i → i < l → b i ≡ false) → BeginsAt l (filter (λ x. b x.index) (numbered (suc n) es)))
      → BeginsAt l (cond (b n) (record { index = n; entry = e } ∷ filter (λ x. b x.index) (numbered (suc n) es)) (filter (λ x. b x.index) (numbered (suc n) es)))
  by true g more =
      let i : n ≡ l = eqb-true n l g in
      subst (λ c. BeginsAt l (cond c (record { index = n; entry = e } ∷ filter (λ x. b x.index) (numbered (suc n) es)) (filter (λ x. b x.index) (numbered (suc n) es)))) (sym (ap b i ∙ h)) i
  by false g more =
      let i : n < l = grind (arith, nat_tests) in
      subst (λ c. BeginsAt l (cond c (record { index = n; entry = e } ∷ filter (λ x. b x.index) (numbered (suc n) es)) (filter (λ x. b x.index) (numbered (suc n) es)))) (sym (f n (omega arith) i))
      (more (omega arith) (omega arith) h (λ j p q. f j (omega arith) q))

begins_entry : (l : ℕ) (xs : List DueEntry) → BeginsAt l xs → HasEntry xs
begins_entry l [] h = h
begins_entry l (x ∷ xs) h = tt

begins_before : (l m : ℕ) (xs ys : List DueEntry) → BeginsAt l xs → BeginsAt m ys → l < m → BeginsBefore xs ys
begins_before l m [] ys h g i = h
begins_before l m (x ∷ xs) [] h g i = g
begins_before l m (x ∷ xs) (y ∷ ys) h g i = omega arith

none_pass : (p : DueEntry → Bool) (xs : List DueEntry) → AllByRecursion (λ x. p x ≡ false) xs → filter p xs ≡ []
none_pass p [] h = refl
none_pass p (x ∷ xs) h = ap (λ b. cond b (x ∷ filter p xs) (filter p xs)) h.0 ∙ none_pass p xs h.1

indices : (n : ℕ) (es : List Entry) → AllByRecursion (λ (x : DueEntry). x.index < n + length es) (numbered n es)
indices n [] = tt
indices n (e ∷ es) = (omega arith, let e : suc n + length es ≡ n + suc (length es) = omega arith in subst (λ m. AllByRecursion (λ (x : DueEntry). x.index < m) (numbered (suc n) es)) e (indices (suc n) es))

module _ (w : World) (es : List Entry) (label : ℕ → ℕ) (h : AreLabelled w (numbered 0 es) label) (first : AreFirst (length es) label) where
  abbrev all : List DueEntry
  all = numbered 0 es

  abbrev part_of : ℕ → ℕ
  part_of i = rank label (label i)

  is_first : (i : ℕ) → i < length es → nat_eq (label (label i)) (label i) ≡ true
  is_first i l = subst (λ j. nat_eq j (label i) ≡ true) (sym (first i l).1) (eq-eqb (label i) (label i) refl)

  in_tick : (x : DueEntry) → Contains all x → x.index < length es
  in_tick x c = let f = All-contains (λ (y : DueEntry). y.index < 0 + length es) all x (All-from_recursion _ _ (indices 0 es)) c in omega arith

  part_below : (i : ℕ) → i < length es → part_of i < rank label (length es)
  part_below i l = first_below label (label i) (length es) (is_first i l) (let f = (first i l).0 in omega arith)

  -- two first entries of one rank are one
  one_first : (i j : ℕ) → i < length es → nat_eq (label i) i ≡ true → j < length es → nat_eq (label j) j ≡ true → rank label i ≡ rank label j → i ≡ j
  one_first i j li fi lj fj e = by (cases_order i j) where
    by : (i ≡ j) ⊎ ((i < j) ⊎ (j < i)) → i ≡ j
    by (inl f) = f
    by (inr (inl f)) = let g = first_below label i j fi f in absurd (omega arith)
    by (inr (inr f)) = let g = first_below label j i fj f in absurd (omega arith)

  same_label : (i j : ℕ) → i < length es → j < length es → part_of i ≡ part_of j → label i ≡ label j
  same_label i j li lj e = one_first (label i) (label j) (let f = (first i li).0 in omega arith) (is_first i li) (let f = (first j lj).0 in omega arith) (is_first j lj) e

  each_part : (n : ℕ) → part_at (grouped part_of all 0 (rank label (length es))) n ≡ filter (λ x. nat_eq (part_of x.index) n) all
  each_part n = by (cases_lt n (rank label (length es))) where
    by : (n < rank label (length es)) ⊎ (rank label (length es) ≤ n) → part_at (grouped part_of all 0 (rank label (length es))) n ≡ filter (λ x. nat_eq (part_of x.index) n) all
    by (inl f) = let e : 0 + n ≡ n = omega arith in grouped_at part_of all 0 (rank label (length es)) n f ∙ ap (λ i. filter (λ x. nat_eq (part_of x.index) i) all) e
    by (inr f) =
        grouped_past part_of all 0 (rank label (length es)) n f
        ∙ sym (none_pass (λ x. nat_eq (part_of x.index) n) all (each_then (Contains all) (λ x. nat_eq (part_of x.index) n ≡ false) (λ x c. false_from_ne_true _ (λ g. let e = eqb-true (part_of x.index) n g in let l = part_below x.index (in_tick x c) in absurd (omega arith))) all (known_all all)))

  begins_part : (n : ℕ) → n < rank label (length es) → (l : ℕ) × (rank label l ≡ n) × BeginsAt l (part_at (grouped part_of all 0 (rank label (length es))) n)
  begins_part n f =
      let r = find_first label (length es) n f in (
        r.0,
        r.3,
        subst (BeginsAt r.0) (sym (each_part n))
            (begins (λ i. nat_eq (part_of i) n) 0 es r.0 (omega arith) (omega arith)
            (subst (λ j. nat_eq j n ≡ true) (sym (ap (rank label) r.2 ∙ r.3)) (eq-eqb n n refl))
            (λ i _ l. false_from_ne_true (nat_eq (part_of i) n) (λ g.
            let li : i < length es = omega arith in
            let e : label i ≡ r.0 = one_first (label i) r.0 (let f = (first i li).0 in omega arith) (is_first i li) r.1 (subst (λ j. nat_eq j r.0 ≡ true) (sym r.2) (eq-eqb r.0 r.0 refl)) (eqb-true (part_of i) n g ∙ sym r.3) in
            let f = (first i li).0 in absurd (omega arith)))),
      )

  pub labels_plan : IsPlan w es (grouped part_of all 0 (rank label (length es)))
  labels_plan =
      record {
        part_of = part_of;
        each = each_part;
        together = λ a b ca cb.
            let t = labels_together w all label h a b ca cb in
            (λ e. t.0 (same_label a.index b.index (in_tick a ca) (in_tick b cb) e), λ l. ap (rank label) (t.1 l));
        nonempty = λ n f. let g : n < rank label (length es) = subst (λ c. n < c) (count_grouped part_of all 0 (rank label (length es))) f in let r = begins_part n g in begins_entry r.0 _ r.2;
        in_order = λ m n l f.
            let g : n < rank label (length es) = subst (λ c. n < c) (count_grouped part_of all 0 (rank label (length es))) f in
            let a = begins_part m (omega arith) in let b = begins_part n g in
            begins_before a.0 b.0 _ _ a.2 b.2 (ordered_first a.0 b.0 m n a.1 b.1 l);
      }
    where
      ordered_first : (a b m n : ℕ) → rank label a ≡ m → rank label b ≡ n → m < n → a < b
      ordered_first a b m n e f l = by (cases_lt a b) where
        by : (a < b) ⊎ (b ≤ a) → a < b
        by (inl g) = g
        by (inr g) = let i : (a - b) + b ≡ a = omega arith in let r : rank label b ≤ rank label a = subst (λ j. rank label b ≤ rank label j) i (rank_rises label b (a - b)) in absurd (omega arith)
