-- Jobs that were worked off, in whatever order, and mended: each part is settled.
use Rattle.std.proofs.Common.{◌≡◌, ℕ, zero, suc, ◌+◌, ◌<◌, ◌≤◌, nat_eq, Bool, true, false, cond, List, [], ◌∷◌, length, refl, sym, ap, subst, ◌∙◌, arith, ◌⊎◌, inl, inr, IsTrue, ◌↔◌, Option, None}
use Rattle.std.proofs.lemmas.Bool.{true≢false, cases_lt, false_from_ne_true, ne_eqb, eqb-true, eq-eqb}
use Rattle.std.proofs.lemmas.List.Elements.{recursion_from_All, All-from_recursion}
use Rattle.std.proofs.lemmas.List.Sorted.{All-permutation, Contains-permutation}
use Rattle.std.specs.List.{AllByRecursion, flat_map, Contains}
use Rattle.std.specs.List.Sorted.{IsPermutation}
use Rattle.av_types.specs.Positions.{section_of, place_of}
use Rattle.av_types.specs.declared.position.Pos.{Pos}
use Rattle.av_types.specs.declared.position.SectionPos.{SectionPos}
use Rattle.av_types.specs.declared.tick.Entry.{Entry}
use Rattle.av_types.specs.declared.tick.Made.{Made}
use Rattle.av_cells.specs.declared.kind.Kind.{Kind}
use Rattle.av_cells.specs.World.{World, Lists}
use Rattle.av_cells.specs.Grid.{Grid, is_here, number_in, pending_in, cells_of, only}
use Rattle.av_play.specs.declared.event.DueEntry.{DueEntry}
use Rattle.av_play.specs.Parts.{numbered, IsPlan, part_at, count_of}
use Rattle.av_play.specs.Play.{world_after, made_after, made_by, turn_of}
use Rattle.av_play.specs.Laws.{IsOfPart, made_for}
use Rattle.av_play.specs.Parcels.{AreSettled}
use Rattle.av_play.proofs.Lists.{other_number, each_chosen, none_contained}
use Rattle.av_play.proofs.Trace.{known_all}
use Rattle.av_play.proofs.Turns.{all_for, none_for}
use Rattle.av_play.proofs.Projection.{after_loaded}
use Rattle.av_play.proofs.Interleaving.{parts_share_nothing, stable_test}
use Rattle.std.proofs.lemmas.List.Elements.{filter-append}
use Rattle.av_world.proofs.DueLists.{filter_flat}
use Rattle.av_types.proofs.Each.{each_then}
use Rattle.av_world.specs.Lawful.{IsTied}
use Rattle.av_crew.specs.declared.jobs.Job.{Job}
use Rattle.av_crew.specs.Jobs.{IsJob, AreJobs, world_of, made_of, mended_all, IsCarved}
use Rattle.av_crew.proofs.Totals.{Has, has_contained, has_then, total, total_permuted, Gives, none_counts, one_counts}
use Rattle.av_crew.proofs.Mending.{IsAt, SameAt, Tells, found, passed}

-- ---- numbers

-- one where the number is n
abbrev one_of : ℕ → Job → ℕ
one_of n j = cond (nat_eq j.number n) 1 0

part_missing : (parts : List (List DueEntry)) (n : ℕ) → count_of parts ≤ n → part_at parts n ≡ []
part_missing [] n h = refl
part_missing (p ∷ ps) zero h = absurd (omega arith)
part_missing (p ∷ ps) (suc n) h = part_missing ps n (omega arith)

-- ---- what a part's turns put aside is for that part alone

for_all : (k : ℕ → Kind) (now : ℕ) (b : ℕ → Bool) (xs : List DueEntry) (w : World) → AllByRecursion (λ x. b x.index ≡ true) xs → made_for b (made_after k now xs w) ≡ made_after k now xs w
for_all k now b [] w e = refl
for_all k now b (x ∷ xs) w e =
    filter-append (λ m. b m.maker) (made_by k now x w) (made_after k now xs (turn_of k now x w).world)
    ∙ rw (all_for b x.index 0 (turn_of k now x w).made e.0, for_all k now b xs (turn_of k now x w).world e.1) refl

for_none : (k : ℕ → Kind) (now : ℕ) (b : ℕ → Bool) (xs : List DueEntry) (w : World) → AllByRecursion (λ x. b x.index ≡ false) xs → made_for b (made_after k now xs w) ≡ []
for_none k now b [] w e = refl
for_none k now b (x ∷ xs) w e =
    filter-append (λ m. b m.maker) (made_by k now x w) (made_after k now xs (turn_of k now x w).world)
    ∙ rw (none_for b x.index 0 (turn_of k now x w).made e.0, for_none k now b xs (turn_of k now x w).world e.1) refl

-- ---- jobs by their numbers

module _ (g : Grid) (parts : List (List DueEntry)) (picks : ℕ → SectionPos → Bool) where
  abbrev Is : ℕ → Job → Type 0
  Is = IsJob g parts picks

  pub each_is : (a : ℕ) (js : List Job) → AreJobs g parts picks a js → AllByRecursion (λ j. (m : ℕ) × Is m j) js
  each_is a [] h = tt
  each_is a (j ∷ js) h = ((a, h.0), each_is (suc a) js h.1)

  has_number : (a n : ℕ) (js : List Job) → AreJobs g parts picks a js → a ≤ n → n < a + length js → (j : Job) × Contains js j × Is n j
  has_number a n [] h l u = absurd (omega arith)
  has_number a n (j ∷ js) h l u = by (cases_lt a n) (has_number (suc a) n js h.1) where
    by : (a < n) ⊎ (n ≤ a) → (suc a ≤ n → n < suc a + length js → (j : Job) × Contains js j × Is n j) → (i : Job) × Contains (j ∷ js) i × Is n i
    by (inr e) rest = (j, (0, (omega arith), refl), subst (λ m. Is m j) (omega arith) h.0)
    by (inl e) rest = let r = rest (omega arith) (omega arith) in (r.0, (suc r.1.0, omega (arith, r.1.1), r.1.2), r.2)

  -- how many jobs have the number n
  below_none : (a n : ℕ) (js : List Job) → AreJobs g parts picks a js → n < a → total (one_of n) js ≡ 0
  below_none a n [] h l = refl
  below_none a n (j ∷ js) h l =
      let e : nat_eq j.number n ≡ false = ap (λ m. nat_eq m n) h.0.number ∙ ne_eqb a n (λ e. omega (arith, e)) in
      rw (e, below_none (suc a) n js h.1 (omega arith)) refl

  above_none : (a n : ℕ) (js : List Job) → AreJobs g parts picks a js → a + length js ≤ n → total (one_of n) js ≡ 0
  above_none a n [] h l = refl
  above_none a n (j ∷ js) h l =
      let e : nat_eq j.number n ≡ false = ap (λ m. nat_eq m n) h.0.number ∙ ne_eqb a n (λ e. omega (arith, e)) in
      rw (e, above_none (suc a) n js h.1 (omega arith)) refl

  within_one : (a n : ℕ) (js : List Job) → AreJobs g parts picks a js → a ≤ n → n < a + length js → total (one_of n) js ≡ 1
  within_one a n [] h l u = absurd (omega arith)
  within_one a n (j ∷ js) h l u = by (cases_lt a n) (within_one (suc a) n js h.1) where
    by : (a < n) ⊎ (n ≤ a) → (suc a ≤ n → n < suc a + length js → total (one_of n) js ≡ 1) → total (one_of n) (j ∷ js) ≡ 1
    by (inr e) rest =
        let f : a ≡ n = omega arith in
        let t : nat_eq j.number n ≡ true = ap (λ m. nat_eq m n) (h.0.number ∙ f) ∙ eq-eqb n n refl in
        rw (t, below_none (suc a) n js h.1 (omega arith)) refl
    by (inl e) rest =
        let t : nat_eq j.number n ≡ false = ap (λ m. nat_eq m n) h.0.number ∙ ne_eqb a n (λ f. omega (arith, f)) in
        rw (t, rest (omega arith) (omega arith)) refl

picked_of : {X : Type 0} (b : Bool) (x : Option X) → (o : Option X → Bool) → o None ≡ false → o (cond b x None) ≡ true → b ≡ true
picked_of true x o n h = refl
picked_of false x o n h = absurd (true≢false (sym h ∙ n))

module _ (g : Grid) (entries : List Entry) (parts : List (List DueEntry)) (plan : IsPlan (cells_of g) entries parts) (k : ℕ → Kind) (now : ℕ) (picks : ℕ → SectionPos → Bool) (exact : (n : ℕ) (s : SectionPos) → IsTrue (picks n s) ↔ IsOfPart (cells_of g) (part_at parts n) s) (l : Lists) (tied : IsTied (cells_of g) l) (rest : Grid) (carved : IsCarved g picks (count_of parts) rest) (jobs order : List Job) (are : AreJobs g parts picks 0 jobs) (count : length jobs ≡ count_of parts) (permuted : IsPermutation jobs order) where
  abbrev w : World
  w = cells_of g

  abbrev all : List DueEntry
  all = numbered 0 entries

  -- the n-th part's sections after its turns, and what they make
  abbrev alone : ℕ → World
  alone n = world_after k now (part_at parts n) (cells_of (only (picks n) g))

  abbrev own_made : ℕ → List Made
  own_made n = made_after k now (part_at parts n) (cells_of (only (picks n) g))

  abbrev own : ℕ → ℕ → Bool
  own n i = nat_eq (plan.part_of i) n

  abbrev h : World
  h = mended_all (world_of k now) l order (cells_of rest)

  each : AllByRecursion (λ j. (m : ℕ) × IsJob g parts picks m j) order
  each =
      let P : Job → Type 0 = λ j. (m : ℕ) × IsJob g parts picks m j in
      recursion_from_All P order (All-permutation P jobs order permuted (All-from_recursion P jobs (each_is g parts picks 0 jobs are)))

  has : (n : ℕ) → n < count_of parts → Has (IsJob g parts picks n) order
  has n u = let r = has_number g parts picks 0 n jobs are (omega arith) (omega (arith, u, count)) in has_contained _ order r.0 (Contains-permutation jobs order r.0 permuted r.1) r.2

  world_is : (n : ℕ) (j : Job) → IsJob g parts picks n j → world_of k now j ≡ alone n
  world_is n j i = (λ t. world_after k now (i.entries t) (i.blocks_are t))

  made_is : (n : ℕ) (j : Job) → IsJob g parts picks n j → made_of k now j ≡ own_made n
  made_is n j i = (λ t. made_after k now (i.entries t) (i.blocks_are t))

  -- ---- blocks

  of_there : (n : ℕ) (q : Pos) → IsTrue (picks n (section_of q)) → is_here (g (section_of q)) ≡ true
  of_there n q c = let o = (exact n (section_of q)).0 c in subst (λ s. is_here (g s) ≡ true) o.territory.lies o.territory.loaded

  alone_loaded : (n : ℕ) (q : Pos) → (alone n).loaded q ≡ is_here (cond (picks n (section_of q)) (g (section_of q)) None)
  alone_loaded n q = ap (λ f. f q) (after_loaded k now (part_at parts n) (cells_of (only (picks n) g)))

  alone_picked : (n : ℕ) (q : Pos) → (alone n).loaded q ≡ true → IsTrue (picks n (section_of q))
  alone_picked n q t = picked_of (picks n (section_of q)) (g (section_of q)) is_here refl (sym (alone_loaded n q) ∙ t)

  picked_alone : (n : ℕ) (q : Pos) → IsTrue (picks n (section_of q)) → (alone n).loaded q ≡ true
  picked_alone n q c = alone_loaded n q ∙ ap (λ b. is_here (cond b (g (section_of q)) None)) c ∙ of_there n q c

  number_below : (n : ℕ) (s : SectionPos) → IsTrue (picks n s) → n < count_of parts
  number_below n s c = by (cases_lt n (count_of parts)) where
    by : (n < count_of parts) ⊎ (count_of parts ≤ n) → n < count_of parts
    by (inl u) = u
    by (inr u) = let o = (exact n s).0 c in absurd (none_contained o.owner (subst (λ (p : List DueEntry). Contains p o.owner) (part_missing parts n u) o.there))

  same_part : (m n : ℕ) (s : SectionPos) → IsTrue (picks m s) → IsTrue (picks n s) → m ≡ n
  same_part m n s c d = by (nat_eq m n) refl where
    by : (b : Bool) → nat_eq m n ≡ b → m ≡ n
    by true e = eqb-true m n e
    by false e = absurd (parts_share_nothing w entries parts plan m n s (λ f. true≢false (sym (ap (λ i. nat_eq i n) f ∙ eq-eqb n n refl) ∙ e)) ((exact m s).0 c) ((exact n s).0 d))

  tells : (n : ℕ) (q : Pos) → IsTrue (picks n (section_of q)) → AllByRecursion (Tells (world_of k now) l q ((alone n).number q)) order
  tells n q c = each_then _ _ (λ j i t.
      let a : world_of k now j ≡ alone i.0 = world_is i.0 j i.1 in
      let d : IsTrue (picks i.0 (section_of q)) = alone_picked i.0 q (sym (ap (λ v. v.loaded q) a) ∙ t) in
      ap (λ v. v.number q) a ∙ ap (λ m. (alone m).number q) (same_part i.0 n (section_of q) d c)) order each

  at_picked : (n : ℕ) (q : Pos) → IsTrue (picks n (section_of q)) → IsAt l q ((alone n).number q) h
  at_picked n q c = found (world_of k now) l q ((alone n).number q) order (cells_of rest) (tells n q c)
      (has_then _ _ (λ j i. ap (λ v. v.loaded q) (world_is n j i) ∙ picked_alone n q c) order (has n (number_below n (section_of q) c)))

  at_others : (q : Pos) → ((n : ℕ) → ¬ IsTrue (picks n (section_of q))) → SameAt q h (cells_of rest)
  at_others q f = passed (world_of k now) l q order (cells_of rest) (each_then _ _ (λ j i. false_from_ne_true _ (λ t. f i.0 (alone_picked i.0 q (sym (ap (λ v. v.loaded q) (world_is i.0 j i.1)) ∙ t)))) order each)

  rest_is : (q : Pos) → ((n : ℕ) → ¬ IsTrue (picks n (section_of q))) → rest (section_of q) ≡ g (section_of q)
  rest_is q f = carved.others (section_of q) (λ n u. f n)

  -- ---- what was put aside

  of_part : (n : ℕ) → AllByRecursion (λ x. own n x.index ≡ true) (part_at parts n)
  of_part n = subst (AllByRecursion (λ x. own n x.index ≡ true)) (sym (plan.each n)) (each_then _ _ (λ x c. c.0) _ (each_chosen (Contains all) (λ x. nat_eq (plan.part_of x.index) n) all (known_all all)))

  gives : (n : ℕ) (j : Job) → ((m : ℕ) × IsJob g parts picks m j) → Gives (one_of n) (λ j. made_for (own n) (made_of k now j)) (own_made n) j
  gives n j i =
      record {
        one = λ c. let e : i.0 ≡ n = sym i.1.number ∙ eqb-true j.number n (one_is (nat_eq j.number n) c) in
            ap (made_for (own n)) (made_is i.0 j i.1 ∙ ap own_made e) ∙ for_all k now (own n) (part_at parts n) (cells_of (only (picks n) g)) (of_part n);
        none = λ c. let f : ¬ (i.0 ≡ n) = λ e. true≢false (sym (ap (λ m. nat_eq m n) (i.1.number ∙ e) ∙ eq-eqb n n refl) ∙ none_is (nat_eq j.number n) c) in
            ap (made_for (own n)) (made_is i.0 j i.1) ∙ for_none k now (own n) (part_at parts i.0) (cells_of (only (picks i.0) g)) (each_then _ _ (λ x e. other_number (plan.part_of x.index) n i.0 e (λ d. f (sym d))) (part_at parts i.0) (of_part i.0));
        either = cases (nat_eq j.number n);
      }
    where
      one_if : Bool → ℕ
      one_if b = cond b 1 0

      one_is : (b : Bool) → one_if b ≡ 1 → b ≡ true
      one_is true c = refl
      one_is false c = absurd (omega (arith, c))

      none_is : (b : Bool) → one_if b ≡ 0 → b ≡ false
      none_is true c = absurd (omega (arith, c))
      none_is false c = refl

      cases : (b : Bool) → (one_if b ≡ 0) ⊎ (one_if b ≡ 1)
      cases true = inr refl
      cases false = inl refl

  all_gives : (n : ℕ) → AllByRecursion (Gives (one_of n) (λ j. made_for (own n) (made_of k now j)) (own_made n)) order
  all_gives n = each_then _ _ (gives n) order each

  aside_for : (n : ℕ) → made_for (own n) (flat_map (made_of k now) order) ≡ own_made n
  aside_for n = filter_flat (λ m. own n m.maker) (made_of k now) order ∙ by (cases_lt n (count_of parts)) where
    by : (n < count_of parts) ⊎ (count_of parts ≤ n) → flat_map (λ j. made_for (own n) (made_of k now j)) order ≡ own_made n
    by (inl u) = one_counts (one_of n) _ (own_made n) order (all_gives n) (total_permuted (one_of n) jobs order permuted ∙ within_one g parts picks 0 n jobs are (omega arith) (omega (arith, u, count)))
    by (inr u) = none_counts (one_of n) _ (own_made n) order (all_gives n) (total_permuted (one_of n) jobs order permuted ∙ above_none g parts picks 0 n jobs are (omega (arith, u, count))) ∙ ap (λ (p : List DueEntry). made_after k now p (cells_of (only (picks n) g))) (sym (part_missing parts n u))

  -- ---- together

  pub settled : AreSettled k now g parts plan.part_of picks h (flat_map (made_of k now) order)
  settled =
      record {
        exact = exact;
        same_loaded = λ q. stable_test (h.loaded q) (w.loaded q) (λ differ. differ (let f : (n : ℕ) → ¬ IsTrue (picks n (section_of q)) = λ n c. differ ((at_picked n q c).loaded ∙ sym (of_there n q c)) in
            (at_others q f).loaded ∙ ap is_here (rest_is q f)));
        same_pending = λ q. stable_test (h.pending q) (w.pending q) (λ differ. differ (let f : (n : ℕ) → ¬ IsTrue (picks n (section_of q)) = λ n c. differ ((at_picked n q c).pending ∙ sym (tied q (of_there n q c))) in
            (at_others q f).pending ∙ ap (λ o. pending_in o (place_of q)) (rest_is q f)));
        numbers = λ n q c. (at_picked n q c).number;
        others = λ q f. (at_others q f).number ∙ ap (λ o. number_in o (place_of q)) (rest_is q f);
        put_aside = aside_for;
      }
