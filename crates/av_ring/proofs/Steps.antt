-- Each step keeps the rule of the ring.
use Rattle.std.proofs.Common.{◌≡◌, ◌≢◌, ◌<◌, ◌+◌, ◌-◌, ℕ, zero, suc, true, false, true≢false, List, [], ◌∷◌, ◌++◌, length, Option, Some, None, set, sym, refl, ap, ◌∙◌, subst, ◌⊎◌, ⊎_elim, append_assoc, arith}
use mathlib.Core.Option.{some, some-injective, some-ne-none}
use lib.ListN.{get_elem?}
use Rattle.std.proofs.lemmas.List.{append-nil}
use Rattle.std.specs.List.{flat_map, AllByRecursion}
use Rattle.std.specs.List.Sorted.{IsPermutation}
use Rattle.std.proofs.lemmas.Grind.{flat_map-append}
use Rattle.std.proofs.lemmas.List.Sorted.{IsPermutation-refl, IsPermutation-append_left, IsPermutation-append_right, IsPermutation-trans, IsPermutation-sym, IsPermutation-middle, length_permutation}
use Rattle.std.proofs.lemmas.Bool.{false_from_ne_true, or_cases}
use Rattle.av_types.proofs.Each.{each_append}
use Rattle.crossbeam_queue.specs.Fifo.{Pushes, Pops, Forks, Merges, Learns}
use Rattle.crossbeam_queue.proofs.Lists.{at_snoc, set_else}
use Rattle.av_ring.specs.declared.view.View.{View}
use Rattle.av_ring.specs.Ring.{jobs_of, ends_of, InLine, filler, idle, seat_of, without_seat, together, put, Took, Shows, Counts, Fits, Kept}
use Rattle.av_ring.proofs.Totals.{total_set, total_snoc, total_at, total_two, total_alone, each_set, flat_same, flat_grow, flat_part, flat_alone, flat_out}

module _ {J : Type 0} where
  jobs_of-append : (items more : List (Option J)) → jobs_of (items ++ more) ≡ jobs_of items ++ jobs_of more
  jobs_of-append [] more = refl
  jobs_of-append (Some x ∷ items) more = ap (λ (l : List J). x ∷ l) (jobs_of-append items more)
  jobs_of-append (None ∷ items) more = jobs_of-append items more

  ends_of-append : (items more : List (Option J)) → ends_of (items ++ more) ≡ ends_of items + ends_of more
  ends_of-append [] more = omega arith
  ends_of-append (Some x ∷ items) more = ends_of-append items more
  ends_of-append (None ∷ items) more = let s = ends_of-append items more in omega arith

  -- with no end in it, a job may come
  line-job : (items : List (Option J)) (x : J) → ends_of items ≡ 0 → InLine (items ++ Some x ∷ [])
  line-job [] x none = tt
  line-job (Some y ∷ items) x none = line-job items x none
  line-job (None ∷ items) x none = absurd (omega arith)

  line-end : (items : List (Option J)) → InLine items → InLine (items ++ None ∷ [])
  line-end [] line = refl
  line-end (Some y ∷ items) line = line-end items line
  line-end (None ∷ items) line = jobs_of-append items (None ∷ []) ∙ append-nil (jobs_of items) ∙ line

  line-rest : (items : List (Option J)) → jobs_of items ≡ [] → InLine items
  line-rest [] none = tt
  line-rest (Some x ∷ items) none = cc
  line-rest (None ∷ items) none = none

  length-items : (items : List (Option J)) → length items ≡ length (jobs_of items) + ends_of items
  length-items [] = refl
  length-items (Some x ∷ items) = let s = length-items items in omega arith
  length-items (None ∷ items) = let s = length-items items in omega arith

  -- the view of who has all parts is the only one that is not idle
  alone : (items : List (Option J)) (views : List (View J)) (port : ℕ) (v : View J) → Kept items views → get_elem? views port ≡ some v → 0 < v.parts → v.parts ≡ v.all → (j : ℕ) (u : View J) → j ≢ port → get_elem? views j ≡ some u → u ≡ idle
  alone items views port v k at some_part all j u n e =
      let told = (k.each port v at).told_is some_part in let same = told.1 in let s = total_two (λ (w : View J). w.parts) views port j v u n at e in let p = k.parts_are in (k.each j u e).idle_is (omega arith)

  fits-idle : (filled : List J) (all : ℕ) (items : List (Option J)) (u : View J) → u ≡ idle → Fits filled all items u
  fits-idle filled all items u is =
      subst (Fits filled all items) (sym is) (record { idle_is = λ e. refl; told_is = λ lt. absurd (omega arith); heard_is = tt; dry_is = λ d. absurd (true≢false (sym d)) })

  first_fits : (port : ℕ) (v : View J) → get_elem? (filler ∷ []) port ≡ some v → Fits [] 1 [] v
  first_fits zero v e = subst (Fits [] 1 []) (some-injective filler v e) (record { idle_is = λ p. absurd (omega arith); told_is = λ lt. (refl, refl); heard_is = tt; dry_is = λ d. refl })
  first_fits (suc port) v e = absurd (some-ne-none v (sym e))

  pub begins : Kept {J = J} [] (filler ∷ [])
  begins = record { filled = []; all = 1; parts_are = refl; ends_are = refl; in_line = tt; whole = IsPermutation-refl []; each = first_fits }

  -- a job is put in by who has all parts, before any end
  pub puts_job : (n port : ℕ) (v : View J) (x : J) → 0 < v.parts → v.parts ≡ v.all → v.ends ≡ 0 → v.dry ≡ false → v.heard ≡ [] → Pushes Kept n port v (Some x) (λ w. w ≡ put v (Some x))
  puts_job n port v x some_part all none wet first items views room k at =
      let w : View J = put v (Some x) in
      let others = alone items views port v k at some_part all in
      let mine = k.each port v at in
      let parts = total_set (λ (u : View J). u.parts) views port v w at in
      let ends = total_set (λ (u : View J). u.ends) views port v w at in
      let only = total_alone (λ (u : View J). u.ends) views port v at (λ j u n e. ap (λ (u : View J). u.ends) (others j u n e)) in
      let ends_in = k.ends_are in let parts_in = k.parts_are in
      let no_ends : ends_of items ≡ 0 = omega arith in (
        w,
        record {
          filled = k.filled ++ x ∷ [];
          all = k.all;
          parts_are = omega arith;
          ends_are = omega (arith, ends_of-append items (Some x ∷ []));
          in_line = line-job items x no_ends;
          whole = rw (flat_same (λ (u : View J). u.taken) views port v w at refl, jobs_of-append items (Some x ∷ []), sym (append_assoc (flat_map (λ (u : View J). u.taken) views) (jobs_of items) (x ∷ []))) (IsPermutation-append_left (x ∷ []) _ _ k.whole);
          each = each_set (Fits (k.filled ++ x ∷ []) k.all (items ++ Some x ∷ [])) views port w
              (record { idle_is = λ e. absurd (omega arith); told_is = λ lt. let t = mine.told_is some_part in (ap (λ (l : List J). l ++ x ∷ []) t.0, t.1); heard_is = subst (AllByRecursion (λ (l : List J). l ≡ k.filled ++ x ∷ [])) (sym first) tt; dry_is = λ d. absurd (true≢false (sym d ∙ wet)) })
              (λ j u n e. fits-idle (k.filled ++ x ∷ []) k.all (items ++ Some x ∷ []) u (others j u n e));
        },
        refl,
      )

  -- an end is put in
  pub puts_end : (n port : ℕ) (v : View J) → 0 < v.parts → v.parts ≡ v.all → Pushes Kept n port v None (λ w. w ≡ put v None)
  puts_end n port v some_part all items views room k at =
      let w : View J = put v None in
      let mine = k.each port v at in
      let others = alone items views port v k at some_part all in
      let parts = total_set (λ (u : View J). u.parts) views port v w at in
      let ends = total_set (λ (u : View J). u.ends) views port v w at in
      let only = total_alone (λ (u : View J). u.parts) views port v at (λ j u n e. ap (λ (u : View J). u.parts) (others j u n e)) in
      let ends_in = k.ends_are in let parts_in = k.parts_are in
      let same : jobs_of (items ++ None ∷ []) ≡ jobs_of items = jobs_of-append items (None ∷ []) ∙ append-nil (jobs_of items) in (
        w,
        record {
          filled = k.filled;
          all = v.ends + 1;
          parts_are = omega arith;
          ends_are = omega (arith, ends_of-append items (None ∷ []));
          in_line = line-end items k.in_line;
          whole = rw (flat_same (λ (u : View J). u.taken) views port v w at refl, same) k.whole;
          each = each_set (Fits k.filled (v.ends + 1) (items ++ None ∷ [])) views port w
              (record { idle_is = λ e. absurd (omega arith); told_is = λ lt. ((mine.told_is some_part).0, refl); heard_is = mine.heard_is; dry_is = λ d. same ∙ mine.dry_is d })
              (λ j u n e. fits-idle k.filled (v.ends + 1) (items ++ None ∷ []) u (others j u n e));
        },
        refl,
      )

  flat_snoc : (f : View J → List J) (xs : List (View J)) (r : View J) → f r ≡ [] → flat_map f (xs ++ r ∷ []) ≡ flat_map f xs
  flat_snoc f xs r e = flat_map-append f xs (r ∷ []) ∙ ap (λ (l : List J). flat_map f xs ++ (l ++ [])) e ∙ append-nil (flat_map f xs)

  set_swap : (l : List (View J)) (i j : ℕ) (a b : View J) → j ≢ i → set (set l j b) i a ≡ set (set l i a) j b
  set_swap [] i j a b n = refl
  set_swap (x ∷ l) zero zero a b n = absurd (n refl)
  set_swap (x ∷ l) zero (suc j) a b n = refl
  set_swap (x ∷ l) (suc i) zero a b n = refl
  set_swap (x ∷ l) (suc i) (suc j) a b n = ap (λ (m : List (View J)). x ∷ m) (set_swap l i j a b (λ e. n (ap suc e)))

  -- one more of a part that is still to come
  part_more : (whole all t o js : List J) (x : J) → IsPermutation whole (all ++ x ∷ js) → IsPermutation all (t ++ o) → IsPermutation whole ((t ++ x ∷ []) ++ (o ++ js))
  part_more whole all t o js x w p =
      IsPermutation-trans _ _ _ w (IsPermutation-trans _ _ _ (IsPermutation-append_left (x ∷ js) _ _ p)
      (rw (append_assoc t o (x ∷ js), append_assoc t (x ∷ []) (o ++ js)) (IsPermutation-append_right t _ _ (IsPermutation-middle o x js))))

  -- a job is taken out by a seat
  takes_job : (port : ℕ) (v : View J) (x : J) (items : List (Option J)) (views : List (View J)) → 0 < v.parts → Kept (Some x ∷ items) views → get_elem? views port ≡ some v → (w : View J) × Kept items (set views port w) × Took v (Some x) w
  takes_job port v x items views some_part k at =
      let w : View J = record v { taken = v.taken ++ x ∷ [] } in
      let taken = λ (u : View J). u.taken in
      let mine = k.each port v at in
      let parts = total_set (λ (u : View J). u.parts) views port v w at in
      let ends = total_set (λ (u : View J). u.ends) views port v w at in
      let ends_in = k.ends_are in let parts_in = k.parts_are in
      let wet : (u : View J) → Fits k.filled k.all (Some x ∷ items) u → u.dry ≡ true → ⊥ = λ u f d. let e = f.dry_is d in cc in
      let part = flat_part taken views port v at in
      let Part : List J → Type 0 = λ l. IsPermutation l ((v.taken ++ x ∷ []) ++ (part.0 ++ jobs_of items)) in
      let told = (mine.told_is some_part).0 in (
        w,
        record {
          filled = k.filled;
          all = k.all;
          parts_are = omega arith;
          ends_are = omega arith;
          in_line = k.in_line;
          whole = IsPermutation-trans _ _ _ k.whole (rw (sym (append_assoc (flat_map taken views) (x ∷ []) (jobs_of items))) (IsPermutation-append_left (jobs_of items) _ _ (flat_grow taken views port v w (x ∷ []) at refl)));
          each = each_set (Fits k.filled k.all items) views port w
              (record { idle_is = λ e. absurd (omega arith); told_is = mine.told_is; heard_is = mine.heard_is; dry_is = λ d. absurd (wet v mine d) })
              (λ j u n e. let theirs = k.each j u e in record { idle_is = theirs.idle_is; told_is = theirs.told_is; heard_is = theirs.heard_is; dry_is = λ d. absurd (wet u theirs d) });
        },
        (refl, false_from_ne_true v.dry (wet v mine), (part.0 ++ jobs_of items, subst Part (sym told) (part_more k.filled (flat_map taken views) v.taken part.0 (jobs_of items) x k.whole part.1))),
      )

  -- an end is taken out
  takes_end : (port : ℕ) (v : View J) (items : List (Option J)) (views : List (View J)) → 0 < v.parts → 0 < v.ends → Kept (None ∷ items) views → get_elem? views port ≡ some v → (w : View J) × Kept items (set views port w) × Took v None w
  takes_end port v items views some_part some_end k at =
      let w : View J = record v { ends = v.ends - 1; dry = true } in
      let mine = k.each port v at in
      let parts = total_set (λ (u : View J). u.parts) views port v w at in
      let ends = total_set (λ (u : View J). u.ends) views port v w at in
      let ends_in = k.ends_are in let parts_in = k.parts_are in (
        w,
        record {
          filled = k.filled;
          all = k.all;
          parts_are = omega arith;
          ends_are = omega arith;
          in_line = line-rest items k.in_line;
          whole = rw (flat_same (λ (u : View J). u.taken) views port v w at refl) k.whole;
          each = each_set (Fits k.filled k.all items) views port w
              (record { idle_is = λ e. absurd (omega arith); told_is = mine.told_is; heard_is = mine.heard_is; dry_is = λ d. k.in_line })
              (λ j u n e. let theirs = k.each j u e in record { idle_is = theirs.idle_is; told_is = theirs.told_is; heard_is = theirs.heard_is; dry_is = λ d. k.in_line });
        },
        refl,
      )

  -- who has all parts has all ends
  has_ends : (items : List (Option J)) (views : List (View J)) (port : ℕ) (v : View J) → Kept items views → get_elem? views port ≡ some v → 0 < v.parts → v.parts ≡ v.all → v.ends ≡ ends_of items
  has_ends items views port v k at some_part all =
      let only = total_alone (λ (u : View J). u.ends) views port v at (λ j u n e. ap (λ (u : View J). u.ends) (alone items views port v k at some_part all j u n e)) in
      let ends_in = k.ends_are in omega arith

  pub takes : (port : ℕ) (v : View J) → 0 < v.parts → (0 < v.ends) ⊎ (v.parts ≡ v.all) → Pops Kept port v (Took v)
  takes port v some_part able (Some x) items views k at = takes_job port v x items views some_part k at
  takes port v some_part able None items views k at =
      takes_end port v items views some_part (⊎_elim (λ (e : 0 < v.ends). e) (λ (all : v.parts ≡ v.all). let h = has_ends (None ∷ items) views port v k at some_part all in omega arith) able) k at

  -- a seat is handed out
  pub hands : (port : ℕ) (v : View J) → 1 < v.parts → 0 < v.ends → Forks Kept port v (without_seat v) (seat_of v)
  hands port v two_parts some_end items views k at =
      let l : View J = without_seat v in let r : View J = seat_of v in
      let mine = k.each port v at in let vs : List (View J) = set views port l in
      let parts = total_set (λ (u : View J). u.parts) views port v l at in
      let ends = total_set (λ (u : View J). u.ends) views port v l at in
      let parts' = total_snoc (λ (u : View J). u.parts) vs r in
      let ends' = total_snoc (λ (u : View J). u.ends) vs r in
      let ends_in = k.ends_are in let parts_in = k.parts_are in
      let old = each_set (Fits k.filled k.all items) views port l
      (record { idle_is = λ e. absurd (omega arith); told_is = λ lt. mine.told_is (omega arith); heard_is = mine.heard_is; dry_is = mine.dry_is })
      (λ j u n e. k.each j u e) in
      let new : Fits k.filled k.all items r = record { idle_is = λ e. absurd (omega arith); told_is = λ lt. mine.told_is (omega arith); heard_is = tt; dry_is = λ d. absurd (true≢false (sym d)) } in
      record {
        filled = k.filled;
        all = k.all;
        parts_are = omega arith;
        ends_are = omega arith;
        in_line = k.in_line;
        whole = rw (flat_snoc (λ (u : View J). u.taken) vs r refl, flat_same (λ (u : View J). u.taken) views port v l at refl) k.whole;
        each = λ j u e. ⊎_elim (λ (x : get_elem? vs j ≡ some u). old j u x) (λ (is : r ≡ u). subst (Fits k.filled k.all items) is new) (at_snoc vs r u j e);
      }

  -- a seat comes back
  pub merges : (port : ℕ) (v : View J) (other : ℕ) (u : View J) → 0 < v.parts → 0 < u.parts → Merges Kept port v other u (together v u) idle
  merges port v other u some_part some_other items views k at n at' =
      let both : View J = together v u in let taken = λ (x : View J). x.taken in
      let vs : List (View J) = set views port both in let rest : List (View J) = set views other idle in
      let was : get_elem? views other ≡ some u = sym (set_else views port other both n) ∙ at' in
      let still : get_elem? rest port ≡ some v = set_else views other port idle (λ e. n (sym e)) ∙ at in
      let mine = k.each port v at in let theirs = k.each other u was in
      let parts = total_set (λ (x : View J). x.parts) views port v both at in
      let ends = total_set (λ (x : View J). x.ends) views port v both at in
      let parts' = total_set (λ (x : View J). x.parts) vs other u idle at' in
      let ends' = total_set (λ (x : View J). x.ends) vs other u idle at' in
      let ends_in = k.ends_are in let parts_in = k.parts_are in
      let out = flat_out taken views other u idle was refl in
      let grown = flat_grow taken rest port v both u.taken still refl in
      let all : IsPermutation (flat_map taken views) (flat_map taken (set vs other idle)) =
      rw (sym (set_swap views port other both idle n)) (IsPermutation-trans _ _ _ (IsPermutation-sym _ _ out) grown) in
      record {
        filled = k.filled;
        all = k.all;
        parts_are = omega arith;
        ends_are = omega arith;
        in_line = k.in_line;
        whole = IsPermutation-trans _ _ _ k.whole (IsPermutation-append_left (jobs_of items) _ _ all);
        each = each_set (Fits k.filled k.all items) vs other idle (fits-idle k.filled k.all items idle refl)
            (λ j x away e. each_set (Fits k.filled k.all items) views port both
            (record {
              idle_is = λ z. absurd (omega arith);
              told_is = λ lt. mine.told_is some_part;
              heard_is = each_append (λ (l : List J). l ≡ k.filled) v.heard (u.told ∷ u.heard) mine.heard_is ((theirs.told_is some_other).0, theirs.heard_is);
              dry_is = λ d. ⊎_elim mine.dry_is theirs.dry_is (or_cases v.dry u.dry d);
            })
            (λ i y off f. k.each i y f) j x e);
      }

  pub learns-shows : (port : ℕ) (v : View J) → 0 < v.parts → Learns Kept port v (Shows v)
  learns-shows port v some_part items views k at =
      let ends = total_at (λ (u : View J). u.ends) views port v at in let ends_in = k.ends_are in let long = length-items items in (
        (λ some_end. omega arith),
        λ all. let only = flat_alone (λ (u : View J). u.taken) views port v at (λ j u n e. ap (λ (u : View J). u.taken) (alone items views port v k at some_part all j u n e)) in
            rw ((k.each port v at).told_is some_part).0 (rw (sym only) k.whole),
        (let Same : List J → Type 0 = λ l. AllByRecursion (λ (t : List J). t ≡ l) v.heard in subst Same (sym ((k.each port v at).told_is some_part).0) (k.each port v at).heard_is),
      )

  pub learns-counts : (port : ℕ) (v : View J) → Learns Kept port v (Counts v)
  learns-counts port v items views k at = λ some_part all none.
      let only = flat_alone (λ (u : View J). u.taken) views port v at (λ j u n e. ap (λ (u : View J). u.taken) (alone items views port v k at some_part all j u n e)) in
      let long = length-items items in let ends = has_ends items views port v k at some_part all in
      let told = ap length ((k.each port v at).told_is some_part).0 in
      let perm = length_permutation _ _ k.whole in
      let here = ap length (ap (λ (l : List J). l ++ jobs_of items) (only ∙ none)) in
      omega arith
