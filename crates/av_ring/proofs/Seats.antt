-- What the view of a seat allows.
use Rattle.std.proofs.Common.{◌≡◌, ◌<◌, ◌+◌, ◌-◌, ℕ, Bool, true, false, ◌||◌, List, [], ◌∷◌, ◌++◌, length, length-append, append_assoc, Option, Some, None, sym, ap, ◌∙◌, subst, inl, inr, arith, All, map}
use Rattle.crossbeam_queue.specs.Fifo.{Pushes, Pops, Forks, Learns}
use Rattle.av_ring.specs.declared.view.View.{View}
use Rattle.av_ring.specs.Ring.{Took, Shows, Counts, Kept, view_of, put, without_seat, seat_of, together, IsPart}
use Rattle.atomic_table.specs.Seated.{TableId}
use Rattle.std.specs.List.{flat_map, list_any}
use Rattle.std.proofs.lemmas.Grind.{flat_map-append}
use Rattle.std.proofs.lemmas.List.{append-nil, map-append}
use Rattle.std.proofs.lemmas.List.Folds.{list_any-append}
use Rattle.std.proofs.lemmas.List.Sorted.{length_permutation}
use Rattle.std.proofs.Math.Bool.{or-false, or_assoc}
use Rattle.av_ring.specs.Shown.{RingShown, SeatShown, seat_shown, seat_view, IsSeatOf}
use Rattle.av_ring.proofs.Steps.{takes, puts_job, puts_end, hands, learns-shows, learns-counts}

module _ {J : Type 0} where
  seat-parts : (v : View J) (n : ℕ) (jobs taken : List J) (dry : Bool) → v ≡ seat_view n jobs taken dry → 0 < v.parts
  seat-parts v n jobs taken dry is = let p : v.parts ≡ 1 = ap (λ (u : View J). u.parts) is in omega arith

  seat-ends : (v : View J) (n : ℕ) (jobs taken : List J) (dry : Bool) → v ≡ seat_view n jobs taken dry → dry ≡ false → 0 < v.ends
  seat-ends v n jobs taken true is wet = cc
  seat-ends v n jobs taken false is wet = let p : v.ends ≡ 1 = ap (λ (u : View J). u.ends) is in omega arith

  the_job : (v w : View J) (x : J) → Took v (Some x) w → IsPart v.told (v.taken ++ x ∷ [])
  the_job v w x took = took.2

  -- what a pop of a seat that is not dry owes
  pub seat-takes : (port : ℕ) (v : View J) (n : ℕ) (jobs taken : List J) (dry : Bool) → v ≡ seat_view n jobs taken dry → dry ≡ false → Pops Kept port v (Took v) × Learns Kept port v (Shows v)
  seat-takes port v n jobs taken dry is wet =
      let p = seat-parts v n jobs taken dry is in (takes port v p (inl (seat-ends v n jobs taken dry is wet)), learns-shows port v p)

  -- what a push of a job or an end owes while no seat is out
  pub puts-job : (n port : ℕ) (v : View J) (x : J) (jobs : List J) → v ≡ view_of 1 0 1 jobs [] false → Pushes Kept n port v (Some x) (λ w. w ≡ put v (Some x)) × Learns Kept port v (Counts v)
  puts-job n port v x jobs is =
      let p : v.parts ≡ 1 = ap (λ (u : View J). u.parts) is in let a : v.all ≡ 1 = ap (λ (u : View J). u.all) is in (
        puts_job n port v x (omega arith) (omega arith) (ap (λ (u : View J). u.ends) is) (ap (λ (u : View J). u.dry) is) (ap (λ (u : View J). u.heard) is),
        learns-counts port v,
      )

  pub puts-end : (n port : ℕ) (v : View J) → 0 < v.parts → v.parts ≡ v.all → Pushes Kept n port v None (λ w. w ≡ put v None) × Learns Kept port v (Counts v)
  puts-end n port v some_part all = (puts_end n port v some_part all, learns-counts port v)

  -- what handing out a seat owes
  pub hands-seat : (port : ℕ) (v : View J) (n i : ℕ) (jobs : List J) → i + 1 < n → v ≡ view_of (n - i) (n - i) n jobs [] false → Forks Kept port v (without_seat v) (seat_of v)
  hands-seat port v n i jobs lt is =
      let p : v.parts ≡ n - i = ap (λ (u : View J). u.parts) is in let e : v.ends ≡ n - i = ap (λ (u : View J). u.ends) is in hands port v (omega arith) (omega arith)

  -- what a pop of who has all parts owes
  pub closer-takes : (port : ℕ) (v : View J) → 0 < v.parts → v.parts ≡ v.all → Pops Kept port v (Took v) × Learns Kept port v (Shows v)
  closer-takes port v some_part all = (takes port v some_part (inr all), learns-shows port v some_part)

  -- fewer jobs are out than there are
  pub room-left : (told taken first left : List J) (x : J) → taken ≡ first ++ left → IsPart told (taken ++ x ∷ []) → length left < length told
  room-left told taken first left x is part =
      let whole = length_permutation _ _ part.1 in
      omega (arith, ap length is, length-append first left, length-append (taken ++ x ∷ []) part.0, length-append taken (x ∷ []))

  -- a seat has come back
  pub back-more : (v u w : View J) (first : List J) (told : List (List J)) (wet : Bool) (seen : List (SeatShown J)) (s : SeatShown J) (ring : TableId) (n : ℕ) (jobs taken : List J) (dry : Bool)
      → w ≡ together v u → u ≡ seat_view n jobs taken dry → s ≡ seat_shown ring n jobs taken dry
      → v.heard ≡ told ++ map (λ (r : SeatShown J). r.jobs) seen → v.taken ≡ first ++ flat_map (λ (r : SeatShown J). r.taken) seen → v.dry ≡ (wet || list_any (λ (r : SeatShown J). r.dry) seen)
      → (w.parts ≡ v.parts + 1) × (w.told ≡ v.told) × (w.all ≡ v.all) × (w.heard ≡ told ++ map (λ (r : SeatShown J). r.jobs) (seen ++ s ∷ [])) × (w.taken ≡ first ++ flat_map (λ (r : SeatShown J). r.taken) (seen ++ s ∷ [])) × (w.dry ≡ (wet || list_any (λ (r : SeatShown J). r.dry) (seen ++ s ∷ [])))
  back-more v u w first told wet seen s ring n jobs taken dry w_is u_is s_is heard_is taken_is dry_is =
      let theirs : u.told ∷ u.heard ≡ s.jobs ∷ [] = ap (λ (x : View J). x.told ∷ x.heard) u_is ∙ sym (ap (λ (r : SeatShown J). r.jobs ∷ []) s_is) in
      let t : u.taken ≡ s.taken = ap (λ (x : View J). x.taken) u_is ∙ sym (ap (λ (r : SeatShown J). r.taken) s_is) in
      let d : u.dry ≡ s.dry = ap (λ (x : View J). x.dry) u_is ∙ sym (ap (λ (r : SeatShown J). r.dry) s_is) in
      let some = flat_map (λ (r : SeatShown J). r.taken) seen in let any = list_any (λ (r : SeatShown J). r.dry) seen in (
        ap (λ (x : View J). x.parts) w_is ∙ ap (λ (k : ℕ). v.parts + k) (ap (λ (x : View J). x.parts) u_is),
        ap (λ (x : View J). x.told) w_is,
        ap (λ (x : View J). x.all) w_is,
        ap (λ (x : View J). x.heard) w_is ∙ (λ i. heard_is i ++ theirs i) ∙ append_assoc told (map (λ (r : SeatShown J). r.jobs) seen) (s.jobs ∷ []) ∙ ap (λ (l : List (List J)). told ++ l) (sym (map-append (λ (r : SeatShown J). r.jobs) seen (s ∷ []))),
        ap (λ (x : View J). x.taken) w_is ∙ (λ i. taken_is i ++ t i) ∙ append_assoc first some s.taken ∙ ap (λ (l : List J). first ++ (some ++ l)) (sym (append-nil s.taken)) ∙ ap (λ (l : List J). first ++ l) (sym (flat_map-append (λ (r : SeatShown J). r.taken) seen (s ∷ []))),
        ap (λ (x : View J). x.dry) w_is ∙ (λ i. dry_is i || d i) ∙ or_assoc wet any s.dry ∙ ap (λ (b : Bool). wet || (any || b)) (sym (or-false s.dry)) ∙ ap (λ (b : Bool). wet || b) (sym (list_any-append (λ (r : SeatShown J). r.dry) seen (s ∷ []))),
      )

  -- new seats are their ring's
  pub seats-of_ring : (r : RingShown) (jobs : List J) (ss : List (SeatShown J)) → length jobs ≡ r.jobs → All (λ s. s ≡ seat_shown r.ring r.seats jobs [] false) ss → All (IsSeatOf r) ss
  seats-of_ring r jobs ss n h = λ i d lt. let is = h i d lt in
      record { ring = ap (λ s. s.ring) is; seats = ap (λ s. s.seats) is; count = ap (λ s. length s.jobs) is ∙ n }

  -- a job that a step took is one of those filled
  pub took_part : (v w : View J) (item : Option J) (x : J) → item ≡ Some x → Took v item w → IsPart v.told (v.taken ++ x ∷ [])
  took_part v w item x is took = let P : Option J → Type 0 = λ i. Took v i w in (the_job v w x (subst P is took))
