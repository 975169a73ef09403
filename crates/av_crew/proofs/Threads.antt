-- What workers in threads give back.
use Rattle.std.proofs.Common.{◌≡◌, ◌<◌, ℕ, suc, List, [], ◌∷◌, ◌++◌, length, map, false, refl, sym, ap, ◌∙◌, subst, All, append-nil, arith}
use Rattle.std.specs.List.{AllZip, AllByRecursion, flat_map}
use Rattle.std.specs.List.Sorted.{IsPermutation}
use Rattle.std.proofs.lemmas.List.Elements.{recursion_from_All, All-from_recursion}
use Rattle.atomic_table.specs.Seated.{TableId}
use Rattle.av_cells.specs.declared.kind.Kind.{Kind}
use Rattle.av_crew.specs.declared.jobs.Done.{Done}
use Rattle.av_crew.specs.Work.{CanWork, IsDoneOf}
use Rattle.av_crew.specs.Answer.{AnswersAll}
use Rattle.av_crew.proofs.Zips.{zip_append}
use Rattle.av_rules.specs.declared.kinds.Kinds.{Kinds}
use Rattle.av_cells.specs.Kinds.{kinds_of}
use Rattle.av_ring.specs.Shown.{RingShown, SeatShown, seat_shown, IsSeatOf}
use Rattle.av_crew.specs.declared.jobs.Job.{Job}
use Rattle.av_crew.specs.Workers.{Returned, Worker, HasWorked, IsWorkerOf, GivesBack, IsNewSeat}

pub worker_gives : (now : ℕ) (kinds : Kinds) (s : SeatShown Job) (w : Worker) (p : Returned) → IsWorkerOf now kinds s w → GivesBack w p → HasWorked (kinds_of kinds) now s p
worker_gives now kinds s w p i g =
    subst (λ x. HasWorked (kinds_of kinds) now x p) i.seat_is
    (subst (λ n. HasWorked (kinds_of kinds) n w.promise.seat.value p) i.tick
    (subst (λ r. HasWorked (kinds_of r) w.promise.now w.promise.seat.value p) i.rows g))

-- ---- seats that came back

pub record IsBack (r : TableId) (n : ℕ) (js : List Job) (s : SeatShown Job) : Type 0 where
  pub ring : s.ring ≡ r
  pub seats : s.seats ≡ n
  pub jobs : s.jobs ≡ js

abbrev pub first : Returned → SeatShown Job
first p = p.0

abbrev pub answers : Returned → List Done
answers p = p.1.items

each_back : (k : ℕ → Kind) (now : ℕ) (r : TableId) (n : ℕ) (js : List Job) (ss : List (SeatShown Job)) (ps : List Returned) → AllByRecursion (λ s. s ≡ seat_shown r n js [] false) ss → AllZip (HasWorked k now) ss ps → AllByRecursion (IsBack r n js) (map first ps)
each_back k now r n js [] [] h z = tt
each_back k now r n js [] (p ∷ ps) h z = absurd z
each_back k now r n js (s ∷ ss) [] h z = absurd z
each_back k now r n js (s ∷ ss) (p ∷ ps) h z =
    (record { ring = z.0.ring ∙ ap (λ s. s.ring) h.0; seats = z.0.seats ∙ ap (λ s. s.seats) h.0; jobs = z.0.jobs ∙ ap (λ s. s.jobs) h.0 }, each_back k now r n js ss ps h.1 z.1)

pub all_back : (k : ℕ → Kind) (now : ℕ) (r : TableId) (n : ℕ) (js : List Job) (ss : List (SeatShown Job)) (ps : List Returned) → All (λ s. s ≡ seat_shown r n js [] false) ss → AllZip (HasWorked k now) ss ps → All (IsBack r n js) (map first ps)
all_back k now r n js ss ps h z = All-from_recursion (IsBack r n js) (map first ps) (each_back k now r n js ss ps (recursion_from_All (λ s. s ≡ seat_shown r n js [] false) ss h) z)

pub back_count : (k : ℕ → Kind) (now : ℕ) (ss : List (SeatShown Job)) (ps : List Returned) → AllZip (HasWorked k now) ss ps → length (map first ps) ≡ length ss
back_count k now [] [] z = refl
back_count k now [] (p ∷ ps) z = absurd z
back_count k now (s ∷ ss) [] z = absurd z
back_count k now (s ∷ ss) (p ∷ ps) z = ap suc (back_count k now ss ps z.1)

all_answered : (k : ℕ → Kind) (now : ℕ) (ss : List (SeatShown Job)) (ps : List Returned) → AllZip (HasWorked k now) ss ps → AllZip (IsDoneOf k now) (flat_map (λ s. s.taken) (map first ps)) (flat_map answers ps)
all_answered k now [] [] z = tt
all_answered k now [] (p ∷ ps) z = absurd z
all_answered k now (s ∷ ss) [] z = absurd z
all_answered k now (s ∷ ss) (p ∷ ps) z = zip_append (IsDoneOf k now) p.0.taken (flat_map (λ s. s.taken) (map first ps)) p.1.items (flat_map answers ps) z.0.answered (all_answered k now ss ps z.1)

pub seats_new : (ring : RingShown) (n : ℕ) (js : List Job) (ss : List (SeatShown Job)) → All (λ s. s ≡ seat_shown ring.ring n js [] false) ss → All (IsNewSeat ring) ss
seats_new ring n js ss h = λ i d u. record { ring = ap (λ s. s.ring) (h i d u); none = ap (λ s. s.taken) (h i d u) }

pub seats_able : (kinds : Kinds) (r : TableId) (n : ℕ) (js : List Job) (ss : List (SeatShown Job)) → All (λ s. s ≡ seat_shown r n js [] false) ss → All (CanWork kinds) js → All (λ s. All (CanWork kinds) s.jobs) ss
seats_able kinds r n js ss h able = λ i d u. subst (λ xs. All (CanWork kinds) xs) (sym (ap (λ s. s.jobs) (h i d u))) able

pub seats_of : (ring : RingShown) (js : List Job) (ss : List (SeatShown Job)) → All (IsBack ring.ring ring.seats js) ss → length js ≡ ring.jobs → All (IsSeatOf ring) ss
seats_of ring js ss h n = λ i d u. record { ring = (h i d u).ring; seats = (h i d u).seats; count = ap length (h i d u).jobs ∙ n }

-- where no job is left, all are answered
pub answers_all : (k : ℕ → Kind) (now : ℕ) (jobs : List Job) (ss : List (SeatShown Job)) (ps : List Returned) (left : List Job) → AllZip (HasWorked k now) ss ps → IsPermutation jobs (flat_map (λ s. s.taken) (map first ps) ++ left) → left ≡ [] → AnswersAll k now jobs (flat_map answers ps)
answers_all k now jobs ss ps left z p e =
    record {
      order = flat_map (λ s. s.taken) (map first ps);
      permuted = subst (IsPermutation jobs) (ap (λ l. flat_map (λ s. s.taken) (map first ps) ++ l) e ∙ append-nil (flat_map (λ s. s.taken) (map first ps))) p;
      answered = all_answered k now ss ps z;
    }

-- what holds of what each seat was told holds of the jobs, where each was told these
pub whole_of_each : (jobs taken : List Job) (ss : List (SeatShown Job)) → 0 < length ss → All (λ s. s.jobs ≡ jobs) ss → All (λ s. IsPermutation s.jobs taken) ss → IsPermutation jobs taken
whole_of_each jobs taken [] some told whole = absurd (omega (arith, some))
whole_of_each jobs taken (s ∷ ss) some told whole = subst (λ (l : List Job). IsPermutation l taken) (told 0 s (omega arith)) (whole 0 s (omega arith))
