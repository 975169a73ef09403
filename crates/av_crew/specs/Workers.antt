-- What a worker does with its seat.
use Rattle.std.specs.Prelude.{◌≡◌, ℕ, List, [], Vec}
use Rattle.std.specs.declared.alloc.Global.{Global}
use Rattle.std.specs.declared.thread.PromisedHandle.{PromisedHandle}
use Rattle.std.specs.List.{AllZip}
use Rattle.av_cells.specs.declared.kind.Kind.{Kind}
use Rattle.av_ring.specs.Shown.{RingShown, SeatShown}
use Rattle.av_crew.specs.declared.jobs.Job.{Job}
use Rattle.av_crew.specs.declared.jobs.Done.{Done}
use Rattle.av_rules.specs.declared.kinds.Kinds.{Kinds}
use Rattle.av_cells.specs.Kinds.{kinds_of}
use Rattle.av_crew.specs.declared.workers.AnswersTaken.{AnswersTaken}
use Rattle.av_crew.specs.Work.{IsDoneOf}

-- a seat of the ring that has taken nothing
pub record IsNewSeat (r : RingShown) (s : SeatShown Job) : Type 0 where
  pub ring : s.ring ≡ r.ring
  pub none : s.taken ≡ []

-- the same seat, with an answer for each job that it took
pub record Worked (k : ℕ → Kind) (now : ℕ) (old new : SeatShown Job) (dones : List Done) : Type 0 where
  pub ring : new.ring ≡ old.ring
  pub seats : new.seats ≡ old.seats
  pub jobs : new.jobs ≡ old.jobs
  pub answered : AllZip (IsDoneOf k now) new.taken dones

abbrev pub Returned : Type 0
Returned = SeatShown Job × Vec Done Global

abbrev pub HasWorked : (ℕ → Kind) → ℕ → SeatShown Job → Returned → Type 0
HasWorked k now s p = Worked k now s p.0 p.1.items

abbrev pub Worker : Type 0
Worker = PromisedHandle Returned AnswersTaken

-- the worker promised to work at this seat
pub record IsWorkerOf (now : ℕ) (kinds : Kinds) (seat : SeatShown Job) (worker : Worker) : Type 0 where
  pub tick : worker.promise.now ≡ now
  pub rows : worker.promise.kinds.value ≡ kinds
  pub seat_is : worker.promise.seat.value ≡ seat

-- what a worker gave back is what it promised
abbrev pub GivesBack : Worker → Returned → Type 0
GivesBack w p = HasWorked (kinds_of w.promise.kinds.value) w.promise.now w.promise.seat.value p
