use Rattle.std.proofs.Common.{◌++◌, ◌∷◌, [], ap, sym, ◌∙◌, All, append_assoc}
use Rattle.av_crew.specs.Work.{CanWork}
use Rattle.av_crew.specs.Workers.{IsWorkerOf}
use Rattle.av_crew.proofs.Zips.{middle_holds, zip_more}
use Rattle.av_crew.proofs.workers.start_all.Goals as goal

pub start_one-requires-clause-able : goal.start_one-requires-clause-able
start_one-requires-clause-able g c κs within =
    middle_holds (λ s. All (CanWork c.args.kinds.now) s.jobs) c.args.seats.items c.loop-seat.yielded c.in-Some.seat c.next.new.self.rest.items c.requires.able (c.loop-seat.invariant.3 ∙ ap (λ l. c.loop-seat.yielded ++ l) c.in-Some.ensures.steps.0)

pub loop-seat-preserved : goal.loop-seat-preserved
loop-seat-preserved g c =
    let i = c.loop-seat.invariant in
    let kept = c.in_ok-worker.ensures in (
      tt,
      tt,
      rw (c.push_reserved.ensures.items, c.reserve.ensures.items) (zip_more (IsWorkerOf c.args.now c.args.kinds.now) c.loop-seat.yielded c.loop-seat.workers.items c.in-Some.seat c.in_ok-worker.worker i.2
          (record { tick = kept.0; rows = kept.1; seat_is = kept.2 })),
      i.3 ∙ ap (λ l. c.loop-seat.yielded ++ l) c.in-Some.ensures.steps.0 ∙ sym (append_assoc c.loop-seat.yielded (c.in-Some.seat ∷ []) c.next.new.self.rest.items),
    )
