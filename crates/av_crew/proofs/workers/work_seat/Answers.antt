use Rattle.std.proofs.Common.{◌++◌, sym, subst, ◌∙◌, All}
use Rattle.std.specs.List.Sorted.{IsPermutation}
use Rattle.av_cells.specs.Kinds.{kinds_of}
use Rattle.av_crew.specs.Work.{CanWork, IsDoneOf}
use Rattle.av_crew.proofs.Zips.{zip_more, taken_holds}
use Rattle.av_crew.proofs.workers.work_seat.Goals as goal

pub work-requires : goal.work-requires
work-requires g c =
    let s = c.in-Some-take.ensures.some in
    taken_holds (CanWork c.args.kinds.now) c.loop.seat.jobs c.loop.seat.taken c.in-Some-take.job s.1.0 (subst (λ js. All (CanWork c.args.kinds.now) js) (sym c.loop.invariant.1.jobs) c.requires.able)
    (subst (λ ts. IsPermutation c.loop.seat.jobs (ts ++ s.1.0)) s.0 s.1.1)

pub loop-preserved : goal.loop-preserved
loop-preserved g c =
    let i = c.loop.invariant in
    let s = c.in-Some-take.ensures.some in (
      c.take.ensures.ring ∙ i.0,
      record {
        ring = c.take.ensures.ring ∙ i.1.ring;
        seats = c.take.ensures.jobs.1 ∙ i.1.seats;
        jobs = c.take.ensures.jobs.0 ∙ i.1.jobs;
        answered = rw (s.0, c.push_reserved.ensures.items, c.reserve.ensures.items)
            (zip_more (IsDoneOf (kinds_of c.args.kinds.now) c.args.now) c.loop.seat.taken c.loop.dones.items c.in-Some-take.job c.work.result i.1.answered c.work.ensures.done);
      },
    )
