use Rattle.std.proofs.Common.{rules, ◌≡◌, ◌++◌, ◌∷◌, [], All}
use Rattle.av_cells.specs.Kinds.{kinds_of}
use Rattle.av_crew.specs.Work.{CanWork}
use Rattle.av_crew.specs.Workers.{HasWorked, IsWorkerOf, GivesBack}
use Rattle.av_crew.proofs.Zips.{middle_holds, front_holds, zip_append, zip_through}
use Rattle.av_crew.proofs.Threads.{worker_gives}
use Rattle.av_crew.proofs.workers.in_scope.Goals as goal

pub start_all-started-requires-clause-able : goal.start_all-started-requires-clause-able
start_all-started-requires-clause-able g c κs within =
    front_holds (λ s. All (CanWork c.args.kinds.now) s.jobs) c.args.seats.items c.pop.new.self.items (c.in-Some.last ∷ []) c.requires.able (search rules)

pub work_seat-mine-requires-clause-able : goal.work_seat-mine-requires-clause-able
work_seat-mine-requires-clause-able g c =
    middle_holds (λ s. All (CanWork c.args.kinds.now) s.jobs) c.args.seats.items c.pop.new.self.items c.in-Some.last [] c.requires.able (search rules)

pub returns : goal.returns
returns g c =
    let split : c.args.seats.items ≡ c.pop.new.self.items ++ c.in-Some.last ∷ [] = search rules in
    let k = kinds_of c.args.kinds.now in
    rw (split, c.push_reserved.ensures.items, c.reserve.ensures.items)
    (zip_append (HasWorked k c.args.now) c.pop.new.self.items (c.in-Some.last ∷ []) c.in_ok-returned.returned.items (c.work_seat-mine.result ∷ [])
    (zip_through (IsWorkerOf c.args.now c.args.kinds.now) GivesBack (HasWorked k c.args.now) (worker_gives c.args.now c.args.kinds.now) c.pop.new.self.items c.start_all-started.new.workers.items c.in_ok-returned.returned.items c.in_ok-started.ensures c.in_ok-returned.ensures)
    (c.work_seat-mine.ensures, tt))
