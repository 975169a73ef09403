use Rattle.std.proofs.Common.{rules}
use Rattle.av_crew.specs.Workers.{GivesBack}
use Rattle.av_crew.proofs.Zips.{zip_from}
use Rattle.av_crew.proofs.workers.join_all.Goals as goal

pub returns-in-Ok : goal.returns-in-Ok
returns-in-Ok g c =
    zip_from GivesBack c.args.workers.items c.in-Ok.returned.items (search rules) (λ i d lt. let k = (c.in-Ok.ensures.each i d (search rules)).1 in (k.handle, k.handle_is, k.kept))
