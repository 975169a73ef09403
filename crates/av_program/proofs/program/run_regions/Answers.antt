use Rattle.std.proofs.Common.{ℕ, List, Option, Result}
use Rattle.av_sink.specs.Account.{Account}
use Rattle.av_reports.specs.declared.failure.Failure.{Failure}
use Rattle.av_answers.specs.declared.answers.Ran.{Ran}
use Rattle.av_answers.specs.declared.answers.Ran.TheVariants.{Done, Uncovered}
use Rattle.av_requests.specs.declared.requests.Request.{Request}
use Rattle.av_outcomes.specs.Telling.{HasReported}
use Rattle.av_program.specs.RunCommand.{HasRunOver, HasRunRegions, read, unread, stopped_at, ran_all, not_run, not_written}
use Rattle.av_program.proofs.program.run_regions.Goals as goal

regions : (q : Request) (old new : Account) (r : Result Ran Failure) (before after : Option (List ℕ)) (status : ℕ) → HasRunOver q old new r
    → HasReported r before after status → HasRunRegions q old new before after status
regions q old new _ before after status (unread e same) has = not_run same has.0 has.1
regions q old new _ before after status (read i (Done o m) answer files) has = ran_all i o m answer files has
regions q old new _ before after status (read i (Uncovered m) answer same) has = not_run same has.0 has.1
regions q old new _ before after status (stopped_at i (Done o m) e answer stops) has = not_written i o m e.fault answer stops has.0 has.1
regions q old new _ before after status (stopped_at i (Uncovered m) e answer none) has = absurd none

pub returns-clause-ran : goal.returns-clause-ran
returns-clause-ran g c =
    regions c.args.request (g.S.Sink.account c.args.sink.now) (g.S.Sink.account c.run_over-ran.new.sink) c.run_over-ran.result
    (g.O.Write.contents c.args.out.now) (g.O.Write.contents c.report.new.out) c.report.result c.run_over-ran.ensures c.report.ensures
