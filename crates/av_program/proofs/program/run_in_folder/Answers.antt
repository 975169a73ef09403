use Rattle.std.proofs.Common.{subst}
use Rattle.av_sink.specs.Account.{Account}
use Rattle.av_program.specs.Running.{HasRunOpened, opened}
use Rattle.av_program.proofs.program.run_in_folder.Goals as goal

pub returns-in-Ok-open-clause-ran : goal.returns-in-Ok-open-clause-ran
returns-in-Ok-open-clause-ran g c =
    opened (subst (λ (a : Account). HasRunOpened c.args.request a (g.S.Sink.account c.run_opened.new.sink)
    (g.O.Write.contents c.args.out.now) (g.O.Write.contents c.run_opened.new.out) c.run_opened.result) c.in-Ok-open.ensures.ok c.run_opened.ensures.ran)
