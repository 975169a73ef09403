use Rattle.std.proofs.Common.{◌∙◌, ap₂, ap}
use Rattle.std.proofs.lemmas.Result.{IfOk-weaker}
use Rattle.clap.specs.Words.{app_of, with_rule}
use Rattle.av_words.proofs.command_line.with_counts.Goals as goal

pub returns-clause-app : goal.returns-clause-app
returns-clause-app c =
    let one = c.in_ok-run.ensures.app ∙ ap (with_rule (app_of c.args.run)) c.counted.ensures.rule in
    let two = c.in_ok-run-2.ensures.app ∙ ap₂ with_rule one c.counted-2.ensures.rule in
    IfOk-weaker c.with_arg-3.result _ _ (λ app is. is ∙ ap₂ with_rule two c.repeated.ensures.rule) c.with_arg-3.ensures.app
