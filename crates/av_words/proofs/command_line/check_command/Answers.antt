use Rattle.std.proofs.Common.{◌∙◌, ap₂}
use Rattle.std.proofs.lemmas.Result.{IfOk-weaker}
use Rattle.clap.specs.Words.{with_rule}
use Rattle.av_words.proofs.command_line.check_command.Goals as goal

pub returns-clause-app : goal.returns-clause-app
returns-clause-app c =
    let one = c.in_ok-check.ensures.app ∙ ap₂ with_rule c.command-check.ensures.app c.named.ensures.rule in
    let two = c.in_ok-check-2.ensures.app ∙ ap₂ with_rule one c.height_table.ensures.rule in
    let three = c.in_ok-check-3.ensures.app ∙ ap₂ with_rule two c.progress_flag.ensures.rule in
    IfOk-weaker c.with_arg-4.result _ _ (λ app is. is ∙ ap₂ with_rule three c.explain_flag.ensures.rule) c.with_arg-4.ensures.app
