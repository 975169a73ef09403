use Rattle.std.proofs.Common.{◌∙◌, ap₂}
use Rattle.std.proofs.lemmas.Result.{IfOk-weaker}
use Rattle.clap.specs.Words.{with_rule}
use Rattle.av_words.proofs.command_line.states_command.Goals as goal

pub returns-clause-app : goal.returns-clause-app
returns-clause-app c =
    let one = c.in_ok-states.ensures.app ∙ ap₂ with_rule c.command-states.ensures.app c.named.ensures.rule in
    let two = c.in_ok-states-2.ensures.app ∙ ap₂ with_rule one c.named-2.ensures.rule in
    IfOk-weaker c.with_arg-3.result _ _ (λ app is. is ∙ ap₂ with_rule two c.explain_flag.ensures.rule) c.with_arg-3.ensures.app
