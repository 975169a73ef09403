use Rattle.std.proofs.Common.{◌∙◌, ap₂}
use Rattle.std.proofs.lemmas.Result.{IfOk-weaker}
use Rattle.clap.specs.Words.{with_rule}
use Rattle.av_words.proofs.command_line.map_command.Goals as goal

pub returns-clause-app : goal.returns-clause-app
returns-clause-app c =
    let one = c.in_ok-map.ensures.app ∙ ap₂ with_rule c.command-map.ensures.app c.named.ensures.rule in
    let two = c.in_ok-map-2.ensures.app ∙ ap₂ with_rule one c.named-2.ensures.rule in
    let three = c.in_ok-map-3.ensures.app ∙ ap₂ with_rule two c.height_table.ensures.rule in
    let four = c.in_ok-map-4.ensures.app ∙ ap₂ with_rule three c.named-3.ensures.rule in
    let five = c.in_ok-map-5.ensures.app ∙ ap₂ with_rule four c.flag.ensures.rule in
    IfOk-weaker c.with_arg-6.result _ _ (λ app is. is ∙ ap₂ with_rule five c.explain_flag.ensures.rule) c.with_arg-6.ensures.app
