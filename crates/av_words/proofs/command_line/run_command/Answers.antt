use Rattle.std.proofs.Common.{◌∙◌, ap, ap₂}
use Rattle.std.proofs.lemmas.Result.{IfOk-weaker}
use Rattle.clap.specs.Words.{with_rule}
use Rattle.av_words.specs.CommandLine.{with_counts, with_files, with_flags}
use Rattle.av_words.proofs.command_line.run_command.Goals as goal

pub returns-clause-app : goal.returns-clause-app
returns-clause-app c =
    let files = c.in_ok-run.ensures.app ∙ ap with_files c.command.ensures.app in
    let counts = c.in_ok-run-2.ensures.app ∙ ap with_counts files in
    let flags = c.in_ok-run-3.ensures.app ∙ ap with_flags counts in
    let one = c.in_ok-run-4.ensures.app ∙ ap₂ with_rule flags c.progress_flag.ensures.rule in
    IfOk-weaker c.with_arg-2.result _ _ (λ app is. is ∙ ap₂ with_rule one c.explain_flag.ensures.rule) c.with_arg-2.ensures.app
