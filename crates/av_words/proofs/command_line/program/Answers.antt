use Rattle.std.proofs.Common.{◌∙◌, ap, ap₂}
use Rattle.clap.specs.Words.{App, with_subcommand}
use Rattle.av_words.proofs.command_line.program.Goals as goal

pub returns-clause-app : goal.returns-clause-app
returns-clause-app c =
    let one = c.in_ok-program.ensures.shape c.in_ok-block_command.ensures.local
    ∙ ap₂ with_subcommand c.bare_program-program.ensures.app (ap (λ (a : App). a.top) c.in_ok-block_command.ensures.app) in
    let two = c.in_ok-program-2.ensures.shape c.in_ok-check_command.ensures.local
    ∙ ap₂ with_subcommand one (ap (λ (a : App). a.top) c.in_ok-check_command.ensures.app) in
    let three = c.in_ok-program-3.ensures.shape c.in_ok-run_command.ensures.local
    ∙ ap₂ with_subcommand two (ap (λ (a : App). a.top) c.in_ok-run_command.ensures.app) in
    let four = c.in_ok-program-4.ensures.shape c.in_ok-map_command.ensures.local
    ∙ ap₂ with_subcommand three (ap (λ (a : App). a.top) c.in_ok-map_command.ensures.app) in
    c.in_ok-program-5.ensures.shape c.in_ok-states_command.ensures.local
    ∙ ap₂ with_subcommand four (ap (λ (a : App). a.top) c.in_ok-states_command.ensures.app)
