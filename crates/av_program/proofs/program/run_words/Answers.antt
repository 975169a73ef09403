use Rattle.std.proofs.Common.{◌∙◌, refl, sym}
use Rattle.av_program.specs.Running.{ran, refused, twice}
use Rattle.av_program.proofs.program.run_words.Goals as goal

pub returns-then-asks_twice-clause-ran : goal.returns-then-asks_twice-clause-ran
returns-then-asks_twice-clause-ran g c =
    twice c.in-Ok.command c.in-Ok.ensures.read (sym c.asks_twice.ensures ∙ c.if-asks_twice.true) refl refl c.refuse_twice.ensures

pub returns-else-asks_twice-clause-ran : goal.returns-else-asks_twice-clause-ran
returns-else-asks_twice-clause-ran g c =
    ran c.in-Ok.command c.in-Ok.ensures.read (sym c.asks_twice.ensures ∙ c.if-asks_twice.false) c.run_command.ensures.ran

pub returns-in-Err-clause-ran : goal.returns-in-Err-clause-ran
returns-in-Err-clause-ran g c = refused c.in-Err.error c.in-Err.ensures.refused refl c.explain_words.ensures
