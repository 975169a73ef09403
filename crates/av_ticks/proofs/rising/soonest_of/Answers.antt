-- The first entry is due first.
use Rattle.std.proofs.Common.{◌∙◌, ap, sym, rules, FitsSigned, w64}
use Rattle.std.specs.Option.{option_copied}
use Rattle.std.proofs.lemmas.Int.{to_z-of_z}
use Rattle.av_ticks.proofs.Times.{first_is_least}
use Rattle.av_ticks.proofs.rising.soonest_of.Goals as goal

pub returns-in-Some : goal.returns-in-Some
returns-in-Some c =
    let fits : FitsSigned w64 c.in-Some.first.now.due = search rules in
    to_z-of_z w64 c.in-Some.first.now.due fits
    ∙ first_is_least c.args.entries.now c.in-Some.first.now (sym (ap option_copied c.in-Some.is) ∙ c.first.ensures.value) (c.requires c.if-not-rises.false) fits
