-- The times fall nowhere if they do not fall from the last entry to the new one.
use Rattle.std.proofs.Common.{◌∙◌, ap, sym, rules, FitsSigned, w64}
use Rattle.std.specs.Option.{option_copied}
use Rattle.std.proofs.lemmas.Int.{to_z-of_z}
use Rattle.av_ticks.proofs.Times.{rising_push}
use Rattle.av_ticks.proofs.rising.may_follow.Goals as goal

pub returns-in-Some : goal.returns-in-Some
returns-in-Some c = λ is rising.
    let one : FitsSigned w64 c.in-Some.last.now.due = search rules in
    let other : FitsSigned w64 c.args.entry.due = search rules in
    let le = rw (to_z-of_z w64 c.in-Some.last.now.due one, to_z-of_z w64 c.args.entry.due other) at is in
    rising_push c.args.entries.now c.in-Some.last.now c.args.entry (sym (ap option_copied c.in-Some.is) ∙ c.last.ensures.value) le rising
