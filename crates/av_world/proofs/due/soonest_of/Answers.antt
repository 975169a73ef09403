-- The least time is that of an entry, or the greatest of all.
use Rattle.std.proofs.Common.{◌≡◌, ◌≢◌, ◌≤◌, ◌⊎◌, pos, rules, subst, w64, FitsSigned, ap, ◌∙◌}
use Rattle.std.proofs.lemmas.Int.{to_z-of_z}
use Rattle.av_ticks.specs.Ticks.{entries}
use Rattle.av_world.specs.Due.{tick_of}
use Rattle.av_world.proofs.Least.{least_is_low, least_is_reached, sooner_reached}
use Rattle.av_world.proofs.Soonest.{at_least_weaker}
use Rattle.av_world.proofs.due.soonest_of.Goals as goal

pub returns-clause-none : goal.returns-clause-none
returns-clause-none c =
    let s = c.soonest-soonest.result in let r = c.sooner.result in let es = entries c.args.ticks.now in
    let fits : FitsSigned w64 s = search rules in
    let tick : c.tick_at.result ≡ tick_of s = c.tick_at.ensures ∙ ap tick_of (to_z-of_z w64 s fits) in
    at_least_weaker r (tick_of s) es (subst (λ n. r ≤ n) tick c.sooner.ensures.other) (least_is_low s es c.soonest-soonest.ensures)

pub returns-clause-reached : goal.returns-clause-reached
returns-clause-reached c =
    let s = c.soonest-soonest.result in let r = c.sooner.result in let es = entries c.args.ticks.now in
    let fits : FitsSigned w64 s = search rules in
    let tick : c.tick_at.result ≡ tick_of s = c.tick_at.ensures ∙ ap tick_of (to_z-of_z w64 s fits) in
    let other : s ≢ pos 9223372036854775807 = search rules in
    sooner_reached c.args.most (tick_of s) r es (subst (λ n. (r ≡ c.args.most) ⊎ (r ≡ n)) tick c.sooner.ensures.either) (least_is_reached s es c.soonest-soonest.ensures other)
