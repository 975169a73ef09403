-- No entry was found to be due before the one that it follows.
use Rattle.std.proofs.Common.{◌≡◌, rules, Bool, int_le}
use Rattle.std.proofs.lemmas.Fn.{always_returns_same}
use Rattle.av_types.specs.declared.tick.Entry.{Entry}
use Rattle.av_ticks.proofs.Times.{none_falls}
use Rattle.av_ticks.proofs.rising.are_rising.Goals as goal

pub returns-else-known : goal.returns-else-known
returns-else-known c = λ is.
    let le : Entry → Entry → Bool = λ a b. int_le a.due b.due in
    let always = always_returns_same _ (λ a r. r ≡ le a.0.now a.1.0.now) _ (λ a r f' call. (search rules, search rules)) in
    none_falls _ c.args.entries.now c.is_sorted_by.result is (c.is_sorted_by.ensures.cases le always)
