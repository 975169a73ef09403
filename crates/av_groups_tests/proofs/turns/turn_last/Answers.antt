use Rattle.av_groups_tests.proofs.Lent.{one_fewer}
use Rattle.av_groups_tests.proofs.turns.turn_last.Goals as goal

pub turn_lent-turned-requires-clause-lent : goal.turn_lent-turned-requires-clause-lent
turn_lent-turned-requires-clause-lent c = (one_fewer c.args.plan.now c.pop.new.self.items c.args.lent.now.items c.in-Some.last c.in-Some.ensures.items c.requires.lent).1

pub returns-clause-lent : goal.returns-clause-lent
returns-clause-lent c = (one_fewer c.args.plan.now c.pop.new.self.items c.args.lent.now.items c.in-Some.last c.in-Some.ensures.items c.requires.lent).0
