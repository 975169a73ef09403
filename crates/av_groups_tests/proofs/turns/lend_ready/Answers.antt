use Rattle.av_groups_tests.proofs.Lent.{one_more}
use Rattle.av_groups_tests.proofs.turns.lend_ready.Goals as goal

pub loop-preserved : goal.loop-preserved
loop-preserved c = (c.in_ok-one.ensures.under_way, one_more c.args.plan.now c.loop.lent.items c.push-in-loop.new.self.items c.in-Some.one c.in_ok-one.field-0 c.in_ok-push-2.ensures.items c.in-Some.is c.in_ok-one.ensures.lent c.loop.invariant.1)

pub returns-in_ok-push-2-clause-lent : goal.returns-in_ok-push-2-clause-lent
returns-in_ok-push-2-clause-lent c = one_more c.args.plan.now c.loop.lent.items c.push-in-loop.new.self.items c.in-Some.one c.in_ok-one.field-0 c.in_ok-push-2.ensures.items c.in-Some.is c.in_ok-one.ensures.lent c.loop.invariant.1
