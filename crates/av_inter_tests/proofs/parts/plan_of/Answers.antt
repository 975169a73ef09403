use Rattle.av_inter_tests.proofs.parts.plan_of.Goals as goal

pub returns : goal.returns
returns c = record { entries = c.args.entries.now; loaded = c.all_loaded.ensures c.if-not-all_loaded.false; planned = c.in_ok-clusters.ensures.planned }
