use Rattle.std.proofs.Common.{◌∙◌}
use Rattle.av_types.proofs.Exits.{on_err_from}
use Rattle.av_crew.proofs.MoreTurned.{one_more, no_more}
use Rattle.av_crew.proofs.turns.turn_all.Goals as goal

pub returns-in_err-turn_one-clause-err : goal.returns-in_err-turn_one-clause-err
returns-in_err-turn_one-clause-err g c =
    let e = c.in_err-turn_one.ensures in
    on_err_from c.from_residual.result
    (record {
      count = c.loop-entry.entry-index;
      fewer = c.loop-entry-test.true;
      turned = no_more _ _ c.loop-entry.entry-index c.args.entries.now _ _ _ _ _ _ _ _ c.loop-entry.invariant.turned e.same_world e.same_made e.same_lists;
    })

pub loop-entry-preserved : goal.loop-entry-preserved
loop-entry-preserved g c =
    let e = c.in_ok-turn_one.ensures in
    record {
      turned = one_more _ _ c.loop-entry.entry-index c.args.entries.now _ _ _ _ _ _ _ _ _ c.loop-entry.invariant.turned c.loop-entry-test.true e.world e.made e.listed;
      kinds = c.turn_one.ensures.kinds;
      loaded = c.turn_one.ensures.loaded ∙ c.loop-entry.invariant.loaded;
    }
