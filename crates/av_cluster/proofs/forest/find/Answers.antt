use Rattle.std.proofs.Common.{arith, refl, ◌∙◌}
use Rattle.av_cluster.proofs.Forests.{halved, same_then, above_inside, above_group, end_is}
use Rattle.av_cluster.proofs.forest.find.Goals as goal

pub loop-parents-preserved : goal.loop-parents-preserved
loop-parents-preserved c =
    let i = c.loop-parents.invariant in
    let h = halved c.loop-parents.parents i.same.falling c.loop-parents.at _ i.inside refl in
    record {
      same = same_then _ _ _ i.same h;
      inside = above_inside c.loop-parents.parents i.same.falling c.loop-parents.at _ (let k = h.count in let j = i.inside in omega arith);
      group = above_group _ c.loop-parents.parents i.same c.loop-parents.at ∙ i.group;
    }

pub returns-clause-value : goal.returns-clause-value
returns-clause-value c = let i = c.loop-parents.invariant in end_is _ c.loop-parents.parents i.same c.loop-parents.at c.args.index c.loop-parents-test.false i.group
