use Rattle.std.proofs.Common.{arith, ◌∙◌, sym, inl, inr}
use Rattle.av_cluster.proofs.Forests.{joined_by, same_then}
use Rattle.av_cluster.proofs.forest.join.Goals as goal

pub returns-then-a-b : goal.returns-then-a-b
returns-then-a-b c =
    joined_by _ _ (same_then _ _ _ c.find-a.ensures.same c.find-b.ensures.same) c.args.a c.args.b c.find-a.result c.find-b.result c.find-b.ensures.inside (omega (arith, c.if-a-b.true))
    (inr (sym c.find-a.ensures.value, sym (c.find-b.ensures.value ∙ c.find-a.ensures.same.same_first c.args.b)))

pub returns-else-a-b : goal.returns-else-a-b
returns-else-a-b c =
    joined_by _ _ (same_then _ _ _ c.find-a.ensures.same c.find-b.ensures.same) c.args.a c.args.b c.find-b.result c.find-a.result (let k = c.find-b.ensures.same.count in let j = c.find-a.ensures.inside in omega arith) (omega (arith, c.if-a-b.false))
    (inl (sym c.find-a.ensures.value, sym (c.find-b.ensures.value ∙ c.find-a.ensures.same.same_first c.args.b)))
