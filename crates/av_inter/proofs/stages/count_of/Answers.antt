use Rattle.std.proofs.Common.{sym, ap, ◌∙◌, length}
use Rattle.av_inter.proofs.Parts.{part_there, part_not_there}
use Rattle.av_inter.proofs.stages.count_of.Goals as goal

pub returns-in-Some : goal.returns-in-Some
returns-in-Some c =
    let e = part_there c.args.clusters.now c.args.part c.in-Some.cluster.now c.in-Some.ensures.lookup.3.0 c.in-Some.ensures.lookup.1 in
    c.length_of.ensures ∙ ap length (c.as_slice.ensures.value ∙ sym e)

pub returns-in-None : goal.returns-in-None
returns-in-None c = ap length (sym (part_not_there c.args.clusters.now c.args.part c.in-None.ensures.lookup.3))
