use Rattle.std.proofs.Common.{sym, ap, ◌∙◌, slice_get}
use Rattle.av_inter.proofs.Parts.{part_there, part_not_there}
use Rattle.av_inter.proofs.stages.entry_after.Goals as goal

pub returns-in-Some-clause-entry : goal.returns-in-Some-clause-entry
returns-in-Some-clause-entry c =
    let e = part_there c.args.clusters.now c.args.part c.in-Some.cluster.now c.in-Some.ensures.lookup.3.0 c.in-Some.ensures.lookup.1 in
    c.nth.ensures.entry ∙ ap (λ l. slice_get l c.args.done) (c.as_slice.ensures.value ∙ sym e)

pub returns-in-None-clause-entry : goal.returns-in-None-clause-entry
returns-in-None-clause-entry c = ap (λ l. slice_get l c.args.done) (sym (part_not_there c.args.clusters.now c.args.part c.in-None.ensures.lookup.3))
