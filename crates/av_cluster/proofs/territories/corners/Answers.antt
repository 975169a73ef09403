use Rattle.std.proofs.Common.{◌∙◌, ap, true, false, ◌++◌}
use Rattle.av_cluster.specs.Territory.{side_if}
use Rattle.av_cluster.proofs.territories.corners.Goals as goal

pub returns : goal.returns
returns c = c.add_side-2.ensures.items ∙ ap (λ l. l ++ side_if c.args.at true) (c.add_side.ensures.items ∙ ap (λ l. l ++ side_if c.args.at false) c.new-corners.ensures)
