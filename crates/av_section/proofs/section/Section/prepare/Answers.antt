-- The numbers below the limit stand in the palette.
use Rattle.std.proofs.Common.{sym, ◌∙◌}
use Rattle.av_section.proofs.FromLongs.{below_at}
use Rattle.av_section.proofs.Ready.{all_there}
use Rattle.av_section.proofs.section.Section.prepare.Goals as goal

pub returns-then-are_below-clause-ok : goal.returns-then-are_below-clause-ok
returns-then-are_below-clause-ok c =
    let s = c.args.self.now in
    all_there s.palette.items s.ready s.known c.args.numbers.now (rw c.from.ensures at (below_at c.from.result c.args.numbers.now (sym c.are_below.ensures ∙ c.if-are_below.true)))
