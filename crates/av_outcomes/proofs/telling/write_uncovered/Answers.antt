use Rattle.std.proofs.Common.{codes}
use Rattle.std.specs.Fmt.{decimal}
use Rattle.av_outcomes.proofs.Lines.{told}
use Rattle.av_outcomes.proofs.telling.write_uncovered.Goals as goal

pub returns : goal.returns
returns g c =
    told c.writeln.result (g.E.Write.contents c.args.err.now) (g.E.Write.contents c.writeln.new.self) (decimal c.args.without_row)
    (codes " states have no row in the table and count as full and dark: `anvilwater states` lists them") c.writeln.ensures.bytes
