use Rattle.std.proofs.Common.{subst, codes, List}
use Rattle.std.specs.Io.KnownBytes.{Appends}
use Rattle.av_changes.specs.declared.change.Change.{Change}
use Rattle.av_changes.specs.Changes.{change_lines}
use Rattle.av_outcomes.specs.Telling.{told}
use Rattle.av_outcomes.proofs.telling.tell.Goals as goal

pub returns-in-Ok : goal.returns-in-Ok
returns-in-Ok g c =
    told (g.O.Write.contents c.write_changes.new.out)
    (subst (λ (cs : List Change). Appends (g.O.Write.contents c.args.out.now) (g.O.Write.contents c.write_changes.new.out) (change_lines (codes "would change") cs))
    c.as_slice.ensures.value c.in-Ok.ensures) c.report.ensures
