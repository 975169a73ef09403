use Rattle.std.proofs.Common.{◌≡◌, IsTrue, All, true, subst, sym, rules}
use Rattle.av_types.specs.declared.position.SectionPos.{SectionPos}
use Rattle.av_types.proofs.SamePositions.{same_section_is}
use Rattle.av_cells.specs.Grid.{is_here}
use Rattle.av_cells.specs.Positions.{same_section}
use Rattle.av_world.specs.Views.{grid, CanSetAt}
use Rattle.av_world.proofs.worlds.World.prepare_other.Goals as goal

pub returns-then-eq-clause-prepared : goal.returns-then-eq-clause-prepared
returns-then-eq-clause-prepared c =
    let w = c.args.self.now in
    let same : same_section c.args.at c.args.ready ≡ true = search rules in
    subst (λ (s : SectionPos). IsTrue (is_here (grid w s)) → All (CanSetAt w s) c.args.numbers.now) (sym (same_section_is c.args.at c.args.ready same)) c.requires.ready
