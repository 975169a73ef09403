use Rattle.std.proofs.Common.{◌≡◌, IsTrue, false, All}
use Rattle.std.specs.List.{AllPairs}
use Rattle.av_types.specs.Positions.{same_section}
use Rattle.av_cells.specs.Grid.{is_here}
use Rattle.av_world.specs.Views.{grid}
use Rattle.av_world_tests.proofs.worlds.sections_of.Given as goal

abbrev pub invariant-loop-block : goal.invariant-loop-block
invariant-loop-block l = record {
  loaded : All (λ s. IsTrue (is_here (grid l.world s))) l.sections.items;
  distinct : AllPairs (λ s t. same_section t s ≡ false) l.sections.items;
}
