use Rattle.std.proofs.Common.{◌≡◌, IsTrue, false, All}
use Rattle.std.specs.List.{AllPairs}
use Rattle.av_types.specs.Positions.{same_pos}
use Rattle.av_world.specs.Views.{blocks}
use Rattle.av_world_tests.proofs.worlds.made_of.Given as goal

abbrev pub invariant-loop-entry : goal.invariant-loop-entry
invariant-loop-entry l = record {
  loaded : All (λ m. IsTrue ((blocks l.world).loaded m.entry.pos)) l.made.items;
  fresh : All (λ m. (blocks l.world).pending m.entry.pos ≡ false) l.made.items;
  distinct : AllPairs (λ a b. same_pos b.entry.pos a.entry.pos ≡ false) l.made.items;
}
