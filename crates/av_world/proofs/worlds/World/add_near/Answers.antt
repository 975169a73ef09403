use Rattle.std.proofs.Common.{◌≡◌, IsTrue, false, sym, subst}
use Rattle.av_cells.specs.Grid.{Grid, cells_of}
use Rattle.av_world.proofs.worlds.World.add_near.Goals as goal

pub add_new-requires-clause-loaded : goal.add_new-requires-clause-loaded
add_new-requires-clause-loaded c = subst (λ (g : Grid). IsTrue ((cells_of g).loaded c.args.entry.pos)) (sym c.look_near.ensures.grid_is) c.requires.loaded

pub add_new-requires-clause-new : goal.add_new-requires-clause-new
add_new-requires-clause-new c = subst (λ (g : Grid). (cells_of g).pending c.args.entry.pos ≡ false) (sym c.look_near.ensures.grid_is) c.requires.new
