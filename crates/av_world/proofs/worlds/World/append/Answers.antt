use Rattle.std.proofs.Common.{◌≡◌, subst, sym, ap, ◌∙◌}
use Rattle.av_cells.specs.Grid.{Grid, cells_of}
use Rattle.av_cells.specs.World as cells
use Rattle.av_cells.specs.World.{listed_all, Lists}
use Rattle.av_world.specs.Appended.{entries_made, with_entries}
use Rattle.av_world.specs.Appending.{CanAppend}
use Rattle.av_world.specs.Views.{blocks, lists}
use Rattle.av_world.proofs.Appends.{can_append, entered_is}
use Rattle.av_world.proofs.Steps.{site_kept}
use Rattle.av_world.proofs.Whole.{land_after}
use Rattle.av_world.proofs.worlds.World.append.Goals as goal

pub add_all-requires-clause-new : goal.add_all-requires-clause-new
add_all-requires-clause-new c =
    let w = c.args.self.now in let ms = c.args.made.now in
    subst (λ (g : Grid). CanAppend (cells_of g) (entries_made ms)) (sym c.reserve_made.ensures.kept.grid_is)
    (can_append (blocks w) ms (c.requires.loaded c.if-self.false) (c.requires.fresh c.if-self.false) (c.requires.distinct c.if-self.false))

pub returns-clause-lists : goal.returns-clause-lists
returns-clause-lists c =
    let ms = c.args.made.now in
    c.add_all.ensures.lists ∙ ap (λ (l : Lists). listed_all l (entries_made ms)) c.reserve_made.ensures.kept.lists_are

pub returns-clause-blocks : goal.returns-clause-blocks
returns-clause-blocks c =
    let ms = c.args.made.now in let mid = c.reserve_made.new.self in
    c.add_all.ensures.blocks ∙ (entered_is (blocks mid) (entries_made ms) ∙ ap (λ (g : Grid). with_entries (cells_of g) (entries_made ms)) c.reserve_made.ensures.kept.grid_is)

pub returns-clause-site : goal.returns-clause-site
returns-clause-site c = c.add_all.ensures.site ∙ site_kept c.args.self.now c.reserve_made.new.self c.reserve_made.ensures.kept

pub returns-clause-land : goal.returns-clause-land
returns-clause-land c =
    let w = c.args.self.now in let ms = c.args.made.now in let mid = c.reserve_made.new.self in let new = c.add_all.new.self in
    let is : blocks new ≡ with_entries (blocks w) (entries_made ms) = c.add_all.ensures.blocks ∙ (entered_is (blocks mid) (entries_made ms) ∙ ap (λ (g : Grid). with_entries (cells_of g) (entries_made ms)) c.reserve_made.ensures.kept.grid_is) in
    land_after w new (blocks w).number (listed_all (lists w) (entries_made ms))
    (c.add_all.ensures.site ∙ site_kept w mid c.reserve_made.ensures.kept)
    (ap (λ (v : cells.World). v.number) is)
    (c.add_all.ensures.lists ∙ ap (λ (l : Lists). listed_all l (entries_made ms)) c.reserve_made.ensures.kept.lists_are)
